-- What a call answers, as the definitions have it.
use Rattle.std.specs.Prelude.{ℕ, Vec, Result, Ok, Err}
use Rattle.sk_types.specs.declared.entity.Outline.{Outline}
use Rattle.sk_model.specs.declared.faults.ModelFault.{ModelFault}
use Rattle.sk_model.specs.declared.remap.GroupList.{GroupList}
use Rattle.sk_chain.specs.Outlines.{Outlined}

abbrev pub outlined_in : {s : ℕ} {A : Type 0} → Result (Outline s × Vec GroupList A) ModelFault → Result (Outlined s) ModelFault
outlined_in (Ok p) = Ok (record { outline = p.0; lists = p.1.items })
outlined_in (Err f) = Err f
