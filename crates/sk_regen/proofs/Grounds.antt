-- What a group is regenerated over, where it is found and its numbers are whole.
use Rattle.std.proofs.Common.{◌≡◌, ℕ, List, [], ◌∷◌, map, refl, ap, ◌∙◌}
use Rattle.sk_types.specs.declared.entity.Numbers.{Numbers}
use Rattle.sk_types.specs.declared.entity.Outline.{Outline}
use Rattle.sk_types.specs.declared.entity.ParamValue.{ParamValue}
use Rattle.sk_types.specs.declared.group.Group.{Group}
use Rattle.sk_types.specs.declared.handle.ParamId.{ParamId}
use Rattle.sk_types.specs.Lookups.{value_handle, act_handle}
use Rattle.sk_model.specs.Typed.{Typed}
use Rattle.sk_regen.specs.Ground.{HasAll, group_works}
use Rattle.sk_regen.specs.GroupWorks.{blank, params_of, reference}
use Rattle.sk_regen.specs.Regeneration.{started}
use Rattle.sk_regen.proofs.Folded.{ids_started as started-of}
use Rattle.sk_regen.proofs.Placed.{id_of}

pub blank-whole : {s : ℕ} (m : Typed s) (o : Outline s) (n : Numbers s) → n ≡ blank m.groups o.entities → HasAll m o n
blank-whole m o n e = record { params = ap (λ (k : Numbers _). map value_handle k.params) e; acts = ap (λ (k : Numbers _). map act_handle k.acts) e }

pub ids-reference : (s : ℕ) (ps : List ParamId) → map id_of (map (reference s) ps) ≡ ps
ids-reference s [] = refl
ids-reference s (p ∷ ps) = ap (λ (l : List ParamId). p ∷ l) (ids-reference s ps)

pub ids-started : {s : ℕ} (m : Typed s) (o : Outline s) (n : Numbers s) (g : Group s) (ps : List (ParamValue s)) → ps ≡ started (group_works m o g) m.params n g.id → map id_of ps ≡ params_of o.entities g
ids-started {s} m o n g ps e = ap (map id_of) e ∙ started-of s (group_works m o g) m.params n g.id (params_of o.entities g)
