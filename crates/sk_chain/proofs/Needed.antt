-- Parts that stand in four places: their first fault, and whether one of them is of some sort.
use Rattle.std.proofs.Common.{◌≡◌, ◌≤◌, List, [], ◌∷◌, length, Bool, false, Option, Some, None, refl, arith}
use Rattle.std.specs.Prelude.{◌||◌}
use Rattle.std.specs.List.{list_any}
use Rattle.std.specs.Option.{option_or}
use Rattle.sk_types.specs.declared.constraint.Need.{Need}
use Rattle.sk_types.specs.Needs.{filled_up}
use Rattle.sk_model.specs.declared.faults.ModelFault.{ModelFault}
use Rattle.sk_chain.specs.Outlines.{first_fault}

-- up to the first empty place
abbrev pub placed_fault : (Need → Option ModelFault) → List (Option Need) → Option ModelFault
placed_fault fault [] = None
placed_fault fault (None ∷ ns) = None
placed_fault fault (Some n ∷ ns) = option_or (fault n) (placed_fault fault ns)

pub filled_fault : (fault : Need → Option ModelFault) (ns : List Need) → length ns ≤ 4 → placed_fault fault (filled_up ns) ≡ first_fault fault ns
filled_fault fault [] h = refl
filled_fault fault (a ∷ []) h = refl
filled_fault fault (a ∷ b ∷ []) h = refl
filled_fault fault (a ∷ b ∷ c ∷ []) h = refl
filled_fault fault (a ∷ b ∷ c ∷ d ∷ []) h = refl
filled_fault fault (a ∷ b ∷ c ∷ d ∷ e ∷ ns) h = absurd (omega arith)

-- whether one holds, up to the first empty place
abbrev pub placed_any : (Need → Bool) → List (Option Need) → Bool
placed_any test [] = false
placed_any test (None ∷ ns) = false
placed_any test (Some n ∷ ns) = test n || placed_any test ns

pub filled_any : (test : Need → Bool) (ns : List Need) → length ns ≤ 4 → placed_any test (filled_up ns) ≡ list_any test ns
filled_any test [] h = refl
filled_any test (a ∷ []) h = refl
filled_any test (a ∷ b ∷ []) h = refl
filled_any test (a ∷ b ∷ c ∷ []) h = refl
filled_any test (a ∷ b ∷ c ∷ d ∷ []) h = refl
filled_any test (a ∷ b ∷ c ∷ d ∷ e ∷ ns) h = absurd (omega arith)
