-- The numbers of a model before any group is regenerated.
use Rattle.std.proofs.Common.{◌≡◌, inl, inr, ℕ, List, [], ◌∷◌, ◌++◌, map, true, false, refl}
use Rattle.std.specs.Prelude.{flat_map, if◌then◌else◌}
use Rattle.std.proofs.lemmas.Bool.{cases_Bool}
use Rattle.std.proofs.lemmas.List.{map-append, append-nil}
use Rattle.sk_types.specs.declared.handle.ParamId.{ParamId}
use Rattle.sk_types.specs.declared.entity.Act.{Act}
use Rattle.sk_types.specs.declared.entity.Entity.{Entity}
use Rattle.sk_types.specs.declared.entity.ParamValue.{ParamValue}
use Rattle.sk_regen.specs.GroupWorks.{nought, stands, no_act, all_acts}

abbrev pub noughts : {s : ℕ} → List ParamId → List (ParamValue s)
noughts ids = map nought ids

pub noughts-gives : {s : ℕ} (p : ParamId) (ps : List ParamId) → noughts {s = s} (p ∷ ps) ≡ (nought p ∷ []) ++ noughts ps
noughts-gives p ps = refl

abbrev pub noughts_of : {s : ℕ} {A : Type 0} → (A → List ParamId) → List A → List (ParamValue s)
noughts_of own xs = map nought (flat_map own xs)

pub noughts_of-gives : {s : ℕ} {A : Type 0} (own : A → List ParamId) (x : A) (xs : List A) → noughts_of {s = s} own (x ∷ xs) ≡ map nought (own x) ++ noughts_of own xs
noughts_of-gives own x xs = map-append nought (own x) (flat_map own xs)

abbrev pub act_if : {s : ℕ} → Entity s → List (Act s)
act_if e = if stands e then no_act e ∷ [] else []

pub acts-gives : {s : ℕ} (e : Entity s) (es : List (Entity s)) → all_acts (e ∷ es) ≡ act_if e ++ all_acts es
acts-gives e es = elim (cases_Bool (stands e)) [ inl t ↦ rw t refl | inr f ↦ rw f refl ]

pub act-there : {s : ℕ} (made : List (Act s)) (e : Entity s) → stands e ≡ true → made ++ act_if e ≡ made ++ no_act e ∷ []
act-there made e t = rw t refl

pub act-none : {s : ℕ} (made : List (Act s)) (e : Entity s) → stands e ≡ false → made ++ act_if e ≡ made
act-none made e f = rw f (append-nil made)
