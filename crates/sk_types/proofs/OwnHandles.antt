-- Own parameters that are all handles.
use Rattle.std.proofs.Common.{◌≡◌, inl, inr, ℕ, zero, suc, ◌+◌, ◌<◌, ◌^◌, List, [], ◌∷◌, ◌++◌, length, nat_lt, refl, arith}
use Rattle.std.specs.List.{All, AllByRecursion}
use Rattle.std.proofs.lemmas.Bool.{ltb-true, ltb-false}
use Rattle.std.proofs.lemmas.List.Elements.{recursion_from_All}
use Rattle.sk_types.specs.declared.handle.ParamId.{ParamId}
use Rattle.sk_types.specs.declared.entity.Entity.{Entity}
use Rattle.sk_types.specs.declared.entity.Numbering.TheVariants.{Own}
use Rattle.sk_types.specs.Lists.{each_below}
use Rattle.sk_types.specs.ListLaws.{length-each_below}
use Rattle.sk_types.specs.Params.{own_params, own_count}
use Rattle.sk_types.specs.SearchLaws.{two}

all_front : {A : Type 0} (P : A → Type 0) (xs ys : List A) → AllByRecursion P (xs ++ ys) → AllByRecursion P xs
all_front P [] ys h = tt
all_front P (x ∷ xs) ys h = (h.0, all_front P xs ys h.1)

all_back : {A : Type 0} (P : A → Type 0) (xs ys : List A) → AllByRecursion P (xs ++ ys) → AllByRecursion P ys
all_back P [] ys h = h
all_back P (x ∷ xs) ys h = all_back P xs ys h.1

below_at : {A : Type 0} (P : A → Type 0) (f : ℕ → A) (n i : ℕ) → AllByRecursion P (each_below n f) → i < n → P (f i)
below_at P f zero i h l = absurd (omega arith)
below_at P f (suc n) i h l = elim (two (nat_lt i n)) [
  | inl e ↦ below_at P f n i (all_front P (each_below n f) (f n ∷ []) h) (ltb-true i n e)
  | inr e ↦ let last = all_back P (each_below n f) (f n ∷ []) h in let k = ltb-false i n e in let same : i ≡ n = omega arith in rw same last.0
]

pub own_handle : {s : ℕ} (e : Entity s) (p : ParamId) (i n : ℕ) → e.numbers ≡ Own p → All (λ (q : ParamId). q.0 < 2 ^ 32) (own_params e) → n ≡ length (own_params e) → i < n → p.0 + i < 2 ^ 32
own_handle e p i n h fit c l =
    let f : ℕ → ParamId = λ k. record { 0 = p.0 + k } in
    let all = rw h at (recursion_from_All (λ (q : ParamId). q.0 < 2 ^ 32) (own_params e) fit) in
    let count = rw (h, length-each_below f (own_count e.kind)) at c in
    below_at (λ (q : ParamId). q.0 < 2 ^ 32) f (own_count e.kind) i all (omega (arith, l, count))
