-- What exact zeros leave as it is: a cell that is 0 in the pivot's row, and a row whose cell in the pivot's column is 0.
-- A row whose factor only rounds to 0 isn't left: its cell in that column is set to 0.
use Rattle.std.proofs.Common.{◌≡◌, ℕ, zero, suc, ◌<◌, ◌≤◌, ◌+◌, ◌*◌, ◌/◌, ◌^◌, ap, sym, ◌∙◌, refl, List, [], ◌∷◌, length, ℤ, pos, ◌-ℤ◌, ◌*ℤ◌, arith, Some, Bool, true, false}
use Rattle.std.specs.Prelude.{slice_set, unsigned_abs, option_map, option_and_then}
use Rattle.std.specs.List.{All}
use Rattle.std.proofs.lemmas.Int.{ints}
use Rattle.std.proofs.lemmas.Nat.{pow_pos}
use Rattle.std.proofs.lemmas.List.Elements.{All-head, All-tail}
use native.Mathlib.Nat.{div-eq_of_lt}
use Rattle.sk_num.specs.Division.{nearest, signed, differ}
use Rattle.std.specs.Int.{is_negative}
use Rattle.sk_num.specs.Limit.{is_in_limit, grid_of}
use Rattle.sk_elim.specs.Elimination.{cell_less, row_less, cell, cleared}
use Rattle.sk_num.specs.Rounding.{rounded_product, rounded_quotient}

signed-nought : (b : Bool) → signed b 0 ≡ pos 0
signed-nought true = refl
signed-nought false = refl

nearest-nought : (q : ℤ) → 0 < unsigned_abs q → nearest (pos 0) q ≡ pos 0
nearest-nought q h =
    let z : (2 * 0 + unsigned_abs q) / (2 * unsigned_abs q) ≡ 0 = div-eq_of_lt (omega (arith, h)) in
    rw z (signed-nought (differ (is_negative (pos 0)) (is_negative q)))

kept : (a m : ℤ) → m ≡ pos 0 → is_in_limit a ≡ true → grid_of (a -ℤ m) ≡ Some a
kept a m e h = let z : a -ℤ m ≡ a = omega (arith, ints, e) in rw (z, h) refl

pub product-nought : (s : ℕ) (f p : ℤ) → f *ℤ p ≡ pos 0 → rounded_product s f p ≡ Some (pos 0)
product-nought s f p e = let z = nearest-nought (pos (2 ^ s)) (pow_pos s) in rw (e, z) refl

-- a cell stays where the factor or the pivot's cell is 0
pub cell_less-still : (s : ℕ) (f a p : ℤ) → f *ℤ p ≡ pos 0 → is_in_limit a ≡ true → cell_less s f a p ≡ Some a
cell_less-still s f a p e h = rw (product-nought s f p e) (kept a (pos 0) refl h)

row_less-still : (s : ℕ) (us ps : List ℤ) → length us ≤ length ps → All (λ a. is_in_limit a ≡ true) us → row_less s (pos 0) us ps ≡ Some us
row_less-still s [] ps l h = refl
row_less-still s (a ∷ us) [] l h = absurd (omega arith)
row_less-still s (a ∷ us) (p ∷ ps) l h =
    let z : pos 0 *ℤ p ≡ pos 0 = omega (arith, ints) in
    let c = cell_less-still s (pos 0) a p z (All-head (λ a. is_in_limit a ≡ true) a us h) in
    let r = row_less-still s us ps (omega arith) (All-tail (λ a. is_in_limit a ≡ true) a us h) in
    rw (c, r) refl

set-same : (us : List ℤ) (c : ℕ) → cell us c ≡ pos 0 → slice_set us c (pos 0) ≡ us
set-same [] c h = refl
set-same (a ∷ us) zero h = ap (λ x. x ∷ us) (sym h)
set-same (a ∷ us) (suc c) h = ap (λ xs. a ∷ xs) (set-same us c h)

-- a row stays where its cell in the pivot's column is 0
pub cleared-still : (s c : ℕ) (ps us : List ℤ) → 0 < unsigned_abs (cell ps c) → cell us c ≡ pos 0 → length us ≤ length ps → All (λ a. is_in_limit a ≡ true) us → cleared s c ps us ≡ Some us
cleared-still s c ps us h e l in_limit =
    let m : pos 0 *ℤ pos (2 ^ s) ≡ pos 0 = omega (arith, ints) in
    let f : rounded_quotient s (cell us c) (cell ps c) ≡ Some (pos 0) =
    ap (λ z. rounded_quotient s z (cell ps c)) e ∙ ap (λ z. grid_of (nearest z (cell ps c))) m ∙ ap grid_of (nearest-nought (cell ps c) h) in
    ap (option_and_then (λ f. option_map (λ xs. slice_set xs c (pos 0)) (row_less s f us ps))) f
    ∙ ap (option_map (λ xs. slice_set xs c (pos 0))) (row_less-still s us ps l in_limit) ∙ ap (λ xs. Some xs) (set-same us c e)
