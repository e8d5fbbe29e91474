-- Histories as they are held.
use Rattle.std.proofs.Common.{◌≡◌, inl, inr, ℕ, ◌+◌, ◌<◌, ◌≤◌, List, [], ◌∷◌, ◌++◌, length, get_or, take, set, sym, ap, ◌∙◌, arith}
use Rattle.std.specs.List.{swap}
use Rattle.std.proofs.lemmas.List.{take-set-le, take_more_set, take-append-le, length-append, length-set}
use Rattle.std.proofs.Math.Seq.{get_or-append_seam}
use Rattle.std.proofs.lemmas.List.Edits.{swap_is}
use Rattle.std.proofs.lemmas.Bool.{cases_Bool, ltb-true, ltb-false}
use Rattle.std.specs.Prelude.{nat_lt}

module _ {X : Type 0} (es : List X) (e : X) (p : ℕ) (within : p ≤ length es) where
  size : length (es ++ e ∷ []) ≡ length es + 1
  size = length-append es (e ∷ [])

  -- the new entry in the place of the first that can be redone, where there is one
  before-last : p < length es → take (p + 1) (set (set (es ++ e ∷ []) p e) (length es) (get_or (es ++ e ∷ []) p e)) ≡ take p (es ++ e ∷ []) ++ e ∷ []
  before-last l =
      take-set-le (p + 1) (set (es ++ e ∷ []) p e) (length es) (get_or (es ++ e ∷ []) p e) (omega (arith, l))
      ∙ take_more_set (es ++ e ∷ []) p e (omega (arith, size, l))

  pub swapped : take (p + 1) (swap (es ++ e ∷ []) p (length es)) ≡ take p es ++ e ∷ []
  swapped =
      let ys = es ++ e ∷ [] in
      ap (take (p + 1)) (sym (swap_is ys p (length es) e (omega (arith, size, within)) (omega (arith, size))))
      ∙ ap (λ (x : X). take (p + 1) (set (set ys p x) (length es) (get_or ys p e))) (get_or-append_seam es e [] e)
      ∙ elim (cases_Bool (nat_lt p (length es))) [
        | inl t ↦ before-last (ltb-true p (length es) t)
        | inr f ↦ (let h = ltb-false p (length es) f in at-last (omega (arith, h, within)))
      ]
      ∙ ap (λ (t : List X). t ++ e ∷ []) (take-append-le p es (e ∷ []) within)
    where
      at-last : p ≡ length es → take (p + 1) (set (set (es ++ e ∷ []) p e) (length es) (get_or (es ++ e ∷ []) p e)) ≡ take p (es ++ e ∷ []) ++ e ∷ []
      at-last is =
          ap (λ (k : ℕ). take (p + 1) (set (set (es ++ e ∷ []) p e) k (get_or (es ++ e ∷ []) p e))) (sym is)
          ∙ ap (λ (x : X). take (p + 1) (set (set (es ++ e ∷ []) p e) p x)) (ap (λ (k : ℕ). get_or (es ++ e ∷ []) k e) is ∙ get_or-append_seam es e [] e)
          ∙ take_more_set (set (es ++ e ∷ []) p e) p e (omega (arith, size, within, length-set (es ++ e ∷ []) p e))
          ∙ ap (λ (t : List X). t ++ e ∷ []) (take-set-le p (es ++ e ∷ []) p e (omega arith))
