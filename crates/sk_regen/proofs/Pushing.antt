-- Loops that push what each thing of a list gives.
use Rattle.std.proofs.Common.{◌≡◌, ℕ, ◌+◌, ◌<◌, ◌≤◌, List, [], ◌∷◌, ◌++◌, length, get_or, drop, sym, ap, ◌∙◌, subst, append_assoc}
use Rattle.std.proofs.lemmas.List.{drop_all, drop_more, append-nil}

module _ {A B : Type 0} (f : List A → List B) (g : A → List B) (gives : (x : A) (xs : List A) → f (x ∷ xs) ≡ g x ++ f xs) (xs : List A) (whole : List B) where
  -- what is pushed so far, and what the things behind the place give
  abbrev pub PushedAt : List B → ℕ → Type 0
  PushedAt made i = made ++ f (drop i xs) ≡ whole

  pub pushed-more : (made : List B) (i : ℕ) (x : A) → i < length xs → x ≡ get_or xs i x → PushedAt made i → PushedAt (made ++ g x) (i + 1)
  pushed-more made i x inside is at =
      append_assoc made (g x) (f (drop (i + 1) xs)) ∙ ap (λ (l : List B). made ++ l) (sym (gives x (drop (i + 1) xs)))
      ∙ subst (λ (y : A). made ++ f (y ∷ drop (i + 1) xs) ≡ whole) (sym is) (rw (drop_more xs i x inside) at at)

  pub pushed-all : (made : List B) (i : ℕ) → f [] ≡ [] → length xs ≤ i → PushedAt made i → made ≡ whole
  pushed-all made i none past at = sym (append-nil made) ∙ ap (λ (l : List B). made ++ l) (sym none) ∙ rw (drop_all i xs past) at at
