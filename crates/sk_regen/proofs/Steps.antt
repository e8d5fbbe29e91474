-- A group's parameters one after the other.
use Rattle.std.proofs.Common.{◌≡◌, ℕ, ◌+◌, ◌<◌, ◌≤◌, List, [], ◌∷◌, ◌++◌, length, get_or, drop, Bool, true, false, refl, sym, ap, ◌∙◌, subst, arith, append_assoc}
use Rattle.std.specs.Prelude.{ℤ}
use Rattle.std.proofs.lemmas.List.{drop_all, drop_more, append-nil}
use Rattle.sk_types.specs.declared.handle.ParamId.{ParamId}
use Rattle.sk_types.specs.declared.entity.ParamValue.{ParamValue}
use Rattle.sk_regen.specs.Regeneration.{point_of, fixed_of, placed}

module _ {s : ℕ} (t : ParamId → Bool) (ps : List (ParamValue s)) where
  -- ---- values of the unknown ones

  abbrev pub PointAt : List ℤ → ℕ → Type 0
  PointAt made i = made ++ point_of t (drop i ps) ≡ point_of t ps

  point-taken : (made rest : List ℤ) (p : ParamValue s) (more : List (ParamValue s)) → t p.id ≡ true → made ++ point_of t (p ∷ more) ≡ rest → (made ++ p.value ∷ []) ++ point_of t more ≡ rest
  point-taken made rest p more y e = append_assoc made (p.value ∷ []) (point_of t more) ∙ rw y at e

  point-left : (made rest : List ℤ) (p : ParamValue s) (more : List (ParamValue s)) → t p.id ≡ false → made ++ point_of t (p ∷ more) ≡ rest → made ++ point_of t more ≡ rest
  point-left made rest p more y e = rw y at e

  pub point-more : (made : List ℤ) (i : ℕ) (p : ParamValue s) → i < length ps → p ≡ get_or ps i p → t p.id ≡ true → PointAt made i → PointAt (made ++ p.value ∷ []) (i + 1)
  point-more made i p h is y e =
      point-taken made (point_of t ps) p (drop (i + 1) ps) y (subst (λ (q : ParamValue s). made ++ point_of t (q ∷ drop (i + 1) ps) ≡ point_of t ps) (sym is) (rw (drop_more ps i p h) at e))

  pub point-same : (made : List ℤ) (i : ℕ) (p : ParamValue s) → i < length ps → p ≡ get_or ps i p → t p.id ≡ false → PointAt made i → PointAt made (i + 1)
  point-same made i p h is y e =
      point-left made (point_of t ps) p (drop (i + 1) ps) y (subst (λ (q : ParamValue s). made ++ point_of t (q ∷ drop (i + 1) ps) ≡ point_of t ps) (sym is) (rw (drop_more ps i p h) at e))

  pub point-all : (made : List ℤ) (i : ℕ) → length ps ≤ i → PointAt made i → made ≡ point_of t ps
  point-all made i h e = sym (append-nil made) ∙ rw (drop_all i ps h) at e

  -- ---- the fixed ones

  abbrev pub FixedAt : List (ParamValue s) → ℕ → Type 0
  FixedAt made i = made ++ fixed_of t (drop i ps) ≡ fixed_of t ps

  fixed-taken : (made rest : List (ParamValue s)) (p : ParamValue s) (more : List (ParamValue s)) → t p.id ≡ false → made ++ fixed_of t (p ∷ more) ≡ rest → (made ++ p ∷ []) ++ fixed_of t more ≡ rest
  fixed-taken made rest p more y e = append_assoc made (p ∷ []) (fixed_of t more) ∙ rw y at e

  fixed-left : (made rest : List (ParamValue s)) (p : ParamValue s) (more : List (ParamValue s)) → t p.id ≡ true → made ++ fixed_of t (p ∷ more) ≡ rest → made ++ fixed_of t more ≡ rest
  fixed-left made rest p more y e = rw y at e

  pub fixed-more : (made : List (ParamValue s)) (i : ℕ) (p : ParamValue s) → i < length ps → p ≡ get_or ps i p → t p.id ≡ false → FixedAt made i → FixedAt (made ++ p ∷ []) (i + 1)
  fixed-more made i p h is y e =
      fixed-taken made (fixed_of t ps) p (drop (i + 1) ps) y (subst (λ (q : ParamValue s). made ++ fixed_of t (q ∷ drop (i + 1) ps) ≡ fixed_of t ps) (sym is) (rw (drop_more ps i p h) at e))

  pub fixed-same : (made : List (ParamValue s)) (i : ℕ) (p : ParamValue s) → i < length ps → p ≡ get_or ps i p → t p.id ≡ true → FixedAt made i → FixedAt made (i + 1)
  fixed-same made i p h is y e =
      fixed-left made (fixed_of t ps) p (drop (i + 1) ps) y (subst (λ (q : ParamValue s). made ++ fixed_of t (q ∷ drop (i + 1) ps) ≡ fixed_of t ps) (sym is) (rw (drop_more ps i p h) at e))

  pub fixed-all : (made : List (ParamValue s)) (i : ℕ) → length ps ≤ i → FixedAt made i → made ≡ fixed_of t ps
  fixed-all made i h e = sym (append-nil made) ∙ rw (drop_all i ps h) at e

  -- ---- all of them, the unknown ones at a point

  module _ (x : List ℤ) where
    abbrev pub PlacedAt : List (ParamValue s) → ℕ → List ℤ → Type 0
    PlacedAt made i zs = made ++ placed t (drop i ps) zs ≡ placed t ps x

    pub placed-first : (made : List (ParamValue s)) (zs : List ℤ) → made ≡ [] → zs ≡ x → PlacedAt made 0 zs
    placed-first made zs e f = ap (λ (us : List (ParamValue s)). us ++ placed t ps zs) e ∙ ap (placed t ps) f

    -- what was pushed, and what is left of the point
    pub placed-pushed : (qs made : List (ParamValue s)) (q p : ParamValue s) (ys zs : List ℤ) (i : ℕ) → qs ≡ made ++ q ∷ [] → q ≡ p → ys ≡ zs → PlacedAt (made ++ p ∷ []) i zs → PlacedAt qs i ys
    placed-pushed qs made q p ys zs i e f g h = rw (e, f, g) h

    moved : (made : List (ParamValue s)) (p : ParamValue s) (more : List (ParamValue s)) (z : ℤ) (zs : List ℤ) → t p.id ≡ true → made ++ placed t (p ∷ more) (z ∷ zs) ≡ placed t ps x
        → (made ++ record { id = p.id; value = z } ∷ []) ++ placed t more zs ≡ placed t ps x
    moved made p more z zs y e = append_assoc made (record { id = p.id; value = z } ∷ []) (placed t more zs) ∙ rw y at e

    kept : (made : List (ParamValue s)) (p : ParamValue s) (more : List (ParamValue s)) (zs : List ℤ) → t p.id ≡ false → made ++ placed t (p ∷ more) zs ≡ placed t ps x
        → (made ++ p ∷ []) ++ placed t more zs ≡ placed t ps x
    kept made p more [] y e = append_assoc made (p ∷ []) (placed t more []) ∙ ap (λ l. made ++ p ∷ l) (none more) ∙ e
      where
        none : (qs : List (ParamValue s)) → placed t qs [] ≡ qs
        none [] = refl
        none (q ∷ qs) = refl
    kept made p more (z ∷ zs) y e = append_assoc made (p ∷ []) (placed t more (z ∷ zs)) ∙ rw y at e

    past : (made : List (ParamValue s)) (p : ParamValue s) (more : List (ParamValue s)) → made ++ placed t (p ∷ more) [] ≡ placed t ps x → (made ++ p ∷ []) ++ placed t more [] ≡ placed t ps x
    past made p more e = append_assoc made (p ∷ []) (placed t more []) ∙ ap (λ l. made ++ p ∷ l) (none more) ∙ e
      where
        none : (qs : List (ParamValue s)) → placed t qs [] ≡ qs
        none [] = refl
        none (q ∷ qs) = refl

    at-place : (made : List (ParamValue s)) (i : ℕ) (p : ParamValue s) (zs : List ℤ) → i < length ps → p ≡ get_or ps i p → PlacedAt made i zs → made ++ placed t (p ∷ drop (i + 1) ps) zs ≡ placed t ps x
    at-place made i p zs h is e = subst (λ (q : ParamValue s). made ++ placed t (q ∷ drop (i + 1) ps) zs ≡ placed t ps x) (sym is) (rw (drop_more ps i p h) at e)

    pub placed-moved : (made : List (ParamValue s)) (i : ℕ) (p : ParamValue s) (z : ℤ) (zs : List ℤ) → i < length ps → p ≡ get_or ps i p → t p.id ≡ true → PlacedAt made i (z ∷ zs) → PlacedAt (made ++ record { id = p.id; value = z } ∷ []) (i + 1) zs
    placed-moved made i p z zs h is y e = moved made p (drop (i + 1) ps) z zs y (at-place made i p (z ∷ zs) h is e)

    pub placed-kept : (made : List (ParamValue s)) (i : ℕ) (p : ParamValue s) (zs : List ℤ) → i < length ps → p ≡ get_or ps i p → t p.id ≡ false → PlacedAt made i zs → PlacedAt (made ++ p ∷ []) (i + 1) zs
    placed-kept made i p zs h is y e = kept made p (drop (i + 1) ps) zs y (at-place made i p zs h is e)

    pub placed-ended : (made : List (ParamValue s)) (i : ℕ) (p : ParamValue s) (zs : List ℤ) → i < length ps → p ≡ get_or ps i p → length zs ≡ 0 → PlacedAt made i zs → PlacedAt (made ++ p ∷ []) (i + 1) zs
    placed-ended made i p [] h is none e = past made p (drop (i + 1) ps) (at-place made i p [] h is e)
    placed-ended made i p (z ∷ zs) h is none e = absurd (omega (arith, none))

    pub placed-all : (made : List (ParamValue s)) (i : ℕ) (zs : List ℤ) → length ps ≤ i → PlacedAt made i zs → made ≡ placed t ps x
    placed-all made i zs h e = sym (append-nil made) ∙ ends zs (rw (drop_all i ps h) at e)
      where
        ends : (zs : List ℤ) → made ++ placed {s = s} t [] zs ≡ placed t ps x → made ++ [] ≡ placed t ps x
        ends zs e = e
