-- The entities that a group draws, as those of all that pass a test.
use Rattle.std.proofs.Common.{◌≡◌, ◌==◌, ◌&&◌, ℕ, zero, suc, ◌<◌, List, [], ◌∷◌, ◌++◌, length, map, Bool, true, false, cond, refl, ap, ◌∙◌, arith}
use Rattle.std.specs.Prelude.{slice_index_or, if◌then◌else◌, Result, Ok, Err, is_ok}
use Rattle.std.specs.List.{All, AllByRecursion, Contains, filter, flat_map}
use Rattle.std.specs.List.Sorted.{IsStrictlySortedBy}
use Rattle.std.specs.Ordering.{nat_cmp}
use Rattle.std.specs.declared.cmp.Ordering.TheVariants.{Less}
use Rattle.std.proofs.lemmas.Bool.Decides.{nat_tests}
use Rattle.std.proofs.lemmas.List.Elements.{All-weaker, All-filter, All-contains_itself}
use Rattle.sk_types.specs.declared.entity.Entity.{Entity}
use Rattle.sk_types.specs.declared.entity.Act.{Act}
use Rattle.sk_types.specs.Lookups.{Rise, entity_handle}
use Rattle.sk_dxf.specs.declared.shape.Shape.{Shape}
use Rattle.sk_dxf.specs.declared.shape.LeftOut.{LeftOut}
use Rattle.sk_dxf.specs.declared.shape.LeftOut.TheVariants.{Construction}
use Rattle.sk_dxf.specs.Plane.{PlaneNumbers}
use Rattle.sk_dxf.specs.Shapes.{shape_by_kind, shape_of}
use Rattle.sk_dxf.specs.Drawing.{section_head, section_end, drawn_text, entity_text, entity_texts}
use Rattle.sk_dxf.specs.DrawingLaws.{Draws, IsDrawingOf}

-- ---- lists of those that pass

before : {X : Type 0} (P : X → Type 0) (x : X) (xs : List X) → P x → All P xs → (k : ℕ) (d : X) → k < length (x ∷ xs) → P (slice_index_or (x ∷ xs) k d)
before P x xs h t zero d l = h
before P x xs h t (suc k) d l = t k d (omega arith)

passing : {X : Type 0} (p : X → Bool) (x : X) (kept : List X) (b : Bool) → p x ≡ b → All (λ y. p y ≡ true) kept → All (λ y. p y ≡ true) (cond b (x ∷ kept) kept)
passing p x kept true e h = before (λ y. p y ≡ true) x kept e h
passing p x kept false e h = h

all_pass : {X : Type 0} (p : X → Bool) (xs : List X) → All (λ x. p x ≡ true) (filter p xs)
all_pass p [] = λ k d l. absurd (omega arith)
all_pass p (x ∷ xs) = passing p x (filter p xs) (p x) refl (all_pass p xs)

here : {X : Type 0} (b : Bool) (y x : X) (kept : List X) → b ≡ true → y ≡ x → Contains (cond b (y ∷ kept) kept) x
here true y x kept t e = (0, omega arith, e)
here false y x kept t e = absurd (cc)

there : {X : Type 0} (b : Bool) (y x : X) (kept : List X) → Contains kept x → Contains (cond b (y ∷ kept) kept) x
there true y x kept c = (suc c.0, omega (arith, c.1), c.2)
there false y x kept c = c

kept_at : {X : Type 0} (p : X → Bool) (xs : List X) (x : X) → p x ≡ true → (k : ℕ) → k < length xs → slice_index_or xs k x ≡ x → Contains (filter p xs) x
kept_at p [] x t k l e = absurd (omega arith)
kept_at p (y ∷ ys) x t zero l e = here (p y) y x (filter p ys) (ap p e ∙ t) e
kept_at p (y ∷ ys) x t (suc k) l e = there (p y) y x (filter p ys) (kept_at p ys x t k (omega arith) e)

-- ---- rising handles

below_picked : {s : ℕ} (P : ℕ → Type 0) (e : Entity s) (kept : List (Entity s)) (b : Bool) → P e.id.0 → AllByRecursion P (map entity_handle kept) → AllByRecursion P (map entity_handle (cond b (e ∷ kept) kept))
below_picked P e kept true h t = (h, t)
below_picked P e kept false h t = t

below_kept : {s : ℕ} (p : Entity s → Bool) (P : ℕ → Type 0) (es : List (Entity s)) → AllByRecursion P (map entity_handle es) → AllByRecursion P (map entity_handle (filter p es))
below_kept p P [] h = tt
below_kept p P (e ∷ es) h = below_picked P e (filter p es) (p e) h.0 (below_kept p P es h.1)

rise_picked : {s : ℕ} (e : Entity s) (kept : List (Entity s)) (b : Bool) → AllByRecursion (λ n. nat_cmp e.id.0 n ≡ Less) (map entity_handle kept) → Rise kept → Rise (cond b (e ∷ kept) kept)
unfolding IsStrictlySortedBy
rise_picked e kept true h t = (h, t)
rise_picked e kept false h t = t

rise_kept : {s : ℕ} (p : Entity s → Bool) (es : List (Entity s)) → Rise es → Rise (filter p es)
unfolding IsStrictlySortedBy
rise_kept p [] h = tt
rise_kept p (e ∷ es) h = rise_picked e (filter p es) (p e) (below_kept p (λ n. nat_cmp e.id.0 n ≡ Less) es h.0) (rise_kept p es h.1)

-- ---- what the group draws

both : (a b : Bool) → (a && b) ≡ true → (a ≡ true) × (b ≡ true)
both true true e = (refl, refl)
both true false e = absurd (cc)
both false b e = absurd (cc)

equal_of : (n m : ℕ) → (n == m) ≡ true → n ≡ m
equal_of n m e = grind (arith, nat_tests, e)

test_of : (n m : ℕ) → n ≡ m → (n == m) ≡ true
test_of n m e = grind (arith, nat_tests)

ok_of : {A : Type 0} (r : Result A LeftOut) → is_ok r ≡ true → (x : A) × (r ≡ Ok x)
ok_of (Ok x) e = (x, refl)
ok_of (Err why) e = absurd (cc)

solid_of : {A : Type 0} (c : Bool) (r : Result A LeftOut) → is_ok (if c then Err Construction else r) ≡ true → c ≡ false
solid_of true r e = absurd (cc)
solid_of false r e = refl

module _ {s : ℕ} (plane : PlaneNumbers) (acts : List (Act s)) (group : ℕ) where
  is_drawn : Entity s → Bool
  is_drawn e = e.group.0 == group && is_ok (shape_of plane acts e)

  text_kept : (own : Bool) (r : Result (Shape s) LeftOut) (e : Entity s) (kept : List (Entity s)) (rest : List ℕ) → shape_of plane acts e ≡ r →
      rest ≡ flat_map (λ x. drawn_text (shape_of plane acts x)) kept →
      (if own then drawn_text r else []) ++ rest ≡ flat_map (λ x. drawn_text (shape_of plane acts x)) (cond (own && is_ok r) (e ∷ kept) kept)
  text_kept true (Ok shape) e kept rest same h = rw (same, h) refl
  text_kept true (Err why) e kept rest same h = h
  text_kept false r e kept rest same h = h

  texts_kept : (es : List (Entity s)) → entity_texts plane acts group es ≡ flat_map (λ x. drawn_text (shape_of plane acts x)) (filter is_drawn es)
  unfolding entity_texts entity_text is_drawn
  texts_kept [] = refl
  texts_kept (e ∷ es) = text_kept (e.group.0 == group) (shape_of plane acts e) e (filter is_drawn es) (entity_texts plane acts group es) refl (texts_kept es)

  solid : (e : Entity s) → is_ok (shape_of plane acts e) ≡ true → e.construction ≡ false
  unfolding shape_of
  solid e h = solid_of e.construction (shape_by_kind plane acts e) h

  draws_of : (e : Entity s) → is_drawn e ≡ true → Draws plane acts group e
  unfolding is_drawn
  draws_of e h =
      let t : ((e.group.0 == group) ≡ true) × (is_ok (shape_of plane acts e) ≡ true) = both (e.group.0 == group) (is_ok (shape_of plane acts e)) h in
      let d : (x : Shape s) × (shape_of plane acts e ≡ Ok x) = ok_of (shape_of plane acts e) t.1 in
      record { own = equal_of e.group.0 group t.0; solid = solid e t.1; shape = d.0; drawn = d.1 }

  is_drawn-of : (e : Entity s) → Draws plane acts group e → is_drawn e ≡ true
  unfolding is_drawn
  is_drawn-of e d = rw (test_of e.group.0 group d.own, d.drawn) refl

  pub drawing_of : (es : List (Entity s)) → Rise es → IsDrawingOf plane acts group es (section_head ++ (entity_texts plane acts group es ++ section_end))
  drawing_of es rise = record {
    drawn = filter is_drawn es;
    each = All-weaker (λ e. is_drawn e ≡ true) (Draws plane acts group) draws_of (filter is_drawn es) (all_pass is_drawn es);
    known = All-filter is_drawn (Contains es) es (All-contains_itself es);
    none_missing = λ e c d. kept_at is_drawn es e (is_drawn-of e d) c.0 c.1 c.2;
    rise = rise_kept is_drawn es rise;
    whole = ap (λ (t : List ℕ). section_head ++ (t ++ section_end)) (texts_kept es);
  }
