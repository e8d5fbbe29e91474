-- A cross product is at a right angle to both its factors.
use Rattle.std.proofs.Common.{◌≡◌, ℕ, ◌≤◌, ◌+◌, ap, ◌∙◌, ℤ, pos, ◌+ℤ◌, ◌-ℤ◌, ◌*ℤ◌, arith}
use Rattle.std.proofs.lemmas.Int.{ints}
use Rattle.std.proofs.Math.IntN.{*ℤ_comm}
use Rattle.sk_num.specs.Whole.{*ℤ--ℤ_right, *ℤ_turn}
use Rattle.sk_expr.specs.Poly.{Poly, plus, minus, times, degree}
use Rattle.sk_expr.specs.ExactValue.{value_at}
use Rattle.sk_expr.specs.Vectors.{vector_difference, dot, minor, cross}
use Rattle.sk_expr.specs.Trees.{poly_of}
use Rattle.sk_expr.specs.PartViews.{v3_of}
use Rattle.sk_expr.specs.declared.parts.V3.{V3}
use Rattle.sk_face.specs.FaceRows.{face_normal}
use Rattle.sk_face.specs.FaceViews.{face_of}
use Rattle.sk_face.specs.SideLaws.{IsAtRightAngle, IsAcross, space, SideLaw}
use Rattle.sk_face.specs.declared.faces.FaceParts.{FaceParts}
use Rattle.sk_face.specs.declared.faces.FaceParts.TheVariants as held
use Rattle.sk_face.proofs.Lifted.{lifted, lifted-minus, lifted-plus, lifted-times, lifted-none}

-- ---- of numbers

outer : (a b c : ℤ) → (a *ℤ b) *ℤ c ≡ (c *ℤ b) *ℤ a
outer a b c = *ℤ_turn a b c ∙ ap (λ z. z *ℤ b) (*ℤ_comm a c) ∙ *ℤ_turn c a b

with_second : (a b c x y z : ℤ) → ((b *ℤ z -ℤ c *ℤ y) *ℤ x +ℤ (c *ℤ x -ℤ a *ℤ z) *ℤ y) +ℤ (a *ℤ y -ℤ b *ℤ x) *ℤ z ≡ pos 0
with_second a b c x y z =
    rw (*ℤ--ℤ_right (b *ℤ z) (c *ℤ y) x, *ℤ--ℤ_right (c *ℤ x) (a *ℤ z) y, *ℤ--ℤ_right (a *ℤ y) (b *ℤ x) z)
    (omega (arith, ints, *ℤ_turn b z x, *ℤ_turn c y x, *ℤ_turn a z y))

with_first : (a b c x y z : ℤ) → ((b *ℤ z -ℤ c *ℤ y) *ℤ a +ℤ (c *ℤ x -ℤ a *ℤ z) *ℤ b) +ℤ (a *ℤ y -ℤ b *ℤ x) *ℤ c ≡ pos 0
with_first a b c x y z =
    rw (*ℤ--ℤ_right (b *ℤ z) (c *ℤ y) a, *ℤ--ℤ_right (c *ℤ x) (a *ℤ z) b, *ℤ--ℤ_right (a *ℤ y) (b *ℤ x) c)
    (omega (arith, ints, outer b z a, outer c y a, outer c x b))

-- ---- of polynomials

module _ (s n : ℕ) (k p : ℕ → ℤ) where
  lifted-minor : (e : ℕ) (f g h i : Poly ℤ) → degree f ≤ e → degree g ≤ e → degree h ≤ e → degree i ≤ e →
      lifted s n k p (e + e) (minus (times f i) (times g h)) ≡ lifted s n k p e f *ℤ lifted s n k p e i -ℤ lifted s n k p e g *ℤ lifted s n k p e h
  lifted-minor e f g h i df dg dh di =
      lifted-minus s n k p (times f i) (times g h) (e + e) (omega (arith, df, di)) (omega (arith, dg, dh))
      ∙ ap (λ v. v -ℤ lifted s n k p (e + e) (times g h)) (lifted-times s n k p f i e e df di)
      ∙ ap (λ v. lifted s n k p e f *ℤ lifted s n k p e i -ℤ v) (lifted-times s n k p g h e e dg dh)

  lifted-dot : (e f : ℕ) (u v w x y z : Poly ℤ) → degree u ≤ e → degree v ≤ e → degree w ≤ e → degree x ≤ f → degree y ≤ f → degree z ≤ f →
      lifted s n k p (e + f) (plus (plus (times u x) (times v y)) (times w z))
      ≡ (lifted s n k p e u *ℤ lifted s n k p f x +ℤ lifted s n k p e v *ℤ lifted s n k p f y) +ℤ lifted s n k p e w *ℤ lifted s n k p f z
  lifted-dot e f u v w x y z du dv dw dx dy dz =
      lifted-plus s n k p (plus (times u x) (times v y)) (times w z) (e + f) (omega (arith, du, dv, dx, dy)) (omega (arith, dw, dz))
      ∙ ap (λ r. r +ℤ lifted s n k p (e + f) (times w z)) (lifted-plus s n k p (times u x) (times v y) (e + f) (omega (arith, du, dx)) (omega (arith, dv, dy)))
      ∙ ap (λ r. (r +ℤ lifted s n k p (e + f) (times v y)) +ℤ lifted s n k p (e + f) (times w z)) (lifted-times s n k p u x e f du dx)
      ∙ ap (λ r. (lifted s n k p e u *ℤ lifted s n k p f x +ℤ r) +ℤ lifted s n k p (e + f) (times w z)) (lifted-times s n k p v y e f dv dy)
      ∙ ap (λ r. (lifted s n k p e u *ℤ lifted s n k p f x +ℤ lifted s n k p e v *ℤ lifted s n k p f y) +ℤ r) (lifted-times s n k p w z e f dw dz)

  -- the cross product of (a, b, c) and (x, y, z), times (r, u, v), is 0 where that is so of numbers
  lifted-cross : (e : ℕ) (a b c x y z r u v : Poly ℤ) →
      degree a ≤ e → degree b ≤ e → degree c ≤ e → degree x ≤ e → degree y ≤ e → degree z ≤ e → degree r ≤ e → degree u ≤ e → degree v ≤ e →
      let l = lifted s n k p e in
      ((l b *ℤ l z -ℤ l c *ℤ l y) *ℤ l r +ℤ (l c *ℤ l x -ℤ l a *ℤ l z) *ℤ l u) +ℤ (l a *ℤ l y -ℤ l b *ℤ l x) *ℤ l v ≡ pos 0 →
      value_at s n k p (plus (plus (times (minus (times b z) (times c y)) r) (times (minus (times c x) (times a z)) u)) (times (minus (times a y) (times b x)) v)) ≡ pos 0
  lifted-cross e a b c x y z r u v da db dc dx dy dz dr du dv h =
      let l = lifted s n k p e in
      lifted-none s n k p (plus (plus (times (minus (times b z) (times c y)) r) (times (minus (times c x) (times a z)) u)) (times (minus (times a y) (times b x)) v)) (e + e + e)
      (lifted-dot (e + e) e (minus (times b z) (times c y)) (minus (times c x) (times a z)) (minus (times a y) (times b x)) r u v
      (omega (arith, db, dz, dc, dy)) (omega (arith, dc, dx, da, dz)) (omega (arith, da, dy, db, dx)) dr du dv
      ∙ ap (λ w. (w *ℤ l r +ℤ lifted s n k p (e + e) (minus (times c x) (times a z)) *ℤ l u) +ℤ lifted s n k p (e + e) (minus (times a y) (times b x)) *ℤ l v)
      (lifted-minor e b c y z db dc dy dz)
      ∙ ap (λ w. ((l b *ℤ l z -ℤ l c *ℤ l y) *ℤ l r +ℤ w *ℤ l u) +ℤ lifted s n k p (e + e) (minus (times a y) (times b x)) *ℤ l v)
      (lifted-minor e c a z x dc da dz dx)
      ∙ ap (λ w. ((l b *ℤ l z -ℤ l c *ℤ l y) *ℤ l r +ℤ (l c *ℤ l x -ℤ l a *ℤ l z) *ℤ l u) +ℤ w *ℤ l v)
      (lifted-minor e a b x y da db dx dy)
      ∙ h)

cross-right_angles : (s : ℕ) (a b c x y z : Poly ℤ) →
    IsAtRightAngle s (cross (space a b c) (space x y z)) (space x y z) × IsAtRightAngle s (cross (space a b c) (space x y z)) (space a b c)
unfolding cross minor dot
cross-right_angles s a b c x y z =
    let e = degree a + degree b + degree c + degree x + degree y + degree z in
    let da : degree a ≤ e = omega arith in
    let db : degree b ≤ e = omega arith in
    let dc : degree c ≤ e = omega arith in
    let dx : degree x ≤ e = omega arith in
    let dy : degree y ≤ e = omega arith in
    let dz : degree z ≤ e = omega arith in (
      (λ n k p h. let l = lifted s n k p e in
          lifted-cross s n k p e a b c x y z x y z da db dc dx dy dz dx dy dz (with_second (l a) (l b) (l c) (l x) (l y) (l z))),
      (λ n k p h. let l = lifted s n k p e in
          lifted-cross s n k p e a b c x y z a b c da db dc dx dy dz da db dc (with_first (l a) (l b) (l c) (l x) (l y) (l z))),
    )

-- ---- of faces

pub side-law : SideLaw
unfolding face_normal vector_difference
side-law s a b c d e f x y z = cross-right_angles s (minus a d) (minus b e) (minus c f) x y z

pub normal-is_across : {s : ℕ} (f : FaceParts s) (v : V3 s) → v3_of v ≡ face_normal (face_of f) → IsAcross s (face_of f) (v3_of v)
normal-is_across (held.Flat on n) v e = tt
normal-is_across {s} (held.Side on to t) v e =
    rw e (side-law s (poly_of on.x) (poly_of on.y) (poly_of on.z) (poly_of to.x) (poly_of to.y) (poly_of to.z) (poly_of t.x) (poly_of t.y) (poly_of t.z))

pub ruleset right_angles = normal-is_across
