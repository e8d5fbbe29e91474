-- Exact values brought to one degree, where sums and products of polynomials are sums and products of numbers.
use Rattle.std.proofs.Common.{◌≡◌, ℕ, ◌<◌, ◌≤◌, ◌+◌, ◌-◌, ◌*◌, ◌^◌, max, ap, sym, ◌∙◌, ℤ, pos, ◌+ℤ◌, ◌-ℤ◌, ◌*ℤ◌, arith}
use Rattle.std.proofs.lemmas.Nat.{pow_pos, pow-add}
use Rattle.std.proofs.lemmas.Int.{ints}
use Rattle.std.proofs.Math.IntN.{pos-*ℤ-pos}
use Rattle.sk_num.specs.Whole.{*ℤ_assoc, *ℤ-+ℤ_right, *ℤ--ℤ_right, *ℤ_swap, *ℤ-le_cancel}
use Rattle.sk_expr.specs.Poly.{Poly, plus, minus, times, degree}
use Rattle.sk_expr.specs.ExactValue.{value_at}

-- from degree d to m and on to e
steps : (n d m e : ℕ) → d ≤ m → m ≤ e → n * (m - d) + n * (e - m) ≡ n * (e - d)
steps n d m e h l = let q : (m - d) + (e - m) ≡ e - d = omega (arith, h, l) in omega (arith, ap (λ z. n * z) q)

power-steps : (n d m e : ℕ) → d ≤ m → m ≤ e → 2 ^ (n * (m - d)) * 2 ^ (n * (e - m)) ≡ 2 ^ (n * (e - d))
power-steps n d m e h l = sym (pow-add 2 (n * (m - d)) (n * (e - m))) ∙ ap (λ z. 2 ^ z) (steps n d m e h l)

raised-twice : (n d m e : ℕ) (x : ℤ) → d ≤ m → m ≤ e → (x *ℤ pos (2 ^ (n * (m - d)))) *ℤ pos (2 ^ (n * (e - m))) ≡ x *ℤ pos (2 ^ (n * (e - d)))
raised-twice n d m e x h l =
    *ℤ_assoc x (pos (2 ^ (n * (m - d)))) (pos (2 ^ (n * (e - m))))
    ∙ ap (λ z. x *ℤ z) (pos-*ℤ-pos (2 ^ (n * (m - d))) (2 ^ (n * (e - m))) ∙ ap pos (power-steps n d m e h l))

both : (n c d e f : ℕ) → c ≤ e → d ≤ f → n * (e - c) + n * (f - d) ≡ n * (e + f - (c + d))
both n c d e f h l = let q : (e - c) + (f - d) ≡ e + f - (c + d) = omega (arith, h, l) in omega (arith, ap (λ z. n * z) q)

power-both : (n c d e f : ℕ) → c ≤ e → d ≤ f → 2 ^ (n * (e + f - (c + d))) ≡ 2 ^ (n * (e - c)) * 2 ^ (n * (f - d))
power-both n c d e f h l = sym (ap (λ z. 2 ^ z) (both n c d e f h l)) ∙ pow-add 2 (n * (e - c)) (n * (f - d))

-- the value over 2^(n e)
abbrev pub lifted : (s n : ℕ) → (ℕ → ℤ) → (ℕ → ℤ) → ℕ → Poly ℤ → ℤ
lifted s n k p e t = value_at s n k p t *ℤ pos (2 ^ (n * (e - degree t)))

left-max : (a b e : ℕ) → a ≤ e → b ≤ e → (a ≤ max a b) × (b ≤ max a b) × (b ≤ max b a) × (max a b ≤ e) × (max b a ≡ max a b)
left-max a b e h l = grind (arith, h, l)

module _ (s n : ℕ) (k p : ℕ → ℤ) where
  pub lifted-minus : (a b : Poly ℤ) (e : ℕ) → degree a ≤ e → degree b ≤ e → lifted s n k p e (minus a b) ≡ lifted s n k p e a -ℤ lifted s n k p e b
  lifted-minus a b e h l =
      let m = left-max (degree a) (degree b) e h l in
      let x = value_at s n k p a in
      let y = value_at s n k p b in
      let q = 2 ^ (n * (e - max (degree a) (degree b))) in
      *ℤ--ℤ_right (x *ℤ pos (2 ^ (n * (max (degree a) (degree b) - degree a)))) (y *ℤ pos (2 ^ (n * (max (degree b) (degree a) - degree b)))) (pos q)
      ∙ ap (λ z. z -ℤ (y *ℤ pos (2 ^ (n * (max (degree b) (degree a) - degree b)))) *ℤ pos q) (raised-twice n (degree a) (max (degree a) (degree b)) e x m.0 m.3)
      ∙ ap (λ z. lifted s n k p e a -ℤ (y *ℤ pos (2 ^ (n * (z - degree b)))) *ℤ pos q) m.4
      ∙ ap (λ z. lifted s n k p e a -ℤ z) (raised-twice n (degree b) (max (degree a) (degree b)) e y m.1 m.3)

  pub lifted-plus : (a b : Poly ℤ) (e : ℕ) → degree a ≤ e → degree b ≤ e → lifted s n k p e (plus a b) ≡ lifted s n k p e a +ℤ lifted s n k p e b
  lifted-plus a b e h l =
      let m = left-max (degree a) (degree b) e h l in
      let x = value_at s n k p a in
      let y = value_at s n k p b in
      let q = 2 ^ (n * (e - max (degree a) (degree b))) in
      *ℤ-+ℤ_right (x *ℤ pos (2 ^ (n * (max (degree a) (degree b) - degree a)))) (y *ℤ pos (2 ^ (n * (max (degree b) (degree a) - degree b)))) (pos q)
      ∙ ap (λ z. z +ℤ (y *ℤ pos (2 ^ (n * (max (degree b) (degree a) - degree b)))) *ℤ pos q) (raised-twice n (degree a) (max (degree a) (degree b)) e x m.0 m.3)
      ∙ ap (λ z. lifted s n k p e a +ℤ (y *ℤ pos (2 ^ (n * (z - degree b)))) *ℤ pos q) m.4
      ∙ ap (λ z. lifted s n k p e a +ℤ z) (raised-twice n (degree b) (max (degree a) (degree b)) e y m.1 m.3)

  pub lifted-times : (a b : Poly ℤ) (e f : ℕ) → degree a ≤ e → degree b ≤ f → lifted s n k p (e + f) (times a b) ≡ lifted s n k p e a *ℤ lifted s n k p f b
  lifted-times a b e f h l =
      let x = value_at s n k p a in
      let y = value_at s n k p b in
      let u = 2 ^ (n * (e - degree a)) in
      let v = 2 ^ (n * (f - degree b)) in
      ap (λ z. (x *ℤ y) *ℤ pos z) (power-both n (degree a) (degree b) e f h l)
      ∙ ap (λ z. (x *ℤ y) *ℤ z) (sym (pos-*ℤ-pos u v))
      ∙ *ℤ_swap x y (pos u) (pos v)

  -- what is 0 at a greater degree is 0
  pub lifted-none : (t : Poly ℤ) (e : ℕ) → lifted s n k p e t ≡ pos 0 → value_at s n k p t ≡ pos 0
  lifted-none t e h = cancelled (value_at s n k p t) (2 ^ (n * (e - degree t))) (pow_pos (n * (e - degree t))) h
    where
      none : (c : ℕ) → pos 0 *ℤ pos c ≡ pos 0
      none c = omega (arith, ints)

      cancelled : (x : ℤ) (c : ℕ) → 0 < c → x *ℤ pos c ≡ pos 0 → x ≡ pos 0
      cancelled x c o h =
          let below = *ℤ-le_cancel c x (pos 0) o (rw (h, none c) (omega (arith, ints))) in
          let above = *ℤ-le_cancel c (pos 0) x o (rw (h, none c) (omega (arith, ints))) in
          omega (arith, ints, below, above)
