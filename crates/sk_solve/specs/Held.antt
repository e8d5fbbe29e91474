-- A group's result as the code holds it, made from the definition's.
use Rattle.std.proofs.Common.{◌≡◌, inl, inr, ℕ, zero, suc, ◌≤◌, ◌<◌, List, [], ◌∷◌, map, length, Bool, true, false, nat_eq, Option, Some, None, refl, sym, ap, ◌∙◌, arith}
use Rattle.std.specs.Prelude.{ℤ, pos, ◌+ℤ◌, ◌-ℤ◌, ◌^◌, ◌==◌, unsigned_abs, get_or, slice_get, if◌then◌else◌}
use Rattle.std.specs.Option.{option_map}
use Rattle.std.specs.List.{All}
use Rattle.std.proofs.Math.Pow.{pow-lt}
use Rattle.std.proofs.lemmas.Bool.{cases_Bool, cases_order, eqb-true, eq-eqb}
use Rattle.std.proofs.lemmas.Int.{ints}
use Rattle.std.proofs.lemmas.List.Elements.{All-head, All-tail}
use Rattle.std.proofs.lemmas.Option.{get_or_from_slice_get}
use Rattle.sk_expr.specs.declared.row.RowKind.TheVariants.{OfEntity}
use Rattle.sk_expr.specs.declared.row.RowName.{RowName}
use Rattle.sk_krawczyk.specs.Answers.{radius_of_log, IsRadiusLog, with_name, named_suspect, IsCertificate}
use Rattle.sk_krawczyk.specs.IntervalTest.{Suspect, Certificate}
use Rattle.sk_krawczyk.specs.declared.certificate.Certificate.{Certificate as StoredCertificate}
use Rattle.sk_krawczyk.specs.declared.certificate.Suspect.{Suspect as NamedSuspect}
use Rattle.sk_solve.specs.declared.result.GroupResult.{GroupResult}
use Rattle.sk_solve.specs.Search.{Found}
use Rattle.sk_solve.specs.Results.{IsHeld, IsFound}

-- the logarithm of a power of two, at most n
abbrev pub logarithm_to : ℕ → ℕ → ℕ
logarithm_to zero r = zero
logarithm_to (suc n) r = if 2 ^ suc n == r then suc n else logarithm_to n r

-- that of a radius in plain numbers
unfoldable pub radius_log : ℕ → ℕ → ℤ
radius_log s r = pos (logarithm_to s r) -ℤ pos s

-- a suspect by the name of its row
abbrev pub no_name : RowName
no_name = record { kind = OfEntity; handle = 0; index = 0 }

abbrev pub suspect_by : List RowName → Suspect → NamedSuspect
suspect_by names x = record { row = get_or names x.row no_name; misses = x.misses }

unfoldable pub certificate_by : {s : ℕ} → List RowName → Certificate → StoredCertificate s
certificate_by {s} names c = record {
  radius_logs = map (radius_log s) c.radii;
  bound = c.bound;
  spread = c.spread;
  centre = c.centre;
  held = c.held;
  solved = c.solved;
  retained = c.retained;
  suspects = map (suspect_by names) c.suspects;
  inverse = record { rows = length c.solved; cols = length c.retained; cells = c.inverse };
}

-- how a group comes out, where these are the names of the rows of its system at a point
unfoldable pub result_by : {s : ℕ} → (List ℤ → List RowName) → Found → GroupResult s
result_by names f = record { verdict = f.verdict; point = f.point; certificate = option_map (certificate_by (names f.point)) f.certificate }

-- ---- what holds the definition's is that

same_power : (n m : ℕ) → 2 ^ n ≡ 2 ^ m → n ≡ m
same_power n m e = elim (cases_order n m) [
  | inl same ↦ same
  | inr other ↦ elim other [
    | inl less ↦ (let l : 2 ^ n < 2 ^ m = pow-lt less in absurd (omega (arith, l, e)))
    | inr more ↦ (let l : 2 ^ m < 2 ^ n = pow-lt more in absurd (omega (arith, l, e)))
  ]
]

log_power : (n m : ℕ) → m ≤ n → logarithm_to n (2 ^ m) ≡ m
log_power zero m h = omega (arith, h)
log_power (suc n) m h = elim (cases_Bool (nat_eq (2 ^ suc n) (2 ^ m))) [
  | inl t ↦ rw t (same_power (suc n) m (eqb-true (2 ^ suc n) (2 ^ m) t))
  | inr f ↦ rw f (log_power n m (below f))
]
  where
    below : nat_eq (2 ^ suc n) (2 ^ m) ≡ false → m ≤ n
    below f = elim (cases_order m (suc n)) [
      | inl same ↦ (let equal : nat_eq (2 ^ suc n) (2 ^ m) ≡ true = eq-eqb (2 ^ suc n) (2 ^ m) (sym (ap (λ (k : ℕ). 2 ^ k) same)) in cc (equal, f))
      | inr other ↦ elim other [
        | inl less ↦ omega (arith, less)
        | inr more ↦ omega (arith, h, more)
      ]
    ]

log_read : (s : ℕ) (l : ℤ) → IsRadiusLog s l → radius_log s (radius_of_log s l) ≡ l
unfolding radius_log
log_read s l is =
    rw (log_power s (unsigned_abs (l +ℤ pos s)) (omega (arith, ints, is.least, is.most))) (omega (arith, ints, is.least, is.most))

logs_read : (s : ℕ) (ls : List ℤ) → All (IsRadiusLog s) ls → map (radius_log s) (map (radius_of_log s) ls) ≡ ls
logs_read s [] a = refl
logs_read s (l ∷ ls) a =
    let is = All-head (IsRadiusLog s) l ls a in
    rw (log_read s l is, logs_read s ls (All-tail (IsRadiusLog s) l ls a)) refl

suspects_read : (names : List RowName) (ks : List NamedSuspect) (xs : List Suspect) → map named_suspect ks ≡ map (with_name names) xs → map (suspect_by names) xs ≡ ks
suspects_read names [] [] e = refl
suspects_read names [] (x ∷ xs) e = cc
suspects_read names (k ∷ ks) [] e = cc
suspects_read names (k ∷ ks) (x ∷ xs) e =
    let first : (Some k.row, k.misses) ≡ (slice_get names x.row, x.misses) = head_is e in
    let row : get_or names x.row no_name ≡ k.row = get_or_from_slice_get names x.row k.row no_name (sym (ap (λ (p : Option RowName × Bool). p.0) first)) in
    rw (row, sym (ap (λ (p : Option RowName × Bool). p.1) first), suspects_read names ks xs (tail_is e)) refl
  where
    head_is : {a b : Option RowName × Bool} {cs ds : List (Option RowName × Bool)} → a ∷ cs ≡ b ∷ ds → a ≡ b
    head_is e = cc

    tail_is : {a b : Option RowName × Bool} {cs ds : List (Option RowName × Bool)} → a ∷ cs ≡ b ∷ ds → cs ≡ ds
    tail_is e = cc

certificate_read : {s : ℕ} (names : List RowName) (k : StoredCertificate s) (c : Certificate) → IsCertificate names k c → k ≡ certificate_by names c
unfolding certificate_by
certificate_read {s} names k c is =
    rw (sym is.radii, logs_read s k.radius_logs is.logs, sym is.bound, sym is.spread, sym is.centre, suspects_read names k.suspects c.suspects is.suspects, sym is.inverse_rows, sym is.inverse_cols, sym is.inverse, sym is.held, sym is.solved, sym is.retained) refl

held_read : {s : ℕ} (names : List RowName) (f : Option Certificate) (o : Option (StoredCertificate s)) → IsHeld names f o → o ≡ option_map (certificate_by names) f
held_read names None o is = is
held_read names (Some c) o is = is.1 ∙ ap Some (certificate_read names is.0 c is.2)

-- A result that holds the definition's is made from it.
pub result_read : {s : ℕ} (names : List ℤ → List RowName) (f : Found) (g : GroupResult s) → IsFound names f g → g ≡ result_by names f
unfolding result_by
result_read names f g is = rw (is.verdict, is.point, held_read (names f.point) f.certificate g.certificate is.certificate) refl
