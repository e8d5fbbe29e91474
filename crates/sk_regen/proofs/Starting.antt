-- Requests by their places, and numbers that aren't there.
use Rattle.std.proofs.Common.{◌≡◌, ℕ, zero, suc, ◌+◌, ◌<◌, ◌≤◌, List, [], ◌∷◌, length, map, Bool, true, false, cond, nat_eq, nat_lt, Some, None, refl, sym, ap, ◌∙◌, arith, true≢false}
use Rattle.std.specs.Prelude.{slice_get, not, get_or}
use Rattle.std.specs.List.{find, position, position_or_len}
use Rattle.std.specs.List.Sorted.{IsStrictlySortedBy}
use Rattle.std.proofs.lemmas.Bool.{lt-ltb, le-ltb, ltb-false}
use Rattle.std.proofs.lemmas.List.{length-map}
use Rattle.std.proofs.lemmas.List.Folds.{find_at}
use Rattle.std.proofs.lemmas.Option.{slice_get-get_or}
use Rattle.sk_types.specs.declared.handle.RequestId.{RequestId}
use Rattle.sk_types.specs.declared.request.Request.{Request}
use Rattle.sk_types.specs.Lookups.{RiseBy, param_handle}
use Rattle.sk_regen.specs.GroupWorks.{request_handle}

-- ---- requests

place_map : (n : ℕ) (rs : List Request) → position_or_len (λ (k : RequestId). nat_eq n k.0) (map request_handle rs) ≡ position_or_len (λ (q : Request). nat_eq n q.id.0) rs
place_map n [] = refl
place_map n (r ∷ rs) = ap (λ (k : ℕ). cond (not (nat_eq n r.id.0)) (1 + k) 0) (place_map n rs)

position_map : (n : ℕ) (rs : List Request) → position (λ (k : RequestId). nat_eq n k.0) (map request_handle rs) ≡ position (λ (q : Request). nat_eq n q.id.0) rs
position_map n rs = rw (place_map n rs, length-map rs request_handle) refl

by_test : (t : Bool) (k i : ℕ) → cond t (Some k) None ≡ Some i → k ≡ i
by_test true k i e = cc
by_test false k i e = cc

pub request_found : (n : ℕ) (rs : List Request) (ks : List RequestId) (i : ℕ) → ks ≡ map request_handle rs → position (λ (k : RequestId). nat_eq n k.0) ks ≡ Some i → (d : Request) → i < length rs → Some (get_or rs i d) ≡ find (λ (q : Request). nat_eq n q.id.0) rs
request_found n rs ks i same e d inside =
    let there : position (λ (q : Request). nat_eq n q.id.0) rs ≡ Some i = sym (position_map n rs) ∙ ap (position (λ (k : RequestId). nat_eq n k.0)) (sym same) ∙ e in
    sym (slice_get-get_or rs i d inside) ∙ ap (slice_get rs) (sym (by_test _ _ i there)) ∙ sym (find_at (λ (q : Request). nat_eq n q.id.0) rs)

none_found : (n : ℕ) (rs : List Request) → position (λ (q : Request). nat_eq n q.id.0) rs ≡ None → None ≡ find (λ (q : Request). nat_eq n q.id.0) rs
none_found n rs e = past rs (position_or_len (λ (q : Request). nat_eq n q.id.0) rs) (none _ _ e) ∙ sym (find_at (λ (q : Request). nat_eq n q.id.0) rs)
  where
    none : (t : Bool) (k : ℕ) → cond t (Some k) None ≡ None → t ≡ false
    none true k e = cc
    none false k e = refl

    below : (k n : ℕ) → nat_lt (suc k) (suc n) ≡ false → nat_lt k n ≡ false
    below k n h = le-ltb k n (let l : suc n ≤ suc k = ltb-false (suc k) (suc n) h in omega (arith, l))

    past : (rs : List Request) (k : ℕ) → nat_lt k (length rs) ≡ false → None ≡ slice_get rs k
    past [] k h = refl
    past (r ∷ rs) zero h = absurd (true≢false (sym (lt-ltb 0 (length (r ∷ rs)) (omega arith)) ∙ h))
    past (r ∷ rs) (suc k) h = past rs k (below k (length rs) h)

pub request_missing : (n : ℕ) (rs : List Request) (ks : List RequestId) → ks ≡ map request_handle rs → position (λ (k : RequestId). nat_eq n k.0) ks ≡ None → None ≡ find (λ (q : Request). nat_eq n q.id.0) rs
request_missing n rs ks same e = none_found n rs (sym (position_map n rs) ∙ ap (position (λ (k : RequestId). nat_eq n k.0)) (sym same) ∙ e)

-- ---- no unknowns

pub none_rise : RiseBy param_handle []
unfolding IsStrictlySortedBy
none_rise = search

pub within_requests : (rs : List Request) (ks : List RequestId) (i : ℕ) → ks ≡ map request_handle rs → i < length ks → i < length rs
within_requests rs ks i same inside = let long : length ks ≡ length rs = ap length same ∙ length-map rs request_handle in omega (arith, inside, long)
