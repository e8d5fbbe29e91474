-- Requests with their places.
use Rattle.std.proofs.Common.{◌≡◌, ℕ, zero, suc, ◌+◌, ◌<◌, List, [], ◌∷◌, ◌++◌, length, get_or, take, map, false, nat_eq, refl, sym, ap, ◌∙◌, arith}
use Rattle.std.specs.Prelude.{if◌then◌else◌}
use Rattle.std.specs.List.{AllByRecursion, IsDistinct, list_any}
use Rattle.std.proofs.lemmas.List.{length-map, take_more}
use Rattle.std.proofs.lemmas.Map.Keys.{IsDistinct-head, IsDistinct-tail}
use Rattle.std.proofs.Math.ListN.{get_or-map}
use Rattle.sk_types.specs.declared.handle.RequestId.{RequestId}
use Rattle.sk_types.specs.declared.request.Request.{Request}
use Rattle.sk_regen.specs.GroupWorks.{request_handle}
use Rattle.sk_regen.proofs.Placed.{flip}

abbrev number : Request → ℕ
number r = r.id.0

head-apart : (k : ℕ) (rs : List Request) (i : ℕ) (d : Request) → AllByRecursion (λ n. nat_eq k n ≡ false) (map number rs) → i < length rs → nat_eq (get_or rs i d).id.0 k ≡ false
head-apart k [] i d a l = absurd (omega arith)
head-apart k (r ∷ rs) zero d a l = flip k r.id.0 a.0
head-apart k (r ∷ rs) (suc i) d a l = head-apart k rs i d a.1 (omega arith)

new-among : (rs : List Request) (i : ℕ) (d : Request) → IsDistinct nat_eq (map number rs) → i < length rs → list_any (λ (h : RequestId). nat_eq (get_or rs i d).id.0 h.0) (take i (map request_handle rs)) ≡ false
new-among [] i d a l = absurd (omega arith)
new-among (r ∷ rs) zero d a l = refl
new-among (r ∷ rs) (suc i) d a l =
    rw (head-apart r.id.0 rs i d (IsDistinct-head nat_eq r.id.0 (map number rs) a) (omega arith)) (new-among rs i d (IsDistinct-tail nat_eq r.id.0 (map number rs) a) (omega arith))

taken-more : (rs : List Request) (i : ℕ) (d : Request) → i < length rs → take i (map request_handle rs) ++ (get_or rs i d).id ∷ [] ≡ take (i + 1) (map request_handle rs)
taken-more rs i d l =
    let long = length-map rs request_handle in
    ap (λ (k : RequestId). take i (map request_handle rs) ++ k ∷ []) (sym (get_or-map request_handle rs i d)) ∙ sym (take_more (map request_handle rs) i (request_handle d) (omega (arith, l, long)))

pub request-step : (rs : List Request) (i : ℕ) (d : Request) (ks next : List RequestId) → IsDistinct nat_eq (map number rs) → i < length rs → ks ≡ take i (map request_handle rs) →
    next ≡ (if list_any (λ (h : RequestId). nat_eq (get_or rs i d).id.0 h.0) ks then ks else ks ++ (get_or rs i d).id ∷ []) → next ≡ take (i + 1) (map request_handle rs)
request-step rs i d ks next differ inside at e = e ∙ rw (at, new-among rs i d differ inside) (taken-more rs i d inside)
