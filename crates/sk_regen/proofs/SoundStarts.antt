-- Where parameters start: within the limit, whatever the numbers before it are.
use Rattle.std.proofs.Common.{◌≡◌, inl, inr, ℕ, zero, suc, ◌≤◌, ◌^◌, List, Bool, true, false, Option, Some, None, refl, subst, arith}
use Rattle.std.specs.Prelude.{◌==◌, ◌&&◌, ℤ, pos, ◌+ℤ◌, ◌-ℤ◌, if◌then◌else◌, option_and_then, option_map, unsigned_abs, map}
use Rattle.std.specs.List.{find}
use Rattle.std.proofs.lemmas.Bool.{cases_Bool, leb-true}
use Rattle.std.proofs.lemmas.Int.{ints}
use Rattle.std.proofs.Math.Nat.{pow-le-pow_right}
use Rattle.sk_num.specs.Division.{floor_by, floor_by-above, floor_by-below}
use Rattle.sk_num.specs.Ends.{Ends, mid, point, span_add, span_between, span_sub}
use Rattle.sk_num.specs.Limit.{IsInLimit, is_in_limit}
use Rattle.sk_num.specs.PaddedLaws.{both_true}
use Rattle.sk_num.specs.Scale.{IsScale, IsScale-bounds}
use Rattle.sk_types.specs.declared.entity.Entity.{Entity}
use Rattle.sk_types.specs.declared.entity.Numbers.{Numbers}
use Rattle.sk_types.specs.declared.entity.Outline.{Outline}
use Rattle.sk_types.specs.declared.constraint.Constraint.{Constraint}
use Rattle.sk_types.specs.declared.group.Group.{Group}
use Rattle.sk_types.specs.declared.group.GroupKind.{GroupKind}
use Rattle.sk_types.specs.declared.group.GroupKind.TheVariants.{Space, Plane, Extrude, Translate, Linked}
use Rattle.sk_types.specs.declared.handle.Maker.{Maker}
use Rattle.sk_types.specs.declared.handle.Maker.TheVariants.{OfRequest, OfGroup}
use Rattle.sk_types.specs.declared.handle.ParamId.{ParamId}
use Rattle.sk_types.specs.declared.request.Request.{Request}
use Rattle.sk_types.specs.Handles.{maker_of}
use Rattle.sk_types.specs.Lookups.{entity_at}
use Rattle.sk_entity.specs.Requests.{has_normal_in_space}
use Rattle.sk_expr.specs.Poly.{Poly, minus, plus}
use Rattle.sk_expr.specs.Readings.{reading}
use Rattle.sk_expr.specs.Seen.{Seen}
use Rattle.sk_expr.specs.SpanValue.{span_value}
use Rattle.sk_geom.specs.EntityTrees.{frame}
use Rattle.sk_geom.specs.Quaternions.{quaternion_axes}
use Rattle.sk_geom.specs.Sources.{Source}
use Rattle.sk_chain.specs.Lookups.{group_at}
use Rattle.sk_regen.specs.GroupWorks.{along, drawn_start, group_start, no_point, normal_reading, numbers_source, or_none, plain_reading, start_by, start_of, works}
use Rattle.sk_regen.specs.NewTextLaws.{StartsInLimit}

some_is : {A : Type 0} (x y : A) → ◌≡◌ {A = Option A} (Some x) (Some y) → x ≡ y
some_is x y e = cc

pub zero_fits : IsInLimit (pos 0)
zero_fits = omega (arith, ints)

-- ---- readings of sums and differences

-- the midpoint of two numbers within the limit is within it
mid_fits : (a b : ℤ) → unsigned_abs a ≤ 2 ^ 62 → unsigned_abs b ≤ 2 ^ 62 → unsigned_abs (floor_by (a +ℤ b) 2) ≤ 2 ^ 62
mid_fits a b h k =
    let low = floor_by-below (a +ℤ b) 2 (omega arith) in
    let high = floor_by-above (a +ℤ b) 2 (omega arith) in
    omega (arith, ints, h, k, low, high)

between_fits : (lo hi : ℤ) (e : Ends) → span_between lo hi ≡ Some e → IsInLimit (mid e)
between_fits lo hi e h = elim (cases_Bool (is_in_limit lo && is_in_limit hi)) [
  | inl t ↦
      let made : Ends = record { lo = lo; hi = hi } in
      let is : Some made ≡ Some e = rw t at h in
      let both = both_true (is_in_limit lo) (is_in_limit hi) t in
      subst (λ (x : Ends). IsInLimit (mid x)) (some_is made e is) (mid_fits lo hi (leb-true (unsigned_abs lo) (2 ^ 62) both.0) (leb-true (unsigned_abs hi) (2 ^ 62) both.1))
  | inr f ↦ (let no : None ≡ Some e = rw f at h in cc no)
]

-- an operation whose results have their midpoints within the limit
abbrev MidsFit : (Ends → Ends → Option Ends) → Type 0
MidsFit op = (a b e : Ends) → op a b ≡ Some e → IsInLimit (mid e)

adds_fit : MidsFit span_add
adds_fit a b e h = between_fits (a.lo +ℤ b.lo) (a.hi +ℤ b.hi) e h

subs_fit : MidsFit span_sub
subs_fit a b e h = between_fits (a.lo -ℤ b.hi) (a.hi -ℤ b.lo) e h

over_both : (op : Ends → Ends → Option Ends) → MidsFit op → (p q : Option Ends) (z : ℤ) → option_map mid (option_and_then (λ (x : Ends). option_and_then (λ (y : Ends). op x y) q) p) ≡ Some z → IsInLimit z
over_both op fit None q z h = cc h
over_both op fit (Some x) None z h = cc h
over_both op fit (Some x) (Some y) z h = made (op x y) refl h
  where
    made : (o : Option Ends) → op x y ≡ o → option_map mid o ≡ Some z → IsInLimit z
    made None is e = cc e
    made (Some w) is e = subst IsInLimit (some_is (mid w) z e) (fit x y w is)

-- what an operation makes
abbrev IsComposed : Poly ℤ → Type 0
IsComposed t = (s : ℕ) (seen : Seen) (z : ℤ) → reading s seen t ≡ Some z → IsInLimit z

sums_fit : (a b : Poly ℤ) → IsComposed (plus a b)
unfolding span_value
sums_fit a b s seen z h = over_both span_add adds_fit (span_value s (map point seen.unknowns) seen.cosines a) (span_value s (map point seen.unknowns) seen.cosines b) z h

differences_fit : (a b : Poly ℤ) → IsComposed (minus a b)
unfolding span_value
differences_fit a b s seen z h = over_both span_sub subs_fit (span_value s (map point seen.unknowns) seen.cosines a) (span_value s (map point seen.unknowns) seen.cosines b) z h

plain_fits : (s : ℕ) (t : Poly ℤ) → IsComposed t → IsInLimit (plain_reading s (Some t))
plain_fits s t composed = by_reading (reading s no_point t) refl
  where
    by_reading : (o : Option ℤ) → reading s no_point t ≡ o → IsInLimit (plain_reading s (Some t))
    by_reading None is = rw is zero_fits
    by_reading (Some z) is = rw is (composed s no_point z is)

-- a component of a normal vector is a sum or a difference
normal_fits : {s : ℕ} (o : Source s) (i : ℕ) (w : Option (Entity s)) → IsInLimit (normal_reading o i w)
unfolding frame quaternion_axes
normal_fits o i None = zero_fits
normal_fits {s} o zero (Some w) = plain_fits s _ (sums_fit _ _)
normal_fits {s} o (suc zero) (Some w) = plain_fits s _ (differences_fit _ _)
normal_fits {s} o (suc (suc zero)) (Some w) = plain_fits s _ (sums_fit _ _)
normal_fits o (suc (suc (suc i))) (Some w) = zero_fits

-- ---- all starts

pub in_if : (t : Bool) (x y : ℤ) → IsInLimit x → IsInLimit y → IsInLimit (if t then x else y)
in_if true x y a b = a
in_if false x y a b = b

-- one and a half of it
pub power_fits : (s k : ℕ) → IsScale s → k ≤ s → IsInLimit (pos (2 ^ k))
power_fits s k scale l =
    let most = (IsScale-bounds scale).1 in
    let small : 2 ^ k ≤ 2 ^ 44 = pow-le-pow_right {n = 2} (omega arith) {i = k} {j = 44} (omega (arith, l, most)) in
    omega (arith, ints, small)

module _ {s : ℕ} (scale : IsScale s) where
  one_fits : IsInLimit (pos (2 ^ s))
  one_fits = power_fits s s scale (omega arith)

  along_fits : (es : List (Entity s)) (n : Numbers s) (g : Group s) (i : ℕ) → IsInLimit (along es n g i)
  along_fits es n g i = in_if (g.entity_b.0 == 0) (pos 0) (normal_reading (numbers_source es n g.id) i (entity_at g.entity_b.0 es)) zero_fits (normal_fits (numbers_source es n g.id) i (entity_at g.entity_b.0 es))

  group_fits : (k : GroupKind) (es : List (Entity s)) (n : Numbers s) (g : Group s) (i : ℕ) → IsInLimit (group_start k es n g i)
  group_fits Space es n g i = zero_fits
  group_fits Plane es n g i = zero_fits
  group_fits Extrude es n g i = along_fits es n g i
  group_fits Translate es n g i = zero_fits
  group_fits Linked es n g i = in_if (i == 3) (pos (2 ^ s)) (pos 0) one_fits zero_fits

  drawn_fits : (i : ℕ) (o : Option Request) → IsInLimit (drawn_start s i o)
  drawn_fits i None = zero_fits
  drawn_fits i (Some r) = in_if (i == 32) (if has_normal_in_space r then pos (2 ^ s) else pos 0) (pos 0) (in_if (has_normal_in_space r) (pos (2 ^ s)) (pos 0) one_fits zero_fits) zero_fits

  by_maker : (rs : List Request) (es : List (Entity s)) (n : Numbers s) (g : Group s) (m : Maker) → IsInLimit (start_by rs es n g m)
  by_maker rs es n g (OfRequest r i) = drawn_fits i (find (λ (q : Request). r.0 == q.id.0) rs)
  by_maker rs es n g (OfGroup h i) = group_fits g.kind es n g i

  start_fits : (rs : List Request) (es : List (Entity s)) (n : Numbers s) (g : Group s) (p : ParamId) → IsInLimit (start_of rs es n g p)
  unfolding start_of
  start_fits rs es n g p = by_maker rs es n g (maker_of p.0)

  pub starts_fit : (gs : List (Group s)) (rs : List Request) (cs : List (Constraint s)) (o : Outline s) → StartsInLimit (works gs rs cs o)
  unfolding works
  starts_fit gs rs cs o n g p = by_group (group_at g.0 gs)
    where
      by_group : (found : Option (Group s)) → IsInLimit (or_none (λ (q : ParamId). pos 0) (start_of rs o.entities n) found p)
      by_group None = zero_fits
      by_group (Some h) = start_fits rs o.entities n h p
