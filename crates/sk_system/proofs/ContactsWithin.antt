-- The formulas of faces and of curves that touch fit.
use Rattle.std.proofs.Common.{ℕ, ◌+◌, ◌≤◌, ℤ, Bool, true, false, List, [], length, Option, Some, None, arith}
use Rattle.std.specs.Prelude.{◌==◌, if◌then◌else◌}
use Rattle.sk_types.specs.declared.handle.EntityId.{EntityId}
use Rattle.sk_types.specs.declared.constraint.Constraint.{Constraint}
use Rattle.sk_types.specs.declared.entity.Entity.{Entity}
use Rattle.sk_types.specs.declared.entity.Numbering.{Numbering}
use Rattle.sk_types.specs.declared.entity.Numbering.TheVariants.{Own, Moved, Copied, Placed, Nothing}
use Rattle.sk_types.specs.declared.entity_kind.TheConstants as entity_kind
use Rattle.sk_types.specs.declared.constraint_kind.TheConstants as constraint_kind
use Rattle.sk_types.specs.Needs.{named}
use Rattle.sk_types.specs.Sizes.{has_entity}
use Rattle.sk_expr.specs.Poly.{Poly}
use Rattle.sk_expr.specs.Vectors.{vector_difference}
use Rattle.sk_geom.specs.Sources.{Source, group_vector, act_numbers}
use Rattle.sk_geom.specs.EntityTrees.{is_own}
use Rattle.sk_face.specs.FaceRows.{Face, flat, side, face_point, face_normal, over_face, in_face}
use Rattle.sk_cubic.specs.CubicRows.{CurveEnd, spoke, tangent, Contact, with_line, of_curves, ends_touch, touch}
use Rattle.sk_system.specs.Fits.{FormulaFits}
use Rattle.sk_system.specs.ByHandle.{entity_by, point_by, flat_by, axes_by, points_of, is_cubic_by}
use Rattle.sk_system.specs.Contacts.{last_three, copied_normal, named_normal, own_face, face_of, face_or_none, face_by, tangent_chord, spoke_chord, line_chord, space_chord, flat_chord, both_chords, curve_end, contact_in}
use Rattle.sk_system.specs.declared.contacts.Chord.{Chord}
use Rattle.sk_system.proofs.Within.{loosen-vector, IsVector, difference-in, dot-in, cross-in}
use Rattle.sk_system.proofs.EntitiesWithin.{vector-in}
use Rattle.sk_system.proofs.PartsWithin.{IsPart, raised, zeros-in, point_by-in, flat_by-in, axes_by-in}
use Rattle.sk_system.proofs.FormulasWithin.{with-length, parallel-fits, perpendicular-fits}

-- ---- faces

abbrev pub FaceIn : ℕ → ℕ → Face → Type 0
FaceIn u c (flat on n) = IsPart u c on × IsPart u c n
FaceIn u c (side on to t) = IsPart u c on × IsPart u c to × IsPart u c t

module _ {s : ℕ} (o : Source s) (u c : ℕ) (l : length o.unknowns ≤ u) where
  last-in : (zs : List ℤ) → IsPart u c (last_three zs)
  last-in zs = record { few = omega arith; within = ((tt, omega arith), ((tt, omega arith), ((tt, omega arith), tt))) }

  pub group_vector-in : IsPart u c (group_vector o)
  group_vector-in = raised o u c l 1 (group_vector o) (omega arith) (vector-in o)

  copied-in : (n : Numbering s) → IsPart u c (copied_normal o n)
  copied-in (Own p) = zeros-in o u c l
  copied-in (Moved from k) = zeros-in o u c l
  copied-in (Placed zs) = zeros-in o u c l
  copied-in (Copied from) = last-in (act_numbers o from)
  copied-in Nothing = zeros-in o u c l

  either-part : (t : Bool) (a b : List (Poly ℤ)) → IsPart u c a → IsPart u c b → IsPart u c (if t then a else b)
  either-part true a b x y = x
  either-part false a b x y = y

  either-face : (t : Bool) (a b : Face) → FaceIn u c a → FaceIn u c b → FaceIn u c (if t then a else b)
  either-face true a b x y = x
  either-face false a b x y = y

  named_normal-in : (n : EntityId) → IsPart u c (named_normal o n)
  named_normal-in n = either-part (has_entity n) (axes_by o n).n (group_vector o) (axes_by-in o u c l n).n' group_vector-in

  own_face-in : (e : Entity s) → FaceIn u c (own_face o e)
  own_face-in e =
      let on = point_by o (named e.points 0) in
      let x = point_by-in o u c l (named e.points 0) in
      either-face (e.kind == entity_kind.FACE_BY_LINE) (side on (point_by o (named e.points 1)) (group_vector o))
      (if e.kind == entity_kind.FACE_BY_NORMAL then flat on (named_normal o e.normal) else flat on (copied_normal o e.numbers))
      (x, point_by-in o u c l (named e.points 1), group_vector-in)
      (either-face (e.kind == entity_kind.FACE_BY_NORMAL) (flat on (named_normal o e.normal)) (flat on (copied_normal o e.numbers)) (x, named_normal-in e.normal) (x, copied-in e.numbers))

  pub face_of-in : (e : Entity s) → FaceIn u c (face_of o e)
  unfolding face_of
  face_of-in e =
      either-face (is_own o e) (own_face o e) (flat (point_by o (named e.points 0)) (last_three (act_numbers o e.id))) (own_face-in e) (point_by-in o u c l (named e.points 0), last-in (act_numbers o e.id))

  there-in : (r : Option (Entity s)) → FaceIn u c (face_or_none o r)
  there-in None = (zeros-in o u c l, zeros-in o u c l)
  there-in (Some e) = face_of-in e

  pub face_by-in : (e : EntityId) → FaceIn u c (face_by o e)
  unfolding face_by
  face_by-in e = there-in (entity_by o e)

module _ (u c : ℕ) where
  pub face_normal-in : (f : Face) → FaceIn u c f → IsVector u c 98303 (face_normal f)
  unfolding face_normal
  face_normal-in (flat on n) h = loosen-vector u c 12287 98303 n (omega arith) h.1
  face_normal-in (side on to t) h =
      cross-in u c 24575 (vector_difference on to) t (omega arith) (difference-in u c 12287 on to h.0 h.1) (loosen-vector u c 12287 24575 t (omega arith) h.2)

  face_point-in : (f : Face) → FaceIn u c f → IsPart u c (face_point f)
  face_point-in (flat on n) h = h.0
  face_point-in (side on to t) h = h.0

module _ (i k : ℕ) (p : List (Poly ℤ)) (f : Face) (x : (v d : ℕ) → i ≤ v → IsPart v d p) (h : (v d : ℕ) → i ≤ v → FaceIn v d f) where
  apart-in : (v d : ℕ) → i ≤ v → IsVector v d 98303 (vector_difference p (face_point f))
  apart-in v d q = loosen-vector v d 24575 98303 (vector_difference p (face_point f)) (omega arith) (difference-in v d 12287 p (face_point f) (x v d q) (face_point-in v d f (h v d q)))

  pub over_face-fits : (z : ℤ) → FormulaFits i k (over_face i z p f)
  unfolding over_face
  over_face-fits z =
      let n = face_normal f in
      let a = dot-in (i + 1) (k + 0) 98303 (vector_difference p (face_point f)) n (apart-in (i + 1) (k + 0) (omega arith)) (face_normal-in (i + 1) (k + 0) f (h (i + 1) (k + 0) (omega arith))) in
      let a' = a.1 in
      (with-length i k n [] (λ v d q. loosen-vector v d 98303 600000 n (omega arith) (face_normal-in v d f (h v d q))) tt, (((a.0, (tt, omega arith)), omega (arith, a')), tt))

  pub in_face-fits : FormulaFits i k (in_face p f)
  unfolding in_face
  in_face-fits = perpendicular-fits i k 98303 (vector_difference p (face_point f)) (face_normal f) (omega arith) apart-in (λ v d q. face_normal-in v d f (h v d q))

-- ---- curves that touch

abbrev pub IsChord : ℕ → ℕ → List (Poly ℤ) → Type 0
IsChord u c a = IsVector u c 73727 a

abbrev pub EndIn : ℕ → ℕ → CurveEnd → Type 0
EndIn u c (spoke r) = IsChord u c r
EndIn u c (tangent d) = IsChord u c d

abbrev pub BothIn : ℕ → ℕ → Option (List (Poly ℤ) × List (Poly ℤ)) → Type 0
BothIn u c None = Unit {0}
BothIn u c (Some p) = IsChord u c p.0 × IsChord u c p.1

abbrev pub ContactIn : ℕ → ℕ → Contact → Type 0
ContactIn u c (with_line d l b) = IsChord u c d × IsChord u c l × BothIn u c b
ContactIn u c (of_curves a b) = EndIn u c a × EndIn u c b

module _ {s : ℕ} (o : Source s) (u c : ℕ) (l : length o.unknowns ≤ u) where
  space_chord-in : (d : Chord) → IsChord u c (space_chord o d)
  unfolding space_chord
  space_chord-in d = loosen-vector u c 24575 73727 (vector_difference (point_by o d.to) (point_by o d.from)) (omega arith) (difference-in u c 12287 (point_by o d.to) (point_by o d.from) (point_by-in o u c l d.to) (point_by-in o u c l d.from))

  flat_chord-in : (w : EntityId) (d : Chord) → IsChord u c (flat_chord o w d)
  unfolding flat_chord
  flat_chord-in w d = loosen-vector u c 24575 73727 (vector_difference (flat_by o w d.to) (flat_by o w d.from)) (omega arith) (difference-in u c 12287 (flat_by o w d.to) (flat_by o w d.from) (flat_by-in o u c l w d.to) (flat_by-in o u c l w d.from))

  either-end : (t : Bool) (a b : CurveEnd) → EndIn u c a → EndIn u c b → EndIn u c (if t then a else b)
  either-end true a b x y = x
  either-end false a b x y = y

  curve_end-in : (w e : EntityId) (at_end : Bool) → EndIn u c (curve_end o w e at_end)
  unfolding curve_end
  curve_end-in w e at_end =
      let t = tangent_chord (points_of (entity_by o e)) at_end in
      let r = spoke_chord (points_of (entity_by o e)) at_end in
      either-end (is_cubic_by o e) (tangent (flat_chord o w t)) (spoke (flat_chord o w r)) (flat_chord-in w t) (flat_chord-in w r)

  both-in : (t : Bool) (w : EntityId) (d e : Chord) → BothIn u c (if t then Some (flat_chord o w d, flat_chord o w e) else None)
  both-in true w d e = (flat_chord-in w d, flat_chord-in w e)
  both-in false w d e = tt

  either-contact : (t : Bool) (a b : Contact) → ContactIn u c a → ContactIn u c b → ContactIn u c (if t then a else b)
  either-contact true a b x y = x
  either-contact false a b x y = y

  pub contact-in : (k : Constraint s) → ContactIn u c (contact_in o k)
  unfolding contact_in
  contact-in k =
      let w = k.workplane in
      let a = named k.entities 0 in
      let b = named k.entities 1 in
      let d = tangent_chord (points_of (entity_by o a)) k.other in
      let e = line_chord (points_of (entity_by o b)) in
      either-contact (k.kind == constraint_kind.CUBIC_LINE_TANGENT) (with_line (space_chord o d) (space_chord o e) (both_chords o w d e)) (of_curves (curve_end o w a k.other) (curve_end o w b k.other2))
      (space_chord-in d, space_chord-in e, both-in (has_entity w) w d e) (curve_end-in w a k.other, curve_end-in w b k.other2)

module _ (i k : ℕ) where
  ends-fit : (a b : CurveEnd) → ((v d : ℕ) → i ≤ v → EndIn v d a) → ((v d : ℕ) → i ≤ v → EndIn v d b) → FormulaFits i k (ends_touch a b)
  ends-fit (spoke r) (spoke q) x y = parallel-fits i k true r q x y
  ends-fit (spoke r) (tangent d) x y = perpendicular-fits i k 73727 r d (omega arith) x y
  ends-fit (tangent d) (spoke r) x y = perpendicular-fits i k 73727 r d (omega arith) y x
  ends-fit (tangent d) (tangent e) x y = parallel-fits i k true d e x y

  pub touch-fits : (m : Contact) → ((v d : ℕ) → i ≤ v → ContactIn v d m) → FormulaFits i k (touch m)
  touch-fits (with_line d l None) h = parallel-fits i k false d l (λ v e q. (h v e q).0) (λ v e q. (h v e q).1)
  touch-fits (with_line d l (Some p)) h = parallel-fits i k true p.0 p.1 (λ v e q. (h v e q).2.0) (λ v e q. (h v e q).2.1)
  touch-fits (of_curves a b) h = ends-fit a b (λ v d q. (h v d q).0) (λ v d q. (h v d q).1)
