-- Outlines and numbers that are alike where they are read give the same system.
use Rattle.std.proofs.Common.{◌≡◌, ℕ, ◌+◌, Bool, true, false, List, [], ◌∷◌, ◌++◌, ◌<◌, length, map, Option, Some, None, inl, inr, refl, sym, ap, ◌∙◌, arith}
use Rattle.std.specs.Prelude.{◌==◌, ◌&&◌, ◌||◌, ◌⊎◌, not, if◌then◌else◌}
use Rattle.std.specs.List.{All, filter, flat_map}
use Rattle.std.proofs.lemmas.Bool.{cases_Bool, eqb-true}
use Rattle.std.proofs.lemmas.List.Elements.{All-head, All-tail, All-filter, All-weaker}
use Rattle.sk_types.specs.declared.handle.EntityId.{EntityId}
use Rattle.sk_types.specs.declared.constraint.Constraint.{Constraint}
use Rattle.sk_types.specs.declared.handle.ParamId.{ParamId}
use Rattle.sk_types.specs.declared.constraint.PartKind.TheVariants.{Point, Line, Cubic, ArcOrCubic, Face as FacePart}
use Rattle.sk_types.specs.declared.entity.Entity.{Entity}
use Rattle.sk_types.specs.declared.entity.Numbering.{Numbering}
use Rattle.sk_types.specs.declared.entity.Numbering.TheVariants.{Own, Moved, Copied, Placed, Nothing}
use Rattle.sk_types.specs.declared.entity_kind.TheConstants as entity_kind
use Rattle.sk_types.specs.declared.constraint_kind.TheConstants as kind
use Rattle.sk_types.specs.declared.group.Group.{Group}
use Rattle.sk_types.specs.declared.group.GroupKind.{GroupKind}
use Rattle.sk_types.specs.declared.group.GroupKind.TheVariants.{Space, Plane, Extrude, Translate, Linked}
use Rattle.sk_types.specs.Handles.{maker_of}
use Rattle.sk_types.specs.Kinds.{is_point, is_normal, is_distance, is_face}
use Rattle.sk_types.specs.Lists.{is_among}
use Rattle.sk_types.specs.Needs.{named, needs_of}
use Rattle.sk_types.specs.Params.{own_params, group_params, fixes, is_fixed, free_params, unknown_params}
use Rattle.sk_types.specs.Sizes.{has_entity, is_by_request}
use Rattle.sk_expr.specs.declared.row.RowKind.TheVariants.{OfEntity, OfGroup}
use Rattle.sk_expr.specs.Vectors.{vector_difference, dot}
use Rattle.sk_expr.specs.Readings.{rows_from}
use Rattle.sk_expr.specs.Parts.{PartsOf}
use Rattle.sk_expr.specs.Formula.{Formula, formula}
use Rattle.sk_geom.specs.Sources.{Source}
use Rattle.sk_eq_points.specs.PointRows.{point_kinds, point_formula}
use Rattle.sk_eq_lines.specs.LineRows.{line_kinds, line_formula}
use Rattle.sk_eq_curves.specs.CurveRows.{curve_kinds, curve_formula}
use Rattle.sk_face.specs.FaceRows.{flat, side, face_kinds, face_normal, face_formula}
use Rattle.sk_cubic.specs.CubicRows.{Contact, spoke, tangent, with_line, of_curves, cubic_formula}
use Rattle.sk_system.specs.declared.contacts.Chord.{Chord}
use Rattle.sk_system.specs.ByHandle.{entity_by, point_by, points_of, is_of, is_cubic_by, is_normal_by}
use Rattle.sk_system.specs.ConstraintParts.{constraint_parts}
use Rattle.sk_system.specs.Contacts.{last_three, copied_normal, named_normal, own_face, face_of, face_or_none, face_by, tangent_chord, spoke_chord, line_chord, space_chord, flat_chord, curve_end, both_chords, contact_in, has_cubic}
use Rattle.sk_system.specs.Formulas.{constraint_formula, formulas_from}
use Rattle.sk_system.specs.OwnRows.{nought, read_numbers, own_numbers, unit_row, arc_row, arc_row_of, entity_row_trees, named_entity_rows, along, within, group_row_trees}
use Rattle.sk_system.specs.GroupSystem.{own_constraints, entities_of, numbers_of, own_rows_of, group_system}
use Rattle.sk_system.specs.OutlineLaws.{NeededRead, PlaneRead, OutlinesLaw}
use Rattle.sk_system.specs.LookupLaws.{Reads, IsRead, NumbersRead, PartsRead, HoldsReads, LookupsLaw, SameLookupsLaw}
use Rattle.sk_system.proofs.AlikeEntities.{Pair, one, other, NamesOf, IsAlike, EntityRead, IfRead, named-read, found, in_place, vector-same, quaternion-same, act-same, point-same, normal-same, distance-same}
use Rattle.sk_system.proofs.Unmarked.{SameAt, below-1, below-4, curve_unmarked, line_unmarked, point_unmarked, same-get, same-take}
use Rattle.sk_system.proofs.AlikeParts.{branch, normal-is, place-read, needs-read, at, needed-by, first-of, second-of, point_by-same, flat_by-same, frame_by-same, axes_by-same, names-read, parts-same}

module _ {s : ℕ} (x : Pair s) (a : IsAlike x) where
  abbrev r : Reads
  r = x.reads

  -- ---- faces

  last-same : (e : EntityId) → IsRead r e → copied_normal (one x) (Copied e) ≡ copied_normal (other x) (Copied e)
  last-same e k = λ i. last_three (act-same x a e k i)

  copied-same : (n : Numbering s) → NumbersRead r n → copied_normal (one x) n ≡ copied_normal (other x) n
  copied-same (Own p) k = refl
  copied-same (Moved from t) k = refl
  copied-same (Placed zs) k = refl
  copied-same (Copied from) k = last-same from k
  copied-same Nothing k = refl

  named_normal-same : (n : EntityId) → IsRead r n → named_normal (one x) n ≡ named_normal (other x) n
  named_normal-same n k = let q = axes_by-same x a n k in λ i. if has_entity n then (q i).n else vector-same x a i

  own_face-same : (e : Entity s) → EntityRead r e → own_face (one x) e ≡ own_face (other x) e
  own_face-same e h =
      let on = point_by-same x a (named e.points 0) (in_place x a e.points 0 h.names.points) in
      let to = point_by-same x a (named e.points 1) (in_place x a e.points 1 h.names.points) in
      let n = named_normal-same e.normal h.names.normal in
      let t = copied-same e.numbers h.names.numbers in
      λ i.
      if e.kind == entity_kind.FACE_BY_LINE then side (on i) (to i) (vector-same x a i) else
      if e.kind == entity_kind.FACE_BY_NORMAL then flat (on i) (n i) else
      flat (on i) (t i)

  face_of-same : (e : Entity s) → EntityRead r e → face_of (one x) e ≡ face_of (other x) e
  unfolding face_of
  face_of-same e h =
      let on = point_by-same x a (named e.points 0) (in_place x a e.points 0 h.names.points) in
      λ i. if e.group.0 == x.group.0 then own_face-same e h i else flat (on i) (last_three (act-same x a e.id h.self i))

  face-there : (e : Option (Entity s)) → IfRead r e → face_or_none (one x) e ≡ face_or_none (other x) e
  face-there None k = refl
  face-there (Some e) k = face_of-same e k

  face_by-same : (e : EntityId) → IsRead r e → face_by (one x) e ≡ face_by (other x) e
  unfolding face_by
  face_by-same e k = face-there (entity_by (one x) e) (found x a e k) ∙ ap (face_or_none (other x)) (at x a e k)

  -- ---- curves that touch

  pub record ChordRead (d : Chord) : Type 0 where
    pub from' : IsRead r d.from
    pub to' : IsRead r d.to

  space_chord-same : (d : Chord) → ChordRead d → space_chord (one x) d ≡ space_chord (other x) d
  unfolding space_chord
  space_chord-same d k = λ i. vector_difference (point_by-same x a d.to k.to' i) (point_by-same x a d.from k.from' i)

  flat_chord-same : (w : EntityId) (d : Chord) → IsRead r w → ChordRead d → flat_chord (one x) w d ≡ flat_chord (other x) w d
  unfolding flat_chord
  flat_chord-same w d h k = λ i. vector_difference (flat_by-same x a w d.to h k.to' i) (flat_by-same x a w d.from h k.from' i)

  tangent-read : (ps : List EntityId) (at_end : Bool) → All (IsRead r) ps → ChordRead (tangent_chord ps at_end)
  tangent-read ps true k = record { from' = in_place x a ps _ k; to' = in_place x a ps _ k }
  tangent-read ps false k = record { from' = in_place x a ps 0 k; to' = in_place x a ps 1 k }

  spoke-read : (ps : List EntityId) (at_end : Bool) → All (IsRead r) ps → ChordRead (spoke_chord ps at_end)
  spoke-read ps at_end k = record { from' = in_place x a ps 0 k; to' = in_place x a ps _ k }

  line-read : (ps : List EntityId) → All (IsRead r) ps → ChordRead (line_chord ps)
  line-read ps k = record { from' = in_place x a ps 1 k; to' = in_place x a ps 0 k }

  curve_end-same : (w e : EntityId) (at_end : Bool) → IsRead r w → IsRead r e → curve_end (one x) w e at_end ≡ curve_end (other x) w e at_end
  unfolding curve_end
  curve_end-same w e at_end h k =
      let ps = points_of (entity_by (one x) e) in
      let l = names-read x a e k in
      let t = flat_chord-same w (tangent_chord ps at_end) h (tangent-read ps at_end l) in
      let u = flat_chord-same w (spoke_chord ps at_end) h (spoke-read ps at_end l) in
      (λ i. if is_cubic_by (one x) e then tangent (t i) else spoke (u i))
      ∙ (λ i.
      let y = at x a e k i in
      if is_of (λ k. k == entity_kind.CUBIC) y then tangent (flat_chord (other x) w (tangent_chord (points_of y) at_end)) else spoke (flat_chord (other x) w (spoke_chord (points_of y) at_end)))

  both_chords-same : (w : EntityId) (d l : Chord) → IsRead r w → ChordRead d → ChordRead l → both_chords (one x) w d l ≡ both_chords (other x) w d l
  both_chords-same w d l h j k =
      let t = flat_chord-same w d h j in
      let u = flat_chord-same w l h k in
      λ i. if has_entity w then Some (t i, u i) else None

  module _ (c : Constraint s) (p : NeededRead r c) where
    abbrev e0 : EntityId
    e0 = named c.entities 0

    abbrev e1 : EntityId
    e1 = named c.entities 1

    -- a contact by the points that the two entities name
    abbrev contact_with : Source s → List EntityId → List EntityId → Contact
    contact_with o ps qs =
        let d = tangent_chord ps c.other in
        let l = line_chord qs in
        if c.kind == kind.CUBIC_LINE_TANGENT then with_line (space_chord o d) (space_chord o l) (both_chords o c.workplane d l)
        else of_curves (curve_end o c.workplane e0 c.other) (curve_end o c.workplane e1 c.other2)

    contact-same : IsRead r e0 → IsRead r e1 → contact_in (one x) c ≡ contact_in (other x) c
    unfolding contact_in
    contact-same j k =
        let w = c.workplane in
        let ps = points_of (entity_by (one x) e0) in
        let qs = points_of (entity_by (one x) e1) in
        let d = tangent_chord ps c.other in
        let l = line_chord qs in
        let d' = tangent-read ps c.other (names-read x a e0 j) in
        let l' = line-read qs (names-read x a e1 k) in
        let ds = space_chord-same d d' in
        let ls = space_chord-same l l' in
        let bs = both_chords-same w d l p.workplane d' l' in
        let es = curve_end-same w e0 c.other p.workplane j in
        let fs = curve_end-same w e1 c.other2 p.workplane k in
        (λ i. if c.kind == kind.CUBIC_LINE_TANGENT then with_line (ds i) (ls i) (bs i) else of_curves (es i) (fs i))
        ∙ (λ i. contact_with (other x) (points_of (at x a e0 j i)) (points_of (at x a e1 k i)))

    -- ---- a kind's needs

    abbrev Both : Type 0
    Both = IsRead r e0 × IsRead r e1

    cubic-line : (c.kind == kind.CUBIC_LINE_TANGENT) ≡ true → Both
    unfolding needs_of
    cubic-line e = let h = needed-by x a c p kind.CUBIC_LINE_TANGENT e in (first-of x a c p e0 Cubic e1 Line h, second-of x a c p e0 Cubic e1 Line h)

    curve-curve : (c.kind == kind.CURVE_CURVE_TANGENT) ≡ true → Both
    unfolding needs_of
    curve-curve e = let h = needed-by x a c p kind.CURVE_CURVE_TANGENT e in (first-of x a c p e0 ArcOrCubic e1 ArcOrCubic h, second-of x a c p e0 ArcOrCubic e1 ArcOrCubic h)

    abbrev PointAndFace : Type 0
    PointAndFace = IsRead r (named c.points 0) × IsRead r e0

    face-distance : (c.kind == kind.POINT_FACE_DISTANCE) ≡ true → PointAndFace
    unfolding needs_of
    face-distance e = let h = needed-by x a c p kind.POINT_FACE_DISTANCE e in (first-of x a c p (named c.points 0) Point e0 FacePart h, second-of x a c p (named c.points 0) Point e0 FacePart h)

    on-face : (c.kind == kind.POINT_ON_FACE) ≡ true → PointAndFace
    unfolding needs_of
    on-face e = let h = needed-by x a c p kind.POINT_ON_FACE e in (first-of x a c p (named c.points 0) Point e0 FacePart h, second-of x a c p (named c.points 0) Point e0 FacePart h)

    of-face : is_among c.kind face_kinds ≡ true → PointAndFace
    of-face e = elim (cases_Bool (c.kind == kind.POINT_FACE_DISTANCE)) [
      | inl t ↦ face-distance t
      | inr f ↦ elim (cases_Bool (c.kind == kind.POINT_ON_FACE)) [
        | inl t ↦ on-face t
        | inr g ↦ (let no : false ≡ true = rw (f, g) at e in cc no)
      ]
    ]

    abbrev cubics : Source s → Bool
    cubics o = is_cubic_by o e0 || is_cubic_by o e1

    cubics-same : Both → cubics (one x) ≡ cubics (other x)
    cubics-same h = λ i. is_of (λ k. k == entity_kind.CUBIC) (at x a e0 h.0 i) || is_of (λ k. k == entity_kind.CUBIC) (at x a e1 h.1 i)

    has-or : (t u : Bool) (b d : Bool) → (u ≡ true → b ≡ d) → (t || (u && b)) ≡ (t || (u && d))
    has-or true u b d h = refl
    has-or false true b d h = h refl
    has-or false false b d h = refl

    has_cubic-same : has_cubic (one x) c ≡ has_cubic (other x) c
    has_cubic-same = has-or (c.kind == kind.CUBIC_LINE_TANGENT) (c.kind == kind.CURVE_CURVE_TANGENT) (cubics (one x)) (cubics (other x)) (λ e. cubics-same (curve-curve e))

    either-or : (t u b : Bool) → (t || (u && b)) ≡ true → (t ≡ true) ⊎ (u ≡ true)
    either-or true u b e = inl refl
    either-or false true b e = inr refl
    either-or false false b e = cc e

    contact-both : has_cubic (one x) c ≡ true → Both
    contact-both e = elim (either-or (c.kind == kind.CUBIC_LINE_TANGENT) (c.kind == kind.CURVE_CURVE_TANGENT) (cubics (one x)) e) [ inl t ↦ cubic-line t | inr u ↦ curve-curve u ]

    -- ---- the formula

    abbrev rest_with : ℕ → PartsOf → Formula
    rest_with n parts = if is_among c.kind curve_kinds then curve_formula s n c parts else formula [] []

    -- ---- marks of lines and normals

    abbrev u : PartsOf
    u = constraint_parts (one x) c

    abbrev marks : List Bool
    marks = map (is_normal_by (other x)) c.entities

    -- the first two, or all four, are needed
    mark-at : (j : ℕ) → IsRead r (named c.entities j) → is_normal_by (other x) (named c.entities j) ≡ is_normal_by (one x) (named c.entities j)
    mark-at j h = sym (normal-is x a c p (named c.entities j) h)

    abbrev SameMark : ℕ → Type 0
    SameMark j = is_normal_by (other x) (named c.entities j) ≡ is_normal_by (one x) (named c.entities j)

    abbrev SameMarks : ℕ → Type 0
    SameMarks j = SameAt u marks j

    same-at : (j : ℕ) → ((i : ℕ) → i < j → SameMark i) → SameMark j → SameMarks j
    unfolding constraint_parts
    same-at j h k = (same-take (is_normal_by (other x)) (is_normal_by (one x)) j c.entities h, same-get (is_normal_by (other x)) (is_normal_by (one x)) j c.entities k)

    at-0 : IsRead r (named c.entities 0) → SameMarks 0
    at-0 h = same-at 0 (λ i l. absurd (omega (arith, l))) (mark-at 0 h)

    at-1 : IsRead r (named c.entities 0) → IsRead r (named c.entities 1) → SameMarks 1
    at-1 h k = same-at 1 (λ i l. below-1 SameMark i l (mark-at 0 h)) (mark-at 1 k)

    four : (h : (j : ℕ) → j < 4 → IsRead r (named c.entities j)) → SameMarks 0 × SameMarks 1 × SameMarks 2 × SameMarks 3
    four h =
        let all : (j : ℕ) → j < 4 → SameMarks j = λ j l. same-at j (λ i k. mark-at i (h i (omega (arith, l, k)))) (mark-at j (h j l)) in
        (all 0 (omega arith), all 1 (omega arith), all 2 (omega arith), all 3 (omega arith))

    two : IsRead r (named c.entities 0) × IsRead r (named c.entities 1) → SameMarks 0 × SameMarks 1
    two h = (at-0 h.0, at-1 h.0 h.1)

    apart-marks : (c.kind == kind.PROJECTED_DISTANCE) ≡ true → SameMarks 0
    unfolding needs_of
    apart-marks e = at-0 (place-read x a c p kind.PROJECTED_DISTANCE e 2)

    angles-marks : (c.kind == kind.EQUAL_ANGLES) ≡ true → SameMarks 0 × SameMarks 1 × SameMarks 2 × SameMarks 3
    unfolding needs_of
    angles-marks e =
        four (below-4 (λ j. IsRead r (named c.entities j)) (place-read x a c p kind.EQUAL_ANGLES e 0) (place-read x a c p kind.EQUAL_ANGLES e 1) (place-read x a c p kind.EQUAL_ANGLES e 2) (place-read x a c p kind.EQUAL_ANGLES e 3))

    angle-marks : (c.kind == kind.ANGLE) ≡ true → SameMarks 0 × SameMarks 1
    unfolding needs_of
    angle-marks e = two (place-read x a c p kind.ANGLE e 0, place-read x a c p kind.ANGLE e 1)

    level-marks : (c.kind == kind.PARALLEL) ≡ true → SameMarks 0 × SameMarks 1
    unfolding needs_of
    level-marks e = two (place-read x a c p kind.PARALLEL e 0, place-read x a c p kind.PARALLEL e 1)

    upright-marks : (c.kind == kind.PERPENDICULAR) ≡ true → SameMarks 0 × SameMarks 1
    unfolding needs_of
    upright-marks e = two (place-read x a c p kind.PERPENDICULAR e 0, place-read x a c p kind.PERPENDICULAR e 1)

    formula-same : (n m : ℕ) → constraint_formula (one x) n m c ≡ constraint_formula (other x) n m c
    unfolding constraint_formula
    formula-same n m =
        let parts = parts-same x a c p in
        let v = constraint_parts (other x) c in
        let point = λ (h : PointAndFace). point_by-same x a (named c.points 0) h.0 in
        let face = λ (h : PointAndFace). face_by-same e0 h.1 in
        branch c.reference (formula [] []) _ (formula [] []) _ (λ e. refl) (λ e.
        branch (is_among c.kind point_kinds) (point_formula s c u) _ (point_formula s c v) _ (λ e. sym (point_unmarked u marks s c) ∙ ap (point_formula s c) parts) (λ e.
        branch (is_among c.kind line_kinds) (line_formula s n m c u) _ (line_formula s n m c v) _
        (λ e. sym (line_unmarked u marks s n m c apart-marks angles-marks angle-marks level-marks upright-marks) ∙ ap (line_formula s n m c) parts) (λ e.
        branch (is_among c.kind face_kinds) (face_formula s n c (point_by (one x) (named c.points 0)) (face_by (one x) e0)) _ (face_formula s n c (point_by (other x) (named c.points 0)) (face_by (other x) e0)) _
        (λ e i. face_formula s n c (point (of-face e) i) (face (of-face e) i)) (λ e.
        branch (has_cubic (one x) c) (cubic_formula s c (contact_in (one x) c)) _ (cubic_formula s c (contact_in (other x) c)) _
        (λ e. ap (cubic_formula s c) (contact-same (contact-both e).0 (contact-both e).1))
        (λ e. branch (is_among c.kind curve_kinds) (curve_formula s n c u) (formula [] []) (curve_formula s n c v) (formula [] []) (λ e. sym (curve_unmarked u marks s n c) ∙ ap (curve_formula s n c) parts) (λ e. refl))
        ∙ ap (λ (t : Bool). if t then cubic_formula s c (contact_in (other x) c) else rest_with n v) has_cubic-same))))

  formulas-same : (n m : ℕ) (cs : List (Constraint s)) → All (NeededRead {s = s} r) cs → formulas_from (one x) n m cs ≡ formulas_from (other x) n m cs
  formulas-same n m [] h = refl
  formulas-same n m (c ∷ cs) h =
      let p = formula-same c (All-head (NeededRead {s = s} r) c cs h) n m in
      let f = constraint_formula (other x) n m c in
      let rest = formulas-same (n + length f.auxiliaries) (m + length f.cosines) cs (All-tail (NeededRead {s = s} r) c cs h) in
      let first : formulas_from (one x) n m (c ∷ cs) ≡ record { constraint = c.id; formula = f } ∷ formulas_from (one x) (n + length f.auxiliaries) (m + length f.cosines) cs =
      λ i. record { constraint = c.id; formula = p i } ∷ formulas_from (one x) (n + length (p i).auxiliaries) (m + length (p i).cosines) cs in
      first ∙ (λ i. record { constraint = c.id; formula = f } ∷ rest i)

  -- ---- entities of the group

  own_numbers-same : (e : Entity s) → EntityRead r e → own_numbers (one x) e ≡ own_numbers (other x) e
  unfolding own_numbers
  own_numbers-same e h =
      let p = point-same x a e h in
      let n = normal-same x a e h in
      let d = distance-same x a e h in
      let f = face_of-same e h in
      λ i.
      if is_point e.kind then read_numbers e.id (p i ++ nought ∷ []) ∷ [] else
      if is_normal e.kind then read_numbers e.id (n i) ∷ [] else
      if is_distance e.kind then read_numbers e.id (d i ∷ nought ∷ nought ∷ nought ∷ []) ∷ [] else
      if is_face e.kind then record { entity = e.id; trees = nought ∷ face_normal (f i); is_read = false } ∷ [] else []

  arc-same : (e : Entity s) → EntityRead r e → arc_row_of (one x) e ≡ arc_row_of (other x) e
  arc-same e h =
      let w = h.names.workplane in
      let ps = h.names.points in
      let p = flat_by-same x a e.workplane (named e.points 0) w (in_place x a e.points 0 ps) in
      let q = flat_by-same x a e.workplane (named e.points 1) w (in_place x a e.points 1 ps) in
      let t = flat_by-same x a e.workplane (named e.points 2) w (in_place x a e.points 2 ps) in
      λ i. arc_row (p i) (q i) (t i)

  entity_rows-same : (e : Entity s) → EntityRead r e → entity_row_trees (one x) e ≡ entity_row_trees (other x) e
  unfolding entity_row_trees
  entity_rows-same e h =
      let n = normal-same x a e h in
      let t = arc-same e h in
      λ i.
      if e.kind == entity_kind.NORMAL_IN_SPACE then unit_row s (n i) ∷ [] else
      if e.kind == entity_kind.ARC && is_by_request (maker_of e.id.0) then t i ∷ [] else []

  -- ---- the group

  along-same : (w : EntityId) → IsRead r w → along (one x) w ≡ along (other x) w
  along-same w k = let f = frame_by-same x a w k in λ i. dot (f i).u (vector-same x a i) ∷ dot (f i).v (vector-same x a i) ∷ []

  within-same : (w : EntityId) → IsRead r w → within (one x) w ≡ within (other x) w
  within-same w k = let f = frame_by-same x a w k in λ i. dot (f i).n (vector-same x a i) ∷ []

  group_rows-same : (w : EntityId) (k : GroupKind) → PlaneRead r k w → group_row_trees (one x) w k ≡ group_row_trees (other x) w k
  unfolding group_row_trees
  group_rows-same w Space h = refl
  group_rows-same w Plane h = refl
  group_rows-same w Extrude h = λ i. if has_entity w then along-same w h i else []
  group_rows-same w Translate h = λ i. if has_entity w then within-same w h i else []
  group_rows-same w Linked h = λ i. unit_row s (quaternion-same x a i) ∷ []

  -- ---- lists

  abbrev OwnRead : Entity s → Type 0
  OwnRead e = EntityRead r e

  many : {B : Type 0} (f g : Entity s → List B) (es : List (Entity s)) → ((e : Entity s) → EntityRead r e → f e ≡ g e) → All OwnRead es → flat_map f es ≡ flat_map g es
  many f g [] h k = refl
  many f g (e ∷ es) h k =
      let here = h e (All-head OwnRead e es k) in
      let rest = many f g es h (All-tail OwnRead e es k) in
      λ i. here i ++ rest i

  pub numbers-same : All OwnRead (entities_of (one x)) → entities_of (one x) ≡ entities_of (other x) → numbers_of (one x) ≡ numbers_of (other x)
  numbers-same k own = many (own_numbers (one x)) (own_numbers (other x)) (entities_of (one x)) own_numbers-same k ∙ ap (flat_map (own_numbers (other x))) own

  pub rows-same : (g : Group s) → All OwnRead (entities_of (one x)) → entities_of (one x) ≡ entities_of (other x) → PlaneRead r g.kind g.entity_b → own_rows_of (one x) g ≡ own_rows_of (other x) g
  rows-same g k own h =
      let es = many (named_entity_rows (one x)) (named_entity_rows (other x)) (entities_of (one x)) (λ e l i. rows_from OfEntity e.id.0 0 (entity_rows-same e l i)) k ∙ ap (flat_map (named_entity_rows (other x))) own in
      let gs = group_rows-same g.entity_b g.kind h in
      λ i. es i ++ rows_from OfGroup g.id.0 0 (gs i)

-- entities that are read and whose names are
both-read : {s : ℕ} (r : Reads) (es : List (Entity s)) (t : Entity s → Bool) → All (λ (e : Entity s). IsRead r e.id) (filter t es) → All (NamesOf {s = s} r) es → All (λ (e : Entity s). EntityRead r e) (filter t es)
both-read {s} r es t h k = λ n d l.
    let y = h n d l in
    record { self = y; names = (All-filter t (NamesOf {s = s} r) es k) n d l y }

-- ---- what is unknown

module _ {s : ℕ} (g : Group s) where
  own-fix : (e : Entity s) → (e.group.0 == g.id.0) ≡ true → (cs : List (Constraint s)) → is_fixed cs e ≡ is_fixed (own_constraints g cs) e
  own-fix e is [] = refl
  own-fix e is (c ∷ cs) = elim (cases_Bool (c.group.0 == g.id.0)) [
    | inl t ↦ rw t (ap (λ (b : Bool). fixes e c || b) (own-fix e is cs))
    | inr f ↦ (let other : fixes e c ≡ false = not-fixed e c is f in rw (f, other) (own-fix e is cs))
  ]
    where
      third : (a b d : Bool) → (((a && b) && false) && d) ≡ false
      third true true d = refl
      third true false d = refl
      third false b d = refl

      not-fixed : (e : Entity s) (c : Constraint s) → (e.group.0 == g.id.0) ≡ true → (c.group.0 == g.id.0) ≡ false → fixes e c ≡ false
      not-fixed e c is f =
          let off : (c.group.0 == e.group.0) ≡ false = ap (λ (n : ℕ). c.group.0 == n) (eqb-true e.group.0 g.id.0 is) ∙ f in
          rw off (third (c.kind == kind.WHERE_DRAGGED) (not c.reference) ((named c.points 0).0 == e.id.0))

  own-free : (cs : List (Constraint s)) (es : List (Entity s)) → flat_map (free_params cs) (filter (λ e. e.group.0 == g.id.0) es) ≡ flat_map (free_params (own_constraints g cs)) (filter (λ e. e.group.0 == g.id.0) es)
  own-free cs [] = refl
  own-free cs (e ∷ es) = elim (cases_Bool (e.group.0 == g.id.0)) [
    | inl t ↦ (let is = own-fix e t cs in let rest = own-free cs es in rw t (λ i. (if is i then [] else own_params e) ++ rest i))
    | inr f ↦ rw f (own-free cs es)
  ]

  pub unknown-same : (es : List (Entity s)) (cs : List (Constraint s)) (fs : List (Entity s)) (ds : List (Constraint s)) → filter (λ e. e.group.0 == g.id.0) es ≡ filter (λ e. e.group.0 == g.id.0) fs → own_constraints g cs ≡ own_constraints g ds
      → unknown_params cs es g ≡ unknown_params ds fs g
  unknown-same es cs fs ds own same =
      ap (λ (ps : List ParamId). ps ++ group_params g)
      (own-free cs es ∙ (λ i. flat_map (free_params (same i)) (own i)) ∙ sym (own-free ds fs))

-- ---- the laws

pub outlines_law : OutlinesLaw
unfolding group_system
outlines_law s r g es cs fs ds n m h a k =
    let us = unknown_params cs es g in
    let x : Pair s = record { reads = r; group = g.id; entities = es; others = fs; unknowns = us; first = n; second = m } in
    let like : IsAlike x = record { nothing = h.nothing; vector = h.vector; quaternion = h.quaternion; names = h.names; there = a.there; alike = k } in
    let read = both-read r es (λ e. e.group.0 == g.id.0) h.own h.names in
    let ns = numbers-same x like read a.own in
    let rs = rows-same x like g read a.own h.workplane in
    let forms = formulas-same x like (length us) 0 (own_constraints g cs) h.constraints ∙ ap (formulas_from (other x) (length us) 0) a.constraints in
    let first : group_system g es cs n ≡ record { unknowns = us; numbers = numbers_of (other x); rows = own_rows_of (other x) g; formulas = formulas_from (other x) (length us) 0 (own_constraints g ds) } = λ i. record { unknowns = us; numbers = ns i; rows = rs i; formulas = forms i } in
    first ∙ (λ i.
    let vs = unknown-same g es cs fs ds a.own a.constraints i in
    let o : Source s = record { entities = fs; params = m.params; acts = m.acts; unknowns = vs; group = g.id } in
    record { unknowns = vs; numbers = numbers_of o; rows = own_rows_of o g; formulas = formulas_from o (length vs) 0 (own_constraints g ds) })

-- over one outline
plane-read : (r : Reads) (k : GroupKind) (w : EntityId) → IsRead r w → PlaneRead r k w
plane-read r Space w h = tt
plane-read r Plane w h = tt
plane-read r Extrude w h = h
plane-read r Translate w h = h
plane-read r Linked w h = tt

needed : {s : ℕ} (r : Reads) → r.entities 0 ≡ true → (c : Constraint s) → PartsRead r c → NeededRead r c
needed r z c p = record { needs = (needs-read r (named-read r z) c.points c.entities p.points p.entities c.kind).all; workplane = p.workplane }

pub lookups_law : LookupsLaw
lookups_law s r g es cs n m h k =
    outlines_law s r g es cs es cs n m
    (record {
      nothing = h.nothing;
      vector = h.vector;
      quaternion = h.quaternion;
      workplane = plane-read r g.kind g.entity_b h.workplane;
      own = h.own;
      constraints = All-weaker (PartsRead {s = s} r) (NeededRead {s = s} r) (needed r h.nothing) (own_constraints g cs) h.constraints;
      names = h.names;
    })
    (record { own = refl; constraints = refl; there = λ h e. refl }) k

-- ---- all that there is

abbrev everything : Reads
everything = record { entities = λ h. true; params = λ h. true }

numbers-read : {s : ℕ} (n : Numbering s) → NumbersRead everything n
numbers-read (Own p) = (refl, refl, refl, refl)
numbers-read (Moved from k) = refl
numbers-read (Copied from) = refl
numbers-read (Placed zs) = tt
numbers-read Nothing = tt

all-held : {s : ℕ} (g : Group s) (es : List (Entity s)) (cs : List (Constraint s)) → HoldsReads everything g es cs
all-held g es cs = record {
  nothing = refl;
  vector = (refl, refl, refl, refl);
  quaternion = (refl, refl, refl, refl);
  workplane = refl;
  own = λ k d l. refl;
  constraints = λ k d l. record { points = λ k d l. refl; entities = λ k d l. refl; workplane = refl };
  names = λ k d l h. record { points = λ k d l. refl; normal = refl; distance = refl; workplane = refl; numbers = numbers-read _ };
}

pub same_lookups_law : SameLookupsLaw
same_lookups_law s g es cs n m v a = lookups_law s everything g es cs n m (all-held g es cs) (record { values = λ h k e. v h; acts = λ h k. a h })
