-- The works of groups on small models, at the scale 36.
use Rattle.std.specs.Prelude.{◌≡◌, refl, ℕ, ◌*◌, ◌^◌, nat_lt, ℤ, pos, neg_ℤ, List, [], ◌∷◌, map, Bool, true, false, Some, None, Ok}
use Rattle.std.specs.List.{filter, flat_map}
use Rattle.sk_types.specs.declared.handle.EntityId.{EntityId}
use Rattle.sk_types.specs.declared.handle.ParamId.{ParamId}
use Rattle.sk_types.specs.declared.entity.Act.{Act}
use Rattle.sk_types.specs.declared.entity.Entity.{Entity}
use Rattle.sk_types.specs.declared.entity.Numbering.TheVariants.{Nothing}
use Rattle.sk_types.specs.declared.entity.Numbers.{Numbers}
use Rattle.sk_types.specs.declared.entity.ParamValue.{ParamValue}
use Rattle.sk_types.specs.declared.group.Group.{Group}
use Rattle.sk_types.specs.declared.group.GroupKind.{GroupKind}
use Rattle.sk_types.specs.declared.group.GroupKind.TheVariants.{Space, Plane, Extrude, Translate, Linked}
use Rattle.sk_types.specs.declared.request.Request.{Request}
use Rattle.sk_entity.specs.Requests.{request_entities}
use Rattle.sk_copy.specs.Order.{in_order}
use Rattle.sk_geom.specs.declared.fault.FrameFault.TheVariants.{Degenerate}
use Rattle.sk_expr.specs.Readings.{floor_root}
use Rattle.sk_expr.specs.SpanValue.{span_value}
use Rattle.sk_geom.specs.EntityTrees.{frame, normal_named, space_normal, normal_tree, point_tree, space_point}
use Rattle.sk_geom.specs.LineFrame.{line_frame, swapped_frame, turned_frame, quaternion_of, place_of_greatest, sum_at, quaternion_with, quaternion_parts, arranged, sum_over, difference_over, over_root, picked, first_greatest, later_greatest, last_greatest, first_sum, second_sum, third_sum, fourth_sum, turned, rounded_cross, rounded_minor, unit_of, divided, rounded_length}
use Rattle.sk_geom.specs.Quaternions.{quaternion_axes}
use Rattle.sk_geom.specs.Sources.{act_numbers, four_params, three_params, param_tree}
use Rattle.sk_system.specs.ByHandle.{frame_by}
use Rattle.sk_system.specs.GroupSystem.{group_system, acts_at}
use Rattle.sk_system.specs.OwnRows.{own_numbers}
use Rattle.sk_solve.specs.declared.report.Listed.{Listed}
use Rattle.sk_solve.specs.declared.result.Verdict.TheVariants.{Unsolved}
use Rattle.sk_regen.specs.Works.{Works}
use Rattle.sk_regen.specs.Regeneration.{point_of, fixed_of, placed, left_over}
use Rattle.sk_regen.specs.GroupWorks.{start_of, frame_of, bad_frame_of, framed, acts_of, first_numbers, references}
use Rattle.sk_regen.specs.Likeness.{owner, outside, group_reads}

abbrev at : ℕ → EntityId
at h = record { 0 = h }

abbrev one : ℤ
one = pos (2 ^ 36)

abbrev request : ℕ → ℕ → ℕ → ℕ → Request
request id kind group workplane = record { id = record { 0 = id }; kind = kind; group = record { 0 = group }; workplane = at workplane; construction = false; extra = 0 }

-- group n, which names these workplanes or lines
abbrev group : ℕ → GroupKind → Bool → ℕ → ℕ → Group 36
group n kind by_lines b c = record {
  id = record { 0 = n };
  kind = kind;
  order = pos n;
  active = at 0;
  source = record { 0 = 2 };
  copies = 1;
  two_sided = false;
  skip_first = false;
  by_lines = by_lines;
  quaternion = pos 0 ∷ pos 0 ∷ pos 0 ∷ pos 0 ∷ [];
  origin = at 0;
  entity_b = at b;
  entity_c = at c;
  swap_uv = false;
  negate_u = false;
  negate_v = false;
  scale = one;
  remap = [];
  part = [];
}

-- ---- the references alone, with a linked part of a lower handle than a group before it in the list

abbrev requests : List Request
requests = request 1 100 1 0 ∷ request 2 100 1 0 ∷ request 3 100 1 0 ∷ []

abbrev groups : List (Group 36)
groups = group 1 Space false 0 0 ∷ group 3 Extrude false 131072 0 ∷ group 2 Linked false 0 0 ∷ []

abbrev entities : List (Entity 36)
entities = flat_map (request_entities 36) requests

abbrev numbers : Numbers 36
numbers = first_numbers groups entities []

-- the normals of the three planes stand as they do, the origins at 0
pub normals : map {B = ℕ × List ℤ} (λ (a : Act 36). (a.entity.0, a.values)) numbers.acts ≡
    (65537, pos 0 ∷ pos 0 ∷ pos 0 ∷ pos 0 ∷ [])
    ∷ (65568, one ∷ pos 0 ∷ pos 0 ∷ pos 0 ∷ [])
    ∷ (131073, pos 0 ∷ pos 0 ∷ pos 0 ∷ pos 0 ∷ [])
    ∷ (131104, pos (2 ^ 35) ∷ pos (2 ^ 35) ∷ pos (2 ^ 35) ∷ pos (2 ^ 35) ∷ [])
    ∷ (196609, pos 0 ∷ pos 0 ∷ pos 0 ∷ pos 0 ∷ [])
    ∷ (196640, pos (2 ^ 35) ∷ neg_ℤ (pos (2 ^ 35)) ∷ neg_ℤ (pos (2 ^ 35)) ∷ neg_ℤ (pos (2 ^ 35)) ∷ [])
    ∷ []
unfolding request_entities first_numbers references in_order acts_of acts_at group_system own_numbers normal_tree point_tree space_point space_normal act_numbers three_params four_params param_tree span_value
normals = refl

-- parameters rise: those of the requests, then of group 2 and of group 3, which stand at 0
pub params : map (λ (p : ParamValue 36). p.id.0) (filter (λ (p : ParamValue 36). nat_lt 196643 p.id.0) numbers.params) ≡
    2147614720 ∷ 2147614721 ∷ 2147614722 ∷ 2147614723 ∷ 2147614724 ∷ 2147614725 ∷ 2147614726 ∷ 2147680256 ∷ 2147680257 ∷ 2147680258 ∷ []
unfolding request_entities first_numbers references in_order
params = refl

-- ---- where parameters start

-- an extrusion along the normal of YZ, which is x; a linked part isn't turned; a translation doesn't move
abbrev starts : Group 36 → List ℕ → List ℤ
starts g ps = map (λ (h : ℕ). start_of requests entities numbers g (record { 0 = h })) ps

pub extruded : starts (group 3 Extrude false 131072 0) (2147680256 ∷ 2147680257 ∷ 2147680258 ∷ []) ≡ one ∷ pos 0 ∷ pos 0 ∷ []
unfolding request_entities first_numbers references in_order start_of frame_by frame quaternion_axes normal_named acts_of acts_at group_system own_numbers normal_tree point_tree space_point space_normal act_numbers three_params four_params param_tree span_value
extruded = refl

pub straight : starts (group 3 Extrude false 0 0) (2147680256 ∷ 2147680257 ∷ 2147680258 ∷ []) ≡ pos 0 ∷ pos 0 ∷ pos 0 ∷ []
unfolding start_of
straight = refl

pub translated : starts (group 3 Translate false 131072 0) (2147680256 ∷ 2147680257 ∷ 2147680258 ∷ []) ≡ pos 0 ∷ pos 0 ∷ pos 0 ∷ []
unfolding start_of
translated = refl

pub linked : starts (group 2 Linked false 0 0) (2147614720 ∷ 2147614722 ∷ 2147614723 ∷ 2147614724 ∷ []) ≡ pos 0 ∷ pos 0 ∷ one ∷ pos 0 ∷ []
unfolding start_of
linked = refl

pub drawn : starts (group 1 Space false 0 0) (65552 ∷ 65568 ∷ 65569 ∷ []) ≡ pos 0 ∷ one ∷ pos 0 ∷ []
unfolding start_of
drawn = refl

-- ---- frames by line segments

abbrev line : ℕ → ℕ → ℕ → Entity 36
line id p q = record { id = at id; kind = 11000; group = record { 0 = 2 }; construction = false; points = at p ∷ at q ∷ []; normal = at 0; distance = at 0; workplane = at 0; numbers = Nothing }

abbrev stands : ℕ → ℤ → ℤ → ℤ → Act 36
stands e x y z = record { entity = at e; values = x ∷ y ∷ z ∷ pos 0 ∷ [] }

abbrev lines : List (Entity 36)
lines = line 262144 262145 262146 ∷ line 327680 327681 327682 ∷ line 393216 393217 393217 ∷ []

-- the first line goes from (0, 2, 0) to (0, 0, 0), the second from (-3, 0, 0): its vector is the first point less the second
abbrev standing : Numbers 36
standing = record {
  params = [];
  acts = stands 262145 (pos 0) (pos (2 * 2 ^ 36)) (pos 0) ∷ stands 262146 (pos 0) (pos 0) (pos 0) ∷ stands 327681 (neg_ℤ (pos (3 * 2 ^ 36))) (pos 0) (pos 0)
      ∷ stands 327682 (pos 0) (pos 0) (pos 0) ∷ stands 2147745793 (pos 0) (pos 0) (pos 0) ∷ [];
}

-- the axes are y and -x, so that is a quarter turn about z: its half, to the nearest unit
pub quarter : frame_of lines standing.acts (group 4 Plane true 262144 327680) ≡ Ok (pos 48592008000 ∷ pos 0 ∷ pos 0 ∷ pos 48592008000 ∷ [])
unfolding frame_of line_frame swapped_frame turned_frame quaternion_of place_of_greatest sum_at quaternion_with quaternion_parts arranged sum_over difference_over over_root picked first_greatest later_greatest last_greatest first_sum second_sum third_sum fourth_sum turned rounded_cross rounded_minor unit_of divided rounded_length floor_root
quarter = refl

-- a line without a length
pub pointed : bad_frame_of lines standing.acts (group 4 Plane true 393216 327680) ≡ Some Degenerate
unfolding frame_of line_frame unit_of rounded_length floor_root
pointed = refl

-- no frame is asked
pub unasked : bad_frame_of lines standing.acts (group 4 Plane false 393216 327680) ≡ None
unasked = refl

-- the normal of a bad frame isn't turned; other numbers stay
pub unturned : framed lines standing.acts (group 4 Plane true 393216 327680) ≡
    stands 262145 (pos 0) (pos (2 * 2 ^ 36)) (pos 0) ∷ stands 262146 (pos 0) (pos 0) (pos 0) ∷ stands 327681 (neg_ℤ (pos (3 * 2 ^ 36))) (pos 0) (pos 0)
    ∷ stands 327682 (pos 0) (pos 0) (pos 0) ∷ record { entity = at 2147745793; values = one ∷ pos 0 ∷ pos 0 ∷ pos 0 ∷ [] } ∷ []
unfolding frame_of line_frame unit_of rounded_length floor_root
unturned = refl

-- ---- parameters

abbrev value : ℕ → ℤ → ParamValue 36
value h z = record { id = record { 0 = h }; value = z }

abbrev is_low : ParamId → Bool
is_low p = nat_lt p.0 3

-- the unknowns are moved, the others stay where they stand
pub moves : placed is_low (value 1 (pos 5) ∷ value 4 (pos 6) ∷ value 2 (pos 7) ∷ []) (pos 8 ∷ pos 9 ∷ []) ≡ value 1 (pos 8) ∷ value 4 (pos 6) ∷ value 2 (pos 9) ∷ []
moves = refl

pub unknown_values : point_of is_low (value 1 (pos 5) ∷ value 4 (pos 6) ∷ value 2 (pos 7) ∷ []) ≡ pos 5 ∷ pos 7 ∷ []
unknown_values = refl

pub fixed_values : fixed_of is_low (value 1 (pos 5) ∷ value 4 (pos 6) ∷ value 2 (pos 7) ∷ []) ≡ value 4 (pos 6) ∷ []
fixed_values = refl

-- ---- before and after an edit

-- request 5 of group 2 goes, request 6 of group 3 comes, and request 8 goes from group 2 to group 3
abbrev old_requests : List Request
old_requests = request 4 200 2 0 ∷ request 5 200 2 0 ∷ request 8 200 2 0 ∷ []

abbrev new_requests : List Request
new_requests = request 4 200 2 0 ∷ request 6 200 3 0 ∷ request 8 200 3 0 ∷ []

-- items 1 of requests 4 to 8 and of group 9, and the handle of nothing: request 7 is in neither model
pub owned : map (λ h. (owner old_requests new_requests h).0) (262145 ∷ 327681 ∷ 393217 ∷ 458753 ∷ 524289 ∷ 2148073473 ∷ 0 ∷ []) ≡ 2 ∷ 2 ∷ 3 ∷ 0 ∷ 3 ∷ 9 ∷ 0 ∷ []
owned = refl

-- what isn't of group 3, in order
pub outside_three : map (λ (r : Request). r.id.0) (outside (record { 0 = 3 } ∷ []) (λ (r : Request). r.group) new_requests) ≡ 4 ∷ []
outside_three = refl

abbrev reads : Group 36 → List ℕ
reads g = map (λ (e : EntityId). e.0) (group_reads g)

-- the workplane of an extrusion and of a translation, and of a drawing in a workplane the lines of its frame alone
pub what_groups_read : map reads (group 4 Space false 7 8 ∷ group 4 Plane false 7 8 ∷ group 4 Plane true 7 8 ∷ group 4 Extrude false 7 8 ∷ group 4 Translate false 7 8 ∷ group 4 Linked false 7 8 ∷ []) ≡
    [] ∷ [] ∷ (7 ∷ 8 ∷ []) ∷ (7 ∷ []) ∷ (7 ∷ []) ∷ [] ∷ []
what_groups_read = refl

-- ---- a group that isn't listed

abbrev unsolved : ℕ → Listed 36
unsolved g = record { group = record { 0 = g }; params = []; result = record { verdict = Unsolved; point = pos 5 ∷ []; certificate = None } }

-- whatever it works on, its member of the earlier report stays as it was handed in: unsolved, at its point
pub handed_in : (w : Works 36) (n : Numbers 36) → (left_over w [] (record { 0 = 2 } ∷ []) (unsolved 2 ∷ unsolved 3 ∷ unsolved 4 ∷ []) n (record { 0 = 3 })).members ≡ unsolved 3 ∷ []
handed_in w n = refl
