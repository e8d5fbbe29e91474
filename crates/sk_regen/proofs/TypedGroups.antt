-- What typing leaves of groups: group 1 is a drawing in space and has no constraint, and a frame by lines is that of a drawing in a workplane.
use Rattle.std.proofs.Common.{◌≡◌, inl, inr, ℕ, List, [], ◌∷◌, map, Bool, true, false, nat_eq, Option, Some, None, Ok, refl, sym, ◌∙◌, subst}
use Rattle.std.specs.Prelude.{◌==◌, ◌&&◌, ℤ, not}
use Rattle.std.specs.List.{AllByRecursion, IsDistinct, list_any}
use Rattle.std.specs.Option.{option_map, option_or}
use Rattle.std.proofs.lemmas.Bool.{cases_Bool, eq-eqb, eqb-true}
use Rattle.std.proofs.lemmas.Map.Keys.{IsDistinct-head, IsDistinct-tail}
use Rattle.sk_types.specs.declared.constraint.Constraint.{Constraint}
use Rattle.sk_types.specs.declared.group.Group.{Group}
use Rattle.sk_types.specs.declared.group.GroupKind.{GroupKind}
use Rattle.sk_types.specs.declared.group.GroupKind.TheVariants.{Space, Plane, Extrude, Translate, Linked}
use Rattle.sk_types.specs.declared.request.Request.{Request}
use Rattle.sk_records.specs.Blocks.{Block, records}
use Rattle.sk_records.specs.Rows.{Row}
use Rattle.sk_records.specs.declared.kinds.Kind.TheVariants as kind
use Rattle.sk_records.specs.MapRows.{entry_lines}
use Rattle.sk_model.specs.declared.faults.ModelFault.{ModelFault}
use Rattle.sk_model.specs.declared.faults.ModelFault.TheVariants.{LeftOut, NoSuch}
use Rattle.sk_model.specs.declared.faults.Reason.TheVariants as reason
use Rattle.sk_model.specs.Chain.{all_of}
use Rattle.sk_model.specs.Groups.{accepted_kind, copies_of, group_keys, group_of, is_by_lines, part_name, part_of}
use Rattle.sk_model.specs.Remap.{all_numbers, remap_of}
use Rattle.sk_model.specs.Typed.{Typed, fault_if, group_handle, is_first_group, is_space_kind, missing_of, stray_constraint, stray_request, typed, whole_fault}
use Rattle.sk_model.specs.TypingLaws.{typing_law}
use Rattle.sk_model.specs.TypingLaws.Chains.{ok_inj, then_parts}
use Rattle.sk_model.specs.TypingLaws.TypedParts.{parts_of}

-- ---- frames by lines

abbrev pub LinesInPlane : {s : ℕ} → Group s → Type 0
LinesInPlane g = g.by_lines ≡ true → g.kind ≡ Plane

by_kind : (k : GroupKind) (n : ℤ) → is_by_lines k n ≡ true → k ≡ Plane
by_kind Space n e = cc e
by_kind Plane n e = refl
by_kind Extrude n e = cc e
by_kind Translate n e = cc e
by_kind Linked n e = cc e

one_group : (s : ℕ) (seen : List ℕ) (rows : List Row) (g : Group s) → group_of s seen rows ≡ Ok g → LinesInPlane g
unfolding group_of
one_group s seen rows g e =
    then_parts (group_keys s rows) _ g e (λ k e0 e.
    then_parts (all_numbers (entry_lines rows)) _ g e (λ numbers e1 e.
    then_parts (accepted_kind seen k) _ g e (λ kind e2 e.
    then_parts (copies_of s k.id kind k.value) _ g e (λ copies e3 e.
    then_parts (remap_of k.id numbers) _ g e (λ remap e4 e.
    then_parts (part_of k.id kind (part_name rows)) _ g e (λ part e5 e.
    subst (LinesInPlane {s = s}) (ok_inj e) (by_kind kind k.subtype)))))))

all_groups_of : (s : ℕ) (seen : List ℕ) (rs : List (List Row)) (gs : List (Group s)) → all_of group_handle (group_of s) seen rs ≡ Ok gs → AllByRecursion (LinesInPlane {s = s}) gs
all_groups_of s seen [] gs e = subst (AllByRecursion (LinesInPlane {s = s})) (ok_inj e) tt
all_groups_of s seen (r ∷ rs) gs e =
    then_parts (group_of s seen r) _ gs e (λ g is e.
    then_parts (all_of group_handle (group_of s) _ rs) _ gs e (λ more rest e.
    subst (AllByRecursion (LinesInPlane {s = s})) (ok_inj e) (one_group s seen r g is, all_groups_of s _ rs more rest)))

-- ---- group 1

pub or_none : {T : Type 0} (a b : Option T) → option_or a b ≡ None → (a ≡ None) × (b ≡ None)
or_none None b e = (refl, e)
or_none (Some x) b e = cc e

pub no_fault : (t : Bool) (f : ModelFault) → fault_if t f ≡ None → t ≡ false
no_fault true f e = cc e
no_fault false f e = refl

not_false : (t : Bool) → not t ≡ false → t ≡ true
not_false true e = refl
not_false false e = cc e

both_true : (a b : Bool) → (a && b) ≡ true → (a ≡ true) × (b ≡ true)
both_true true b e = (refl, e)
both_true false b e = cc e

is_space : (k : GroupKind) → is_space_kind k ≡ true → k ≡ Space
is_space Space e = refl
is_space Plane e = cc e
is_space Extrude e = cc e
is_space Translate e = cc e
is_space Linked e = cc e

abbrev pub FirstInSpace : {s : ℕ} → Group s → Type 0
FirstInSpace g = g.id.0 ≡ 1 → g.kind ≡ Space

abbrev pub NotInFirst : {s : ℕ} → Constraint s → Type 0
NotInFirst c = (c.group.0 == 1) ≡ false

module _ {s : ℕ} where
  none_first : (gs : List (Group s)) → AllByRecursion (λ n. nat_eq 1 n ≡ false) (map group_handle gs) → list_any is_first_group gs ≡ false
  none_first [] d = refl
  none_first (g ∷ gs) d = rw (turned g.id.0 d.0) (none_first gs d.1)
    where
      turned : (n : ℕ) → nat_eq 1 n ≡ false → nat_eq n 1 ≡ false
      turned n e = elim (cases_Bool (nat_eq n 1)) [
        | inl t ↦ (let same : n ≡ 1 = eqb-true n 1 t in let no : true ≡ false = sym (eq-eqb 1 n (sym same)) ∙ e in cc no)
        | inr f ↦ f
      ]

  -- where group 1 comes first, no other group has its number
  others : (gs : List (Group s)) → AllByRecursion (λ n. nat_eq 1 n ≡ false) (map group_handle gs) → AllByRecursion (FirstInSpace {s = s}) gs
  others [] d = tt
  others (g ∷ gs) d = ((λ e. (let no : true ≡ false = sym (eq-eqb 1 g.id.0 (sym e)) ∙ d.0 in cc no)), others gs d.1)

  in_space : (gs : List (Group s)) → IsDistinct nat_eq (map group_handle gs) → list_any is_first_group gs ≡ true → AllByRecursion (FirstInSpace {s = s}) gs
  in_space [] d e = tt
  in_space (g ∷ gs) d e =
      let rest = IsDistinct-tail nat_eq g.id.0 (map group_handle gs) d in
      let apart = IsDistinct-head nat_eq g.id.0 (map group_handle gs) d in
      elim (cases_Bool (is_first_group g)) [
        | inl t ↦ (let both = both_true (g.id.0 == 1) (is_space_kind g.kind) t in let one : g.id.0 ≡ 1 = eqb-true g.id.0 1 both.0 in
            ((λ e. is_space g.kind both.1), others gs (subst (λ (n : ℕ). AllByRecursion (λ k. nat_eq n k ≡ false) (map group_handle gs)) one apart)))
        | inr f ↦ (let later : list_any is_first_group gs ≡ true = rw f at e in
            ((λ one. (let no : true ≡ false = sym later ∙ none_first gs (subst (λ (n : ℕ). AllByRecursion (λ k. nat_eq n k ≡ false) (map group_handle gs)) one apart) in cc no)), in_space gs rest later))
      ]

  no_stray : (cs : List (Constraint s)) → stray_constraint cs ≡ None → AllByRecursion (NotInFirst {s = s}) cs
  no_stray [] e = tt
  no_stray (c ∷ cs) e = elim (cases_Bool (c.group.0 == 1)) [
    | inl t ↦ (let no : Some (LeftOut c.id.0 reason.References) ≡ None = rw t at e in cc no)
    | inr f ↦ (f, no_stray cs (rw f at e))
  ]

  first_parts : (groups : List (Group s)) (requests : List Request) (constraints : List (Constraint s)) → whole_fault s groups requests constraints ≡ None → (list_any is_first_group groups ≡ true) × (stray_constraint constraints ≡ None)
  unfolding whole_fault
  first_parts groups requests constraints e =
      let second = or_none (fault_if (not (list_any is_first_group groups)) (NoSuch 1 1)) _ e in
      let third = or_none (option_map (NoSuch 1) (missing_of (1 ∷ 2 ∷ 3 ∷ []) requests)) _ second.1 in
      let fourth = or_none (stray_request requests) _ third.1 in
      let fifth = or_none (stray_constraint constraints) _ fourth.1 in
      (not_false (list_any is_first_group groups) (no_fault (not (list_any is_first_group groups)) (NoSuch 1 1) second.0), fifth.0)

-- All of it, of a typed model.
pub record TypedGroups {s : ℕ} (m : Typed s) : Type 0 where
  pub lines : AllByRecursion (LinesInPlane {s = s}) m.groups
  pub first : AllByRecursion (FirstInSpace {s = s}) m.groups
  pub constraints : AllByRecursion (NotInFirst {s = s}) m.constraints
  pub there : list_any is_first_group m.groups ≡ true

pub typed_groups : (s : ℕ) (bs : List Block) (m : Typed s) → typed s bs ≡ Ok m → TypedGroups m
typed_groups s bs m e =
    let is = parts_of s bs m e in
    let whole = first_parts m.groups m.requests m.constraints is.sound in
    record {
      lines = all_groups_of s [] (records kind.Group bs) m.groups is.groups;
      first = in_space m.groups (typing_law.leaves s bs m e).groups_differ whole.0;
      constraints = no_stray m.constraints whole.1;
      there = whole.0;
    }
