-- What is reached from a changed group: what is listed for it, and for what is reached.
use Rattle.std.proofs.Common.{◌≡◌, ◌⊎◌, inl, inr, ℕ, zero, suc, ◌+◌, ◌<◌, ◌≤◌, List, [], ◌∷◌, ◌++◌, length, get_or, take, Bool, true, false, nat_eq, slice_get, filter, Option, Some, None, is_some, refl, sym, ap, ◌∙◌, subst, true≢false, append_assoc, append-nil, arith}
use Rattle.std.specs.Prelude.{◌&&◌, ◌||◌, if◌then◌else◌}
use Rattle.std.specs.List.{IsDistinct, list_any}
use Rattle.std.specs.Cmp.{IsEquivalence}
use Rattle.std.proofs.lemmas.Cmp.{nat_eq_equiv}
use Rattle.std.proofs.lemmas.Option.{slice_get_within}
use Rattle.std.proofs.lemmas.Bool.{cases_lt}
use Rattle.std.proofs.lemmas.List.{take_more}
use Rattle.std.proofs.lemmas.List.Folds.{list_any-append}
use Rattle.std.proofs.lemmas.Map.Made.{length-le_from_is_member}
use Rattle.std.proofs.lemmas.Map.Views.{any-filter_same}
use Rattle.sk_types.specs.declared.handle.GroupId.{GroupId}
use Rattle.sk_types.specs.declared.entity.Entity.{Entity}
use Rattle.sk_model.specs.Typed.{Typed}
use Rattle.sk_chain.specs.Lookups.{place_in}
use Rattle.sk_chain.specs.Dependence.{IsDirtySet, depends, is_listed, leans, may_depend}
use Rattle.sk_chain.specs.Leaning.{IsReached, IsTable, Reached, Reaches, ReachesFrom, is_next, is_noted, listed_at, listed_for}
use Rattle.sk_chain.proofs.Distinct.{two}
use Rattle.sk_chain.proofs.Noting.{or_false, place_listed, same_group}

-- ---- truth values

both_true : (x y : Bool) → (x && y) ≡ true → (x ≡ true) × (y ≡ true)
both_true true y e = (refl, e)
both_true false y e = absurd (true≢false (sym e))

both_and : (x y : Bool) → x ≡ true → y ≡ true → (x && y) ≡ true
both_and x y e f = rw (e, f) refl

one_true : (x y : Bool) → (x || y) ≡ true → (x ≡ true) ⊎ (y ≡ true)
one_true true y e = inl refl
one_true false y e = inr e

left_or : (x y : Bool) → x ≡ true → (x || y) ≡ true
left_or x y e = rw e refl

right_or : (x y : Bool) → y ≡ true → (x || y) ≡ true
right_or true y e = refl
right_or false y e = e

-- ---- listed groups

listed_append : (xs ys : List GroupId) (g : GroupId) → is_listed (xs ++ ys) g ≡ (is_listed xs g || is_listed ys g)
listed_append xs ys g = list_any-append (λ (k : GroupId). nat_eq g.0 k.0) xs ys

listed_before : (xs ys : List GroupId) (g : GroupId) → is_listed xs g ≡ true → is_listed (xs ++ ys) g ≡ true
listed_before xs ys g e = listed_append xs ys g ∙ left_or (is_listed xs g) (is_listed ys g) e

listed_behind : (xs ys : List GroupId) (g : GroupId) → is_listed ys g ≡ true → is_listed (xs ++ ys) g ≡ true
listed_behind xs ys g e = listed_append xs ys g ∙ right_or (is_listed xs g) (is_listed ys g) e

listed_split : (xs ys : List GroupId) (g : GroupId) → is_listed (xs ++ ys) g ≡ true → (is_listed xs g ≡ true) ⊎ (is_listed ys g ≡ true)
listed_split xs ys g e = one_true (is_listed xs g) (is_listed ys g) (sym (listed_append xs ys g) ∙ e)

listed_one : (x g : GroupId) → is_listed (x ∷ []) g ≡ true → g ≡ x
listed_one x g e = same_group g x (sym (or_false (nat_eq g.0 x.0)) ∙ e)

one_listed : (x : GroupId) → is_listed (x ∷ []) x ≡ true
one_listed x = rw (nat_eq_equiv.refl x.0) refl

-- ---- one group more

pub reaches_none : (order found : List GroupId) (h : GroupId) (old : List GroupId) → ((g : GroupId) → is_listed order g ≡ true → may_depend g h ≡ true → is_listed found g ≡ true → is_listed old g ≡ true) → Reaches order found h old old
reaches_none order found h old e = record { grown = ([], sym (append-nil old)); all = e; only = λ g there. inl there }

pub reaches_absent : (order : List GroupId) (x h : GroupId) (old : List GroupId) → (may_depend x h ≡ false) ⊎ (is_some (place_in x.0 order) ≡ false) → Reaches order (x ∷ []) h old old
reaches_absent order x h old (inl n) = reaches_none order (x ∷ []) h old (λ g there may found. absurd (true≢false (sym (subst (λ (k : GroupId). may_depend k h ≡ true) (listed_one x g found) may) ∙ n)))
reaches_absent order x h old (inr n) = reaches_none order (x ∷ []) h old (λ g there may found. absurd (true≢false (sym (place_listed x.0 order ∙ subst (λ (k : GroupId). is_listed order k ≡ true) (listed_one x g found) there) ∙ n)))

pub reaches_one : (order : List GroupId) (x h : GroupId) (old new : List GroupId) → may_depend x h ≡ true → is_some (place_in x.0 order) ≡ true → new ≡ (if list_any (λ (k : GroupId). nat_eq x.0 k.0) old then old else old ++ x ∷ []) → Reaches order (x ∷ []) h old new
reaches_one order x h old new may some e =
    let placed : is_listed order x ≡ true = sym (place_listed x.0 order) ∙ some in
    elim (two (is_listed old x)) [
      | inl t ↦ (
          let same : new ≡ old = rw t at e in
          rw same (reaches_none order (x ∷ []) h old (λ g there m found. subst (λ (k : GroupId). is_listed old k ≡ true) (sym (listed_one x g found)) t)))
      | inr n ↦ (
          let more : new ≡ old ++ x ∷ [] = rw n at e in
          rw more (record {
            grown = (x ∷ [], refl);
            all = λ g there m found. listed_behind old (x ∷ []) g found;
            only = λ g there. elim (listed_split old (x ∷ []) g there) [
              | inl a ↦ inl a
              | inr b ↦ inr (subst (λ (k : GroupId). is_listed order k ≡ true) (sym (listed_one x g b)) placed, (subst (λ (k : GroupId). may_depend k h ≡ true) (sym (listed_one x g b)) may, b))
            ];
          }))
    ]

pub reaches_both : (order xs ys : List GroupId) (h : GroupId) (a b c : List GroupId) → Reaches order xs h a b → Reaches order ys h b c → Reaches order (xs ++ ys) h a c
reaches_both order xs ys h a b c m n =
    let kept : (g : GroupId) → is_listed b g ≡ true → is_listed c g ≡ true = λ g e. subst (λ (k : List GroupId). is_listed k g ≡ true) (sym n.grown.1) (listed_before b n.grown.0 g e) in
    record {
      grown = (m.grown.0 ++ n.grown.0, n.grown.1 ∙ (ap (λ (k : List GroupId). k ++ n.grown.0) m.grown.1 ∙ append_assoc a m.grown.0 n.grown.0));
      all = λ g there may found. elim (listed_split xs ys g found) [
        | inl e ↦ kept g (m.all g there may e)
        | inr e ↦ n.all g there may e
      ];
      only = λ g there. elim (n.only g there) [
        | inl e ↦ (elim (m.only g e) [
          | inl f ↦ inl f
          | inr f ↦ inr (f.0, (f.1.0, listed_before xs ys g f.1.1))
        ])
        | inr f ↦ inr (f.0, (f.1.0, listed_behind xs ys g f.1.1))
      ];
    }

pub reaches_start : (order : List GroupId) (h : GroupId) (old : List GroupId) → Reaches order [] h old old
reaches_start order h old = reaches_none order [] h old (λ g there may found. absurd (true≢false (sym found)))

pub reaches_more : (order xs : List GroupId) (i : ℕ) (d h : GroupId) (a b c : List GroupId) → i < length xs → Reaches order (take i xs) h a b → Reaches order (get_or xs i d ∷ []) h b c → Reaches order (take (i + 1) xs) h a c
reaches_more order xs i d h a b c l m n = rw (take_more xs i d l) (reaches_both order (take i xs) (get_or xs i d ∷ []) h a b c m n)

-- ---- one group followed

slice_before : (xs ys : List GroupId) (j : ℕ) (h : GroupId) → j < length xs → slice_get (xs ++ ys) j ≡ Some h → slice_get xs j ≡ Some h
slice_before [] ys j h l e = absurd (omega arith)
slice_before (x ∷ xs) ys zero h l e = e
slice_before (x ∷ xs) ys (suc j) h l e = slice_before xs ys j h (omega arith) e

slice_listed : (xs : List GroupId) (j : ℕ) (h : GroupId) → slice_get xs j ≡ Some h → is_listed xs h ≡ true
slice_listed [] j h e = absurd cc
slice_listed (x ∷ xs) zero h e = let f : x ≡ h = grind (arith, e) in rw f (left_or (nat_eq h.0 h.0) (is_listed xs h) (nat_eq_equiv.refl h.0))
slice_listed (x ∷ xs) (suc j) h e = right_or (nat_eq h.0 x.0) (is_listed xs h) (slice_listed xs j h e)

listed_slice : (xs : List GroupId) (h : GroupId) → is_listed xs h ≡ true → (j : ℕ) × ((j < length xs) × (slice_get xs j ≡ Some h))
listed_slice [] h e = absurd (true≢false (sym e))
listed_slice (x ∷ xs) h e = elim (two (nat_eq h.0 x.0)) [
  | inl t ↦ (0, (omega arith, ap Some (sym (same_group h x t))))
  | inr n ↦ (let r = listed_slice xs h (rw n at e) in (suc r.0, (omega (arith, r.1.0), r.1.1)))
]

pub reached_first : (order : List GroupId) (table : List (List GroupId)) (changed : GroupId) (none keys : List GroupId) → is_listed order changed ≡ true → none ≡ [] → keys ≡ (if list_any (λ (k : GroupId). nat_eq changed.0 k.0) none then none else none ++ changed ∷ []) → Reached order table changed 0 keys
reached_first order table changed none keys there empty e = rw (e, empty) (record {
  has = one_listed changed;
  within = λ g l. subst (λ (k : GroupId). is_listed order k ≡ true) (sym (listed_one changed g l)) there;
  closed = λ j h l. absurd (omega arith);
  least = λ hs has closed g l. subst (λ (k : GroupId). is_listed hs k ≡ true) (sym (listed_one changed g l)) has;
})

followed : (order : List GroupId) (table : List (List GroupId)) (changed : GroupId) (i : ℕ) (old new : List GroupId) (x : GroupId) → slice_get old i ≡ Some x → Reached order table changed i old → Reaches order (listed_for order table x) x old new → Reached order table changed (i + 1) new
followed order table changed i old new x at r s =
    let kept : (g : GroupId) → is_listed old g ≡ true → is_listed new g ≡ true = λ g e. subst (λ (k : List GroupId). is_listed k g ≡ true) (sym s.grown.1) (listed_before old s.grown.0 g e) in
    let here : i < length old = slice_get_within old i x at in
    record {
      has = kept changed r.has;
      within = λ g l. elim (s.only g l) [ inl e ↦ r.within g e | inr f ↦ f.0 ];
      closed = λ j h l got g there next.
          let old_got : slice_get old j ≡ Some h = slice_before old s.grown.0 j h (omega (arith, here, l)) (subst (λ (k : List GroupId). slice_get k j ≡ Some h) s.grown.1 got) in
          elim (cases_lt j i) [
            | inl below ↦ kept g (r.closed j h below old_got g there next)
            | inr past ↦ (
                let same : j ≡ i = omega (arith, l, past) in
                let e : Some x ≡ Some h = sym at ∙ (ap (slice_get old) (sym same) ∙ old_got) in
                let f : x ≡ h = grind (arith, e) in
                let p = both_true (may_depend g h) (is_noted order table g h) next in
                s.all g there (subst (λ (k : GroupId). may_depend g k ≡ true) (sym f) p.0) (subst (λ (k : GroupId). is_noted order table g k ≡ true) (sym f) p.1))
          ];
      least = λ hs has closed g l. elim (s.only g l) [
        | inl e ↦ r.least hs has closed g e
        | inr f ↦ closed g x f.0 (both_and (may_depend g x) (is_noted order table g x) f.1.0 f.1.1) (r.least hs has closed x (slice_listed old i x at))
      ];
    }

unfollowed : (order : List GroupId) (table : List (List GroupId)) (changed : GroupId) (i : ℕ) (old : List GroupId) → slice_get old i ≡ None → Reached order table changed i old → Reached order table changed (i + 1) old
unfollowed order table changed i old at r = record {
  has = r.has;
  within = r.within;
  closed = λ j h l got g there next. elim (cases_lt j i) [
    | inl below ↦ r.closed j h below got g there next
    | inr past ↦ (let same : j ≡ i = omega (arith, l, past) in let e : None ≡ Some h = sym at ∙ (ap (slice_get old) (sym same) ∙ got) in absurd cc)
  ];
  least = r.least;
}

pub reached_more : (order : List GroupId) (table : List (List GroupId)) (changed : GroupId) (i : ℕ) (old new : List GroupId) (o : Option GroupId) → slice_get old i ≡ o → Reached order table changed i old → ReachesFrom order table o old new → Reached order table changed (i + 1) new
reached_more order table changed i old new None at r s = rw s (unfollowed order table changed i old at r)
reached_more order table changed i old new (Some x) at r s = followed order table changed i old new x at r s

-- ---- all are followed

group_equiv : IsEquivalence (λ (g h : GroupId). nat_eq g.0 h.0)
group_equiv = record {
  refl = λ g. nat_eq_equiv.refl g.0;
  symm = λ g h. nat_eq_equiv.symm g.0 h.0;
  congr = λ g h k. nat_eq_equiv.congr g.0 h.0 k.0;
}

pub reached_few : (order : List GroupId) (table : List (List GroupId)) (changed : GroupId) (i : ℕ) (keys : List GroupId) → IsDistinct (λ (g h : GroupId). nat_eq g.0 h.0) keys → Reached order table changed i keys → length keys ≤ length order
reached_few order table changed i keys d r = length-le_from_is_member group_equiv keys order d r.within

pub reached_all : (order : List GroupId) (table : List (List GroupId)) (changed : GroupId) (i : ℕ) (keys : List GroupId) → length keys ≤ i → Reached order table changed i keys → IsReached order table changed keys
reached_all order table changed i keys n r = record {
  has = r.has;
  within = r.within;
  closed = λ g h there next l. let s = listed_slice keys h l in r.closed s.0 h (omega (arith, n, s.1.0)) s.1.1 g there next;
  least = r.least;
}

-- ---- the dirty set

filter_agrees : (p q : GroupId → Bool) (gs : List GroupId) → ((g : GroupId) → p g ≡ q g) → filter p gs ≡ filter q gs
filter_agrees p q [] e = refl
filter_agrees p q (g ∷ gs) e = rw (e g, filter_agrees p q gs e) refl

noted_placed : (table : List (List GroupId)) (g : GroupId) (o : Option ℕ) → is_listed (listed_at table o) g ≡ true → is_some o ≡ true
noted_placed table g None e = absurd (true≢false (sym e))
noted_placed table g (Some i) e = refl

next_placed : (order : List GroupId) (table : List (List GroupId)) (g h : GroupId) → is_next order table g h ≡ true → is_listed order h ≡ true
next_placed order table g h e = sym (place_listed h.0 order) ∙ noted_placed table g (place_in h.0 order) ((both_true (may_depend g h) (is_noted order table g h) e).1)

pub dirty_of : (depends : GroupId → GroupId → Bool) (order : List GroupId) (table : List (List GroupId)) (changed : GroupId) (keys : List GroupId) →
    ((g h : GroupId) → is_listed order h ≡ true → is_next order table g h ≡ depends g h) → IsReached order table changed keys → IsDirtySet depends order changed (filter (is_listed keys) order)
dirty_of depends order table changed keys e r =
    let same : (g : GroupId) → is_listed (filter (is_listed keys) order) g ≡ (is_listed keys g && is_listed order g) = λ g.
    any-filter_same (λ (k : GroupId). nat_eq g.0 k.0) (is_listed keys) (is_listed keys g) (λ k t. ap (is_listed keys) (sym (same_group g k t))) order in
    let out : (g : GroupId) → is_listed (filter (is_listed keys) order) g ≡ true → is_listed keys g ≡ true = λ g l. (both_true (is_listed keys g) (is_listed order g) (sym (same g) ∙ l)).0 in
    let into : (g : GroupId) → is_listed keys g ≡ true → is_listed (filter (is_listed keys) order) g ≡ true = λ g l. same g ∙ both_and (is_listed keys g) (is_listed order g) l (r.within g l) in
    let agree : (g : GroupId) → is_listed keys g ≡ is_listed (filter (is_listed keys) order) g = λ g. elim (two (is_listed keys g)) [
      | inl t ↦ t ∙ sym (into g t)
      | inr n ↦ n ∙ sym (same g ∙ ap (λ (b : Bool). b && is_listed order g) n)
    ] in
    record {
      in_order = filter_agrees (is_listed keys) (is_listed (filter (is_listed keys) order)) order agree;
      has = into changed r.has;
      closed = λ g h there d l. let k = out h l in into g (r.closed g h there (e g h (r.within h k) ∙ d) k);
      least = λ hs has closed g l. r.least hs has (λ x h there next k. closed x h there (sym (e x h (next_placed order table x h next)) ∙ next) k) g (out g l);
    }

pub dirty_whole : {s : ℕ} (m : Typed s) (es : List (Entity s)) (order ks : List GroupId) (table : List (List GroupId)) (changed : GroupId) (keys out : List GroupId) → ks ≡ order → IsTable ks table (leans m es) → IsReached ks table changed keys → out ≡ filter (is_listed keys) order →
    IsDirtySet (depends m es) order changed out
unfolding depends
dirty_whole m es order ks table changed keys out k t r o =
    let held = subst (λ (x : List GroupId). IsTable x table (leans m es)) k t in
    let all = subst (λ (x : List GroupId). IsReached x table changed keys) k r in
    rw o (dirty_of (depends m es) order table changed keys (λ g h there. ap (λ (b : Bool). may_depend g h && b) (held.noted g h there)) all)
