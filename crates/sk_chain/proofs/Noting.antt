-- Pairs of groups that are noted in a table, one behind the other.
use Rattle.std.proofs.Common.{◌≡◌, ◌≢◌, inl, inr, ℕ, zero, suc, ◌+◌, ◌<◌, ◌≤◌, List, [], ◌∷◌, ◌++◌, length, length-set, get_or, set, drop, map, Bool, true, false, nat_eq, Option, Some, None, is_some, refl, sym, ap, ◌∙◌, subst, true≢false, append_assoc, arith, drop_of_length-le, eqb-true}
use Rattle.std.specs.Prelude.{◌==◌, ◌&&◌, ◌||◌}
use Rattle.std.specs.List.{list_any}
use Rattle.std.specs.Option.{option_map}
use Rattle.std.proofs.lemmas.Cmp.{nat_eq_equiv}
use Rattle.std.proofs.lemmas.List.{get_or-set_same, get_or-set_other}
use Rattle.std.proofs.lemmas.Option.{get_or_from_slice_get, slice_get_read}
use Rattle.std.proofs.lemmas.List.Folds.{list_any-append}
use Rattle.std.proofs.lemmas.List.Quantifiers.{position-Some}
use Rattle.std.proofs.Math.Seq.{drop-cons}
use Rattle.sk_types.specs.declared.handle.GroupId.{GroupId}
use Rattle.sk_types.specs.declared.entity.Entity.{Entity}
use Rattle.sk_types.specs.declared.group.Group.{Group}
use Rattle.sk_types.specs.declared.constraint.Constraint.{Constraint}
use Rattle.sk_types.specs.declared.constraint.Need.{Need}
use Rattle.sk_types.specs.Needs.{filled_up, needs_of}
use Rattle.sk_chain.specs.Lookups.{place_in}
use Rattle.sk_chain.specs.Dependence.{constraint_leans, group_leans, is_at, is_listed, is_needed}
use Rattle.sk_chain.specs.Leaning.{IsTable, Notes, is_noted, listed_at}
use Rattle.sk_chain.proofs.Distinct.{two}
use Rattle.sk_chain.proofs.Needed.{filled_any, placed_any}
use Rattle.sk_chain.proofs.Places.{place_cons}

-- ---- truth values

pub or_false : (x : Bool) → (x || false) ≡ x
or_false true = refl
or_false false = refl

and_true : (x : Bool) → (x && true) ≡ x
and_true true = refl
and_true false = refl

and_false : (x : Bool) → (x && false) ≡ false
and_false true = refl
and_false false = refl

or_assoc : (x y z : Bool) → ((x || y) || z) ≡ (x || (y || z))
or_assoc true y z = refl
or_assoc false y z = refl

four : (a s x y z : Bool) → ((((a && s) || (a && x)) || (a && y)) || (a && z)) ≡ (a && (s || (x || (y || (z || false)))))
four false s x y z = refl
four true true x y z = refl
four true false true y z = refl
four true false false true z = refl
four true false false false z = sym (or_false z)

pub and_or : (a x y : Bool) → ((a && x) || (a && y)) ≡ (a && (x || y))
and_or true x y = refl
and_or false x y = refl

-- ---- groups with one handle

abbrev mk : ℕ → GroupId
mk n = record { 0 = n }

pub same_group : (g h : GroupId) → nat_eq g.0 h.0 ≡ true → g ≡ h
same_group g h e = let p : g.0 ≡ h.0 = eqb-true g.0 h.0 e in ap mk p

-- ---- places

some_map : (o : Option ℕ) → is_some (option_map suc o) ≡ is_some o
some_map None = refl
some_map (Some n) = refl

pub place_listed : (n : ℕ) (gs : List GroupId) → is_some (place_in n gs) ≡ list_any (λ (k : GroupId). nat_eq n k.0) gs
place_listed n [] = refl
place_listed n (g ∷ gs) = rw (place_cons n g gs) (elim (two (nat_eq n g.0)) [ inl e ↦ rw e refl | inr e ↦ rw e (some_map (place_in n gs) ∙ place_listed n gs) ])

places_apart : (order : List GroupId) (g h : GroupId) (i j : ℕ) → place_in g.0 order ≡ Some i → place_in h.0 order ≡ Some j → nat_eq g.0 h.0 ≡ false → j ≢ i
places_apart order g h i j p q n s =
    let a = position-Some (λ (k : GroupId). nat_eq g.0 k.0) order i g p in
    let b = position-Some (λ (k : GroupId). nat_eq h.0 k.0) order j g q in
    let same : nat_eq h.0 (get_or order i g).0 ≡ true = subst (λ (k : ℕ). nat_eq h.0 (get_or order k g).0 ≡ true) s b.1 in
    let e : g ≡ get_or order i g = same_group g (get_or order i g) a.1 in
    let f : h ≡ get_or order i g = same_group h (get_or order i g) same in
    true≢false (sym (nat_eq_equiv.refl h.0) ∙ (ap (λ (k : GroupId). nat_eq k.0 h.0) (f ∙ sym e) ∙ n))

-- ---- one pair

abbrev pub is_pair : GroupId → GroupId → GroupId → GroupId → Bool
is_pair later earlier g h = later.0 == g.0 && earlier.0 == h.0

noted_there : (table : List (List GroupId)) (i : ℕ) (later g : GroupId) → i < length table →
    is_listed (get_or (set table i (get_or table i [] ++ later ∷ [])) i []) g ≡ (is_listed (get_or table i []) g || nat_eq later.0 g.0)
noted_there table i later g l =
    rw (get_or-set_same table i (get_or table i [] ++ later ∷ []) [] l)
    (list_any-append (λ (k : GroupId). nat_eq g.0 k.0) (get_or table i []) (later ∷ []) ∙ ap (λ (b : Bool). is_listed (get_or table i []) g || b) (or_false (nat_eq g.0 later.0) ∙ nat_eq_equiv.symm g.0 later.0))

noted_elsewhere : (order : List GroupId) (table : List (List GroupId)) (i : ℕ) (earlier h : GroupId) (y : List GroupId) (o : Option ℕ) → place_in earlier.0 order ≡ Some i → place_in h.0 order ≡ o → nat_eq earlier.0 h.0 ≡ false →
    listed_at (set table i y) o ≡ listed_at table o
noted_elsewhere order table i earlier h y None p q n = refl
noted_elsewhere order table i earlier h y (Some j) p q n = get_or-set_other table i j y [] (places_apart order earlier h i j p q n)

pub noted_at : (order : List GroupId) (table table' : List (List GroupId)) (i : ℕ) (y : List GroupId) (later earlier : GroupId) → place_in earlier.0 order ≡ Some i → length table ≡ length order →
    y ≡ get_or table i y → table' ≡ set table i (y ++ later ∷ []) → Notes order table table' (is_pair later earlier)
noted_at order table table' i y later earlier p l at u =
    let within : i < length table = rw l ((position-Some (λ (k : GroupId). nat_eq earlier.0 k.0) order i earlier p).0) in
    let read : get_or table i [] ≡ y = get_or_from_slice_get table i y [] (slice_get_read table (length table) i y refl within at) in
    rw (u, sym read) (record {
      long = length-set table i (get_or table i [] ++ later ∷ []);
      noted = λ g h there. elim (two (nat_eq earlier.0 h.0)) [
        | inl e ↦ (
            let q : place_in h.0 order ≡ Some i = subst (λ (k : GroupId). place_in k.0 order ≡ Some i) (same_group earlier h e) p in
            rw (q, e) (noted_there table i later g within ∙ ap (λ (b : Bool). is_listed (get_or table i []) g || b) (sym (and_true (nat_eq later.0 g.0)))))
        | inr n ↦ (rw (noted_elsewhere order table i earlier h (get_or table i [] ++ later ∷ []) (place_in h.0 order) p refl n, n, and_false (nat_eq later.0 g.0)) (sym (or_false (is_noted order table g h))))
      ];
    })

pub noted_nowhere : (order : List GroupId) (table : List (List GroupId)) (later earlier : GroupId) → place_in earlier.0 order ≡ None → Notes order table table (is_pair later earlier)
noted_nowhere order table later earlier p = record {
  long = refl;
  noted = λ g h there. elim (two (nat_eq earlier.0 h.0)) [
    | inl e ↦ (
        let q : place_in h.0 order ≡ None = subst (λ (k : GroupId). place_in k.0 order ≡ None) (same_group earlier h e) p in
        absurd (true≢false (sym there ∙ (sym (place_listed h.0 order) ∙ ap is_some q))))
    | inr n ↦ (rw (n, and_false (nat_eq later.0 g.0)) (sym (or_false (is_noted order table g h))))
  ];
}

-- ---- one behind the other

abbrev Test : Type 0
Test = GroupId → GroupId → Bool

pub noted_both : (order : List GroupId) (a b c : List (List GroupId)) (t u : Test) → Notes order a b t → Notes order b c u → Notes order a c (λ g h. t g h || u g h)
noted_both order a b c t u n m = record {
  long = m.long ∙ n.long;
  noted = λ g h there. m.noted g h there ∙ (ap (λ (x : Bool). x || u g h) (n.noted g h there) ∙ or_assoc (is_noted order a g h) (t g h) (u g h));
}

pub noted_same : (order : List GroupId) (a b : List (List GroupId)) (t u : Test) → ((g h : GroupId) → t g h ≡ u g h) → Notes order a b t → Notes order a b u
noted_same order a b t u e n = record { long = n.long; noted = λ g h there. n.noted g h there ∙ ap (λ (x : Bool). is_noted order a g h || x) (e g h) }

pub noted_fields : {s : ℕ} (order : List GroupId) (es : List (Entity s)) (x : Group s) (a b c d e : List (List GroupId)) → Notes order a b (is_pair x.id x.source) →
    Notes order b c (λ (g h : GroupId). x.id.0 == g.0 && is_at es h x.origin) → Notes order c d (λ (g h : GroupId). x.id.0 == g.0 && is_at es h x.entity_b) → Notes order d e (λ (g h : GroupId). x.id.0 == g.0 && is_at es h x.entity_c) →
    Notes order a e (λ (g h : GroupId). group_leans es g h x)
noted_fields order es x a b c d e n m k l =
    let own : GroupId → Bool = λ (g : GroupId). x.id.0 == g.0 in
    let s : GroupId → Bool = λ (h : GroupId). x.source.0 == h.0 in
    let o : GroupId → Bool = λ (h : GroupId). is_at es h x.origin in
    let p : GroupId → Bool = λ (h : GroupId). is_at es h x.entity_b in
    let q : GroupId → Bool = λ (h : GroupId). is_at es h x.entity_c in
    noted_same order a e (λ (g h : GroupId). (((own g && s h) || (own g && o h)) || (own g && p h)) || (own g && q h)) (λ (g h : GroupId). group_leans es g h x)
    (λ (g h : GroupId). four (own g) (s h) (o h) (p h) (q h))
    (noted_both order a d e (λ (g h : GroupId). ((own g && s h) || (own g && o h)) || (own g && p h)) (λ (g h : GroupId). own g && q h)
    (noted_both order a c d (λ (g h : GroupId). (own g && s h) || (own g && o h)) (λ (g h : GroupId). own g && p h) (noted_both order a b c (λ (g h : GroupId). own g && s h) (λ (g h : GroupId). own g && o h) n m) k) l)

-- ---- what is left

pub record Left (order : List GroupId) (old cur : List (List GroupId)) (rest whole : GroupId → GroupId → Bool) : Type 0 where
  pub long : length cur ≡ length old
  pub left : (g h : GroupId) → is_listed order h ≡ true → (is_noted order cur g h || rest g h) ≡ (is_noted order old g h || whole g h)

pub left_all : (order : List GroupId) (old : List (List GroupId)) (t : Test) → Left order old old t t
left_all order old t = record { long = refl; left = λ g h there. refl }

pub left_behind : (order : List GroupId) (old cur : List (List GroupId)) (t u whole : Test) → ((g h : GroupId) → (t g h || u g h) ≡ whole g h) → Notes order old cur t → Left order old cur u whole
left_behind order old cur t u whole e n = record {
  long = n.long;
  left = λ g h there. ap (λ (x : Bool). x || u g h) (n.noted g h there) ∙ (or_assoc (is_noted order old g h) (t g h) (u g h) ∙ ap (λ (x : Bool). is_noted order old g h || x) (e g h));
}

pub left_more : (order : List GroupId) (old cur new : List (List GroupId)) (t rest rest' whole : Test) → ((g h : GroupId) → rest g h ≡ (t g h || rest' g h)) → Left order old cur rest whole → Notes order cur new t → Left order old new rest' whole
left_more order old cur new t rest rest' whole e k n = record {
  long = n.long ∙ k.long;
  left = λ g h there. ap (λ (x : Bool). x || rest' g h) (n.noted g h there)
      ∙ (or_assoc (is_noted order cur g h) (t g h) (rest' g h) ∙ (ap (λ (x : Bool). is_noted order cur g h || x) (sym (e g h)) ∙ k.left g h there));
}

pub left_none : (order : List GroupId) (old cur : List (List GroupId)) (rest whole : Test) → ((g h : GroupId) → rest g h ≡ false) → Left order old cur rest whole → Notes order old cur whole
left_none order old cur rest whole e k = record {
  long = k.long;
  noted = λ g h there. sym (or_false (is_noted order cur g h)) ∙ (ap (λ (x : Bool). is_noted order cur g h || x) (sym (e g h)) ∙ k.left g h there);
}

-- over the things of a list
pub list_more : {X : Type 0} (order : List GroupId) (old cur new : List (List GroupId)) (t : GroupId → GroupId → X → Bool) (xs : List X) (i : ℕ) (d x : X) (whole : Test) → i < length xs → x ≡ get_or xs i d →
    Left order old cur (λ (g h : GroupId). list_any (t g h) (drop i xs)) whole → Notes order cur new (λ (g h : GroupId). t g h x) → Left order old new (λ (g h : GroupId). list_any (t g h) (drop (i + 1) xs)) whole
list_more {X = X} order old cur new t xs i d x whole l e k n =
    let next : i + 1 ≡ suc i = omega arith in
    rw next (left_more order old cur new (λ (g h : GroupId). t g h x) (λ (g h : GroupId). list_any (t g h) (drop i xs)) (λ (g h : GroupId). list_any (t g h) (drop (suc i) xs)) whole
    (λ (g h : GroupId). ap (list_any (t g h)) (drop-cons xs i d l) ∙ ap (λ (y : X). t g h y || list_any (t g h) (drop (suc i) xs)) (sym e)) k n)

pub list_done : {X : Type 0} (order : List GroupId) (old cur : List (List GroupId)) (t : GroupId → GroupId → X → Bool) (xs : List X) (i : ℕ) (whole : Test) → length xs ≤ i →
    Left order old cur (λ (g h : GroupId). list_any (t g h) (drop i xs)) whole → Notes order old cur whole
list_done order old cur t xs i whole l k = left_none order old cur (λ (g h : GroupId). list_any (t g h) (drop i xs)) whole (λ (g h : GroupId). ap (list_any (t g h)) (drop_of_length-le xs l)) k

-- over the parts that a constraint needs
pub filled_length : (ns : List Need) → length (filled_up ns) ≡ 4
filled_length [] = refl
filled_length (a ∷ []) = refl
filled_length (a ∷ b ∷ []) = refl
filled_length (a ∷ b ∷ c ∷ []) = refl
filled_length (a ∷ b ∷ c ∷ d ∷ ns) = refl

pub needs_all : {s : ℕ} (order : List GroupId) (old cur : List (List GroupId)) (es : List (Entity s)) (c : Constraint s) (ns : List (Option Need)) → ns ≡ filled_up (needs_of c.kind c.points c.entities) → length (needs_of c.kind c.points c.entities) ≤ 4 →
    Notes order old cur (λ (g h : GroupId). c.group.0 == g.0 && is_at es h c.workplane) →
    Left order old cur (λ (g h : GroupId). c.group.0 == g.0 && placed_any (is_needed es h) ns) (λ (g h : GroupId). constraint_leans es g h c)
needs_all order old cur es c ns e few n =
    left_behind order old cur (λ (g h : GroupId). c.group.0 == g.0 && is_at es h c.workplane) (λ (g h : GroupId). c.group.0 == g.0 && placed_any (is_needed es h) ns) (λ (g h : GroupId). constraint_leans es g h c)
    (λ (g h : GroupId). and_or (c.group.0 == g.0) (is_at es h c.workplane) (placed_any (is_needed es h) ns)
    ∙ ap (λ (b : Bool). c.group.0 == g.0 && (is_at es h c.workplane || b)) (ap (placed_any (is_needed es h)) e ∙ filled_any (is_needed es h) (needs_of c.kind c.points c.entities) few)) n

pub needs_more : {s : ℕ} (order : List GroupId) (old cur new : List (List GroupId)) (es : List (Entity s)) (c : Constraint s) (ns : List (Option Need)) (i : ℕ) (d : Option Need) (n : Need) (whole : Test) → i < length ns → Some n ≡ get_or ns i d →
    Left order old cur (λ (g h : GroupId). c.group.0 == g.0 && placed_any (is_needed es h) (drop i ns)) whole → Notes order cur new (λ (g h : GroupId). c.group.0 == g.0 && is_at es h n.entity) →
    Left order old new (λ (g h : GroupId). c.group.0 == g.0 && placed_any (is_needed es h) (drop (i + 1) ns)) whole
needs_more order old cur new es c ns i d n whole l e k m =
    let next : i + 1 ≡ suc i = omega arith in
    rw next (left_more order old cur new (λ (g h : GroupId). c.group.0 == g.0 && is_at es h n.entity) (λ (g h : GroupId). c.group.0 == g.0 && placed_any (is_needed es h) (drop i ns)) (λ (g h : GroupId). c.group.0 == g.0 && placed_any (is_needed es h) (drop (suc i) ns)) whole
    (λ (g h : GroupId). ap (λ (xs : List (Option Need)). c.group.0 == g.0 && placed_any (is_needed es h) xs) (drop-cons ns i d l ∙ ap (λ (x : Option Need). x ∷ drop (suc i) ns) (sym e))
    ∙ sym (and_or (c.group.0 == g.0) (is_at es h n.entity) (placed_any (is_needed es h) (drop (suc i) ns)))) k m)

-- ---- the whole table

abbrev nothing : List GroupId
nothing = []

empty_get : (order : List GroupId) (i : ℕ) → get_or (map (λ (g : GroupId). nothing) order) i [] ≡ []
empty_get [] i = refl
empty_get (g ∷ gs) zero = refl
empty_get (g ∷ gs) (suc i) = empty_get gs i

empty_length : (order : List GroupId) → length (map (λ (g : GroupId). nothing) order) ≡ length order
empty_length [] = refl
empty_length (g ∷ gs) = ap suc (empty_length gs)

empty_at : (order : List GroupId) (o : Option ℕ) → listed_at (map (λ (g : GroupId). []) order) o ≡ []
empty_at order None = refl
empty_at order (Some i) = empty_get order i

pub table_whole : (order : List GroupId) (a b c d : List (List GroupId)) (t u v : Test) → a ≡ map (λ (g : GroupId). []) order → Notes order a b t → Notes order b c u → Notes order c d v →
    IsTable order d (λ (g h : GroupId). t g h || (u g h || v g h))
table_whole order a b c d t u v e n m k =
    let all = noted_both order a c d (λ (g h : GroupId). t g h || u g h) v (noted_both order a b c t u n m) k in
    record {
      long = all.long ∙ (ap length e ∙ empty_length order);
      noted = λ g h there. all.noted g h there ∙ (ap (λ (x : List (List GroupId)). is_noted order x g h || ((t g h || u g h) || v g h)) e ∙ (ap (λ (x : List GroupId). is_listed x g || ((t g h || u g h) || v g h)) (empty_at order (place_in h.0 order)) ∙ or_assoc (t g h) (u g h) (v g h)));
    }

pub empty_more : (order : List GroupId) (i : ℕ) (ls ls' : List (List GroupId)) (y : List GroupId) → i < length order → y ≡ [] → ls' ≡ ls ++ y ∷ [] →
    ls ++ map (λ (g : GroupId). nothing) (drop i order) ≡ map (λ (g : GroupId). nothing) order → ls' ++ map (λ (g : GroupId). nothing) (drop (i + 1) order) ≡ map (λ (g : GroupId). nothing) order
empty_more order i ls ls' y l e u h =
    let next : i + 1 ≡ suc i = omega arith in
    rw (next, u, e, append_assoc ls (nothing ∷ []) (map (λ (g : GroupId). nothing) (drop (suc i) order))) (ap (λ (xs : List GroupId). ls ++ map (λ (g : GroupId). nothing) xs) (sym (drop-cons order i (mk 0) l)) ∙ h)
