-- What is seen of a system that fits: every row is within bounds, and the forced pairs come in order.
use Rattle.std.proofs.Common.{◌≡◌, ℕ, zero, suc, ◌+◌, ◌-◌, ◌≤◌, ◌<◌, ℤ, pos, Bool, true, false, List, [], ◌∷◌, ◌++◌, length, take, Option, Some, None, refl, sym, ap, ◌∙◌, subst, arith, length-append, unsigned_abs}
use Rattle.std.specs.Prelude.{if◌then◌else◌, nat_le, unwrap_or, option_map, option_and_then}
use Rattle.std.specs.List.{position, sum_by, list_all}
use Rattle.std.proofs.lemmas.List.{take-append-le}
use Rattle.std.proofs.lemmas.List.Sums.{sum_by-cons}
use Rattle.std.proofs.lemmas.List.Quantifiers.{position-Some}
use Rattle.sk_num.specs.Ends.{Ends}
use Rattle.sk_num.specs.EachLaws.{each_some-length}
use Rattle.sk_expr.specs.declared.row.RowKind.{RowKind}
use Rattle.sk_expr.specs.declared.row.RowKind.TheVariants.{OfConstraint}
use Rattle.sk_expr.specs.Poly.{Poly, unknown}
use Rattle.sk_expr.specs.System.{ForcedPivot}
use Rattle.sk_expr.specs.Rows.{NamedRow}
use Rattle.sk_expr.specs.Seen.{Seen}
use Rattle.sk_expr.specs.Formula.{Auxiliary, own_row, Relation, row, without_greatest, lesser, Formula}
use Rattle.sk_expr.specs.Readings.{reading, readings, auxiliary_reading, is_length, row_named, with_auxiliary, add_auxiliary, add_auxiliaries, no_greater, greatest_place, without, lesser_of, relation_rows, all_relation_rows, rows_from, grown, with_cosines, grown_by, with_relations}
use Rattle.sk_system.specs.Fits.{AreWithin, IsRow, AuxiliariesFit, RelationFits, RelationsFit, FormulaFits, FormulasFit, RowsFit, IsFit}
use Rattle.sk_system.specs.Formulas.{NamedFormula}
use Rattle.sk_system.specs.Sizes.{rows_of_relation, formula_rows, auxiliaries_in, cosines_in, rows_in}
use Rattle.sk_system.specs.GroupSystem.{GroupSystem, start_at, add_formula, add_formulas, is_within, seen_at}
use Rattle.sk_system.specs.Visited.{ColumnsFrom, RowsRise, IsSeen, IsVisit}
use Rattle.sk_system.proofs.Within.{raise-all}

-- ---- steps that can fail

then-some : {A B : Type 0} (f : A → Option B) (o : Option A) (b : B) → option_and_then f o ≡ Some b → (a : A) × (o ≡ Some a) × (f a ≡ Some b)
then-some f None b h = absurd cc
then-some f (Some a) b h = (a, refl, h)

map-some : {A B : Type 0} (f : A → B) (o : Option A) (b : B) → option_map f o ≡ Some b → (a : A) × (o ≡ Some a) × (f a ≡ b)
map-some f None b h = absurd cc
map-some f (Some a) b h = (a, refl, cc)

same-some : {A : Type 0} (a b : A) → Some a ≡ Some b → a ≡ b
same-some a b h = cc

-- ---- lists

pub more-rows : (u c : ℕ) (rs qs : List NamedRow) → RowsFit u c rs → RowsFit u c qs → RowsFit u c (rs ++ qs)
more-rows u c [] qs h k = k
more-rows u c (r ∷ rs) qs h k = (h.0, more-rows u c rs qs h.1 k)

raise-rows : (u c v d : ℕ) (rs : List NamedRow) → u ≤ v → c ≤ d → RowsFit u c rs → RowsFit v d rs
raise-rows u c v d [] p q h = tt
raise-rows u c v d (r ∷ rs) p q h = ((raise-all u c v d 4000000 (r.tree ∷ []) p q (h.0, tt)).0, raise-rows u c v d rs p q h.1)

columns-more : (n : ℕ) (ps : List ForcedPivot) (p : ForcedPivot) → ColumnsFrom n ps → p.column ≡ n + length ps → ColumnsFrom n (ps ++ p ∷ [])
columns-more n [] p h e = (omega (arith, e), tt)
columns-more n (q ∷ ps) p h e = (h.0, columns-more (n + 1) ps p h.1 (omega (arith, e)))

rise-more : (a : ℕ) (ps : List ForcedPivot) (p : ForcedPivot) (n : ℕ) → RowsRise a ps n → p.row ≡ n → RowsRise a (ps ++ p ∷ []) (n + 1)
rise-more a [] p n h e = (omega (arith, h, e), omega (arith, e))
rise-more a (q ∷ ps) p n h e = (h.0, rise-more (q.row + 1) ps p n h.1 e)

rise-on : (a : ℕ) (ps : List ForcedPivot) (m n : ℕ) → m ≤ n → RowsRise a ps m → RowsRise a ps n
rise-on a [] m n l h = omega (arith, l, h)
rise-on a (q ∷ ps) m n l h = (h.0, rise-on (q.row + 1) ps m n l h.1)

-- ---- auxiliaries

one-more : (seen : Seen) (xs : List ℤ) (kind : RowKind) (handle : ℕ) (x : Auxiliary) (z : ℤ) → IsSeen xs seen → IsRow (length seen.unknowns + 1) (length seen.cosines) (own_row (unknown (length seen.unknowns)) x) →
    IsSeen xs (with_auxiliary kind handle seen x z)
one-more seen xs kind handle x z h r =
    let u = length-append seen.unknowns (z ∷ []) in
    let p : ForcedPivot = record { row = length seen.rows; column = length seen.unknowns; is_length = is_length x } in
    let f = length-append seen.forced (p ∷ []) in
    let q : NamedRow = row_named kind handle 255 (own_row (unknown (length seen.unknowns)) x) in
    let w = length-append seen.rows (q ∷ []) in
    let many = h.many in
    record {
      rows = subst (λ n. RowsFit n (length seen.cosines) (seen.rows ++ q ∷ [])) (sym u)
          (more-rows (length seen.unknowns + 1) (length seen.cosines) seen.rows (q ∷ []) (raise-rows (length seen.unknowns) (length seen.cosines) (length seen.unknowns + 1) (length seen.cosines) seen.rows (omega arith) (omega arith) h.rows) (r, tt));
      many = omega (arith, u, f, many);
      columns = columns-more (length xs) seen.forced p h.columns many;
      rising = subst (λ n. RowsRise 0 (seen.forced ++ p ∷ []) n) (sym w) (rise-more 0 seen.forced p (length seen.rows) h.rising refl);
      begins = take-append-le (length xs) seen.unknowns (z ∷ []) (omega (arith, many)) ∙ h.begins;
    }

pub record AuxiliariesSeen (point : List ℤ) (xs : List Auxiliary) (old new : Seen) : Type 0 where
  pub seen : IsSeen point new
  pub unknowns : length new.unknowns ≡ length old.unknowns + length xs
  pub rows : length new.rows ≡ length old.rows + length xs
  pub cosines : new.cosines ≡ old.cosines

auxiliaries-seen : (s : ℕ) (kind : RowKind) (handle : ℕ) (point : List ℤ) (xs : List Auxiliary) (old new : Seen) → IsSeen point old →
    AuxiliariesFit (length old.unknowns) (length old.cosines) xs → add_auxiliaries s kind handle xs old ≡ Some new → AuxiliariesSeen point xs old new
auxiliaries-seen s kind handle point [] old new h f e =
    let q = same-some old new e in
    record { seen = subst (IsSeen point) q h; unknowns = omega (arith, ap (λ (o : Seen). length o.unknowns) q); rows = omega (arith, ap (λ (o : Seen). length o.rows) q); cosines = sym (ap (λ (o : Seen). o.cosines) q) }
auxiliaries-seen s kind handle point (x ∷ xs) old new h f e =
    let (mid, a, b) = then-some (add_auxiliaries s kind handle xs) (add_auxiliary s kind handle x old) new e in
    let (z, c, d) = map-some (with_auxiliary kind handle old x) (auxiliary_reading s old x) mid a in
    let next = with_auxiliary kind handle old x z in
    let k = one-more old point kind handle x z h f.1 in
    let u = length-append old.unknowns (z ∷ []) in
    let w = length-append old.rows (row_named kind handle 255 (own_row (unknown (length old.unknowns)) x) ∷ []) in
    let g : AuxiliariesFit (length next.unknowns) (length next.cosines) xs = subst (λ n. AuxiliariesFit n (length old.cosines) xs) (sym u) f.2 in
    let t = auxiliaries-seen s kind handle point xs next new k g (ap (add_auxiliaries s kind handle xs) d ∙ b) in
    let tu = t.unknowns in
    let tw = t.rows in
    record { seen = t.seen; unknowns = omega (arith, u, tu); rows = omega (arith, w, tw); cosines = t.cosines }

-- ---- relation rows

without-within : (u c n i : ℕ) (ts : List (Poly ℤ)) → AreWithin u c n ts → AreWithin u c n (without i ts)
without-within u c n i [] h = tt
without-within u c n zero (t ∷ ts) h = h.1
without-within u c n (suc i) (t ∷ ts) h = (h.0, without-within u c n i ts h.1)

without-length : (i : ℕ) (ts : List (Poly ℤ)) → i < length ts → length (without i ts) ≡ length ts - 1
without-length i [] l = absurd (omega (arith, l))
without-length zero (t ∷ ts) l = omega arith
without-length (suc i) (t ∷ ts) l = let e = without-length i ts (omega (arith, l)) in omega (arith, e, l)

place-below : (r : Option ℕ) (zs : List ℤ) → position (no_greater zs) zs ≡ r → 0 < length zs → unwrap_or r 0 < length zs
place-below None zs e l = l
place-below (Some i) zs e l = (position-Some (no_greater zs) zs i (pos 0) e).0

greatest-below : (zs : List ℤ) (n : ℕ) → length zs ≤ n → 0 < n → greatest_place zs < n
greatest-below [] n l p = p
greatest-below (z ∷ zs) n l p = let b = place-below (position (no_greater (z ∷ zs)) (z ∷ zs)) (z ∷ zs) refl (omega arith) in omega (arith, l, b)

either-row : (u c : ℕ) (b : Bool) (t v : Poly ℤ) → IsRow u c t → IsRow u c v → IsRow u c (if b then t else v)
either-row u c true t v h k = h
either-row u c false t v h k = k

-- a relation's rows, k cosines later
pub record RelationSeen (u c n : ℕ) (ts : List (Poly ℤ)) : Type 0 where
  pub within : AreWithin u c 4000000 ts
  pub many : length ts ≡ n

relation-seen : (s u k : ℕ) (seen : Seen) (r : Relation) (ts : List (Poly ℤ)) → RelationFits u (length seen.cosines) k r → relation_rows s seen r ≡ Some ts →
    RelationSeen u (length seen.cosines + k) (rows_of_relation r) ts
relation-seen s u k seen (row t) ts h e =
    let q = same-some (t ∷ []) ts e in
    subst (RelationSeen u (length seen.cosines + k) 1) q (record { within = (h, tt); many = omega arith })
relation-seen s u k seen (without_greatest a b) ts h e =
    let (zs, o, q) = map-some (λ zs. without (greatest_place zs) b) (readings s seen a) ts e in
    let l = each_some-length (reading s seen) a zs o in
    let f = h.2 in
    let g = greatest-below zs (length b) (omega (arith, l, f)) h.3 in
    subst (RelationSeen u (length seen.cosines + k) (length b - 1)) q (record {
      within = raise-all u (length seen.cosines) u (length seen.cosines + k) 4000000 (without (greatest_place zs) b) (omega arith) (omega arith) (without-within u (length seen.cosines) 4000000 (greatest_place zs) b h.1);
      many = without-length (greatest_place zs) b g;
    })
relation-seen s u k seen (lesser t v) ts h e =
    let (x, o, a) = then-some (λ x. option_map (λ y. lesser_of t v x y ∷ []) (reading s seen v)) (reading s seen t) ts e in
    let (y, p, q) = map-some (λ y. lesser_of t v x y ∷ []) (reading s seen v) ts a in
    subst (RelationSeen u (length seen.cosines + k) 1) q (record {
      within = raise-all u (length seen.cosines) u (length seen.cosines + k) 4000000 (lesser_of t v x y ∷ []) (omega arith) (omega arith) (either-row u (length seen.cosines) (nat_le (unsigned_abs x) (unsigned_abs y)) t v h.0 h.1, tt);
      many = omega arith;
    })

within-more : (u c n : ℕ) (ts vs : List (Poly ℤ)) → AreWithin u c n ts → AreWithin u c n vs → AreWithin u c n (ts ++ vs)
within-more u c n [] vs h k = k
within-more u c n (t ∷ ts) vs h k = (h.0, within-more u c n ts vs h.1 k)

relations-seen : (s u k : ℕ) (seen : Seen) (rs : List Relation) (ts : List (Poly ℤ)) → RelationsFit u (length seen.cosines) k rs → all_relation_rows s seen rs ≡ Some ts →
    RelationSeen u (length seen.cosines + k) (sum_by rows_of_relation rs) ts
relations-seen s u k seen [] ts h e = let q = same-some [] ts e in subst (RelationSeen u (length seen.cosines + k) 0) q (record { within = tt; many = omega arith })
relations-seen s u k seen (r ∷ rs) ts h e =
    let (vs, o, a) = then-some (λ vs. option_map (λ ws. vs ++ ws) (all_relation_rows s seen rs)) (relation_rows s seen r) ts e in
    let (ws, p, q) = map-some (λ ws. vs ++ ws) (all_relation_rows s seen rs) ts a in
    let x = relation-seen s u k seen r vs h.0 o in
    let y = relations-seen s u k seen rs ws h.1 p in
    let xm = x.many in
    let ym = y.many in
    let l = length-append vs ws in
    let z = sum_by-cons rows_of_relation r rs in
    subst (RelationSeen u (length seen.cosines + k) (sum_by rows_of_relation (r ∷ rs))) q (record { within = within-more u (length seen.cosines + k) 4000000 vs ws x.within y.within; many = omega (arith, xm, ym, l, z) })

-- ---- a formula

pub named-fit : (u c : ℕ) (kind : RowKind) (handle i : ℕ) (ts : List (Poly ℤ)) → AreWithin u c 4000000 ts → RowsFit u c (rows_from kind handle i ts)
named-fit u c kind handle i [] h = tt
named-fit u c kind handle i (t ∷ ts) h = (h.0, named-fit u c kind handle (i + 1) ts h.1)

pub named-length : (kind : RowKind) (handle i : ℕ) (ts : List (Poly ℤ)) → length (rows_from kind handle i ts) ≡ length ts
named-length kind handle i [] = refl
named-length kind handle i (t ∷ ts) = let l = named-length kind handle (i + 1) ts in omega (arith, l)

pub record FormulaSeen (point : List ℤ) (f : Formula) (old new : Seen) : Type 0 where
  pub seen : IsSeen point new
  pub unknowns : length new.unknowns ≡ length old.unknowns + length f.auxiliaries
  pub rows : length new.rows ≡ length old.rows + formula_rows f
  pub cosines : length new.cosines ≡ length old.cosines + length f.cosines

with-rows : (point : List ℤ) (seen : Seen) (es : List Ends) (kind : RowKind) (handle : ℕ) (ts : List (Poly ℤ)) → IsSeen point seen → AreWithin (length seen.unknowns) (length seen.cosines + length es) 4000000 ts →
    IsSeen point (with_relations (record { seen = with_cosines es seen; rows = rows_from kind handle 0 ts }))
with-rows point seen es kind handle ts h r =
    let c = length-append seen.cosines es in
    let w = length-append seen.rows (rows_from kind handle 0 ts) in
    record {
      rows = subst (λ n. RowsFit (length seen.unknowns) n (seen.rows ++ rows_from kind handle 0 ts)) (sym c)
          (more-rows (length seen.unknowns) (length seen.cosines + length es) seen.rows (rows_from kind handle 0 ts)
          (raise-rows (length seen.unknowns) (length seen.cosines) (length seen.unknowns) (length seen.cosines + length es) seen.rows (omega arith) (omega arith) h.rows)
          (named-fit (length seen.unknowns) (length seen.cosines + length es) kind handle 0 ts r));
      many = h.many;
      columns = h.columns;
      rising = rise-on 0 seen.forced (length seen.rows) (length (seen.rows ++ rows_from kind handle 0 ts)) (omega (arith, w)) h.rising;
      begins = h.begins;
    }

pub formula-seen : (s : ℕ) (point : List ℤ) (f : NamedFormula) (old new : Seen) → IsSeen point old → FormulaFits (length old.unknowns) (length old.cosines) f.formula →
    add_formula s f old ≡ Some new → FormulaSeen point f.formula old new
unfolding grown_by
formula-seen s point f old new h fits e =
    let handle = f.constraint.0 in
    let g = f.formula in
    let (more, a, b) = map-some with_relations (grown_by s OfConstraint handle g old) new e in
    let (mid, o, p) = then-some (λ (more : Seen). option_map (grown OfConstraint handle g more) (all_relation_rows s more g.relations)) (add_auxiliaries s OfConstraint handle g.auxiliaries old) more a in
    let (ts, q, r) = map-some (grown OfConstraint handle g mid) (all_relation_rows s mid g.relations) more p in
    let x = auxiliaries-seen s OfConstraint handle point g.auxiliaries old mid h fits.0 o in
    let xu = x.unknowns in
    let xr = x.rows in
    let xc : length mid.cosines ≡ length old.cosines = ap (λ (es : List Ends). length es) x.cosines in
    let k : RelationsFit (length mid.unknowns) (length mid.cosines) (length g.cosines) g.relations =
    subst (λ n. RelationsFit n (length mid.cosines) (length g.cosines) g.relations) (sym xu) (subst (λ n. RelationsFit (length old.unknowns + length g.auxiliaries) n (length g.cosines) g.relations) (sym xc) fits.1) in
    let y = relations-seen s (length mid.unknowns) (length g.cosines) mid g.relations ts k q in
    let ym = y.many in
    let z = with-rows point mid g.cosines OfConstraint handle ts x.seen y.within in
    let last : with_relations (grown OfConstraint handle g mid ts) ≡ new = ap with_relations r ∙ b in
    let c = length-append mid.cosines g.cosines in
    let w = length-append mid.rows (rows_from OfConstraint handle 0 ts) in
    let l = named-length OfConstraint handle 0 ts in
    subst (FormulaSeen point g old) last (record { seen = z; unknowns = xu; rows = omega (arith, xr, w, l, ym); cosines = omega (arith, c, xc) })

-- ---- all formulas

pub record FormulasSeen (point : List ℤ) (fs : List NamedFormula) (old new : Seen) : Type 0 where
  pub seen : IsSeen point new
  pub unknowns : length new.unknowns ≡ length old.unknowns + auxiliaries_in fs
  pub rows : length new.rows ≡ length old.rows + rows_in fs
  pub cosines : length new.cosines ≡ length old.cosines + cosines_in fs

pub formulas-seen : (s : ℕ) (point : List ℤ) (fs : List NamedFormula) (old new : Seen) → IsSeen point old → FormulasFit (length old.unknowns) (length old.cosines) fs →
    add_formulas s fs old ≡ Some new → FormulasSeen point fs old new
formulas-seen s point [] old new h fits e =
    let q = same-some old new e in
    subst (FormulasSeen point [] old) q (record { seen = h; unknowns = omega arith; rows = omega arith; cosines = omega arith })
formulas-seen s point (f ∷ fs) old new h fits e =
    let (mid, a, b) = then-some (add_formulas s fs) (add_formula s f old) new e in
    let x = formula-seen s point f old mid h fits.0 a in
    let xu = x.unknowns in
    let xr = x.rows in
    let xc = x.cosines in
    let k : FormulasFit (length mid.unknowns) (length mid.cosines) fs =
    subst (λ n. FormulasFit n (length mid.cosines) fs) (sym xu) (subst (λ n. FormulasFit (length old.unknowns + length f.formula.auxiliaries) n fs) (sym xc) fits.1) in
    let y = formulas-seen s point fs mid new x.seen k b in
    let yu = y.unknowns in
    let yr = y.rows in
    let yc = y.cosines in
    let a' = sum_by-cons (λ (g : NamedFormula). length g.formula.auxiliaries) f fs in
    let r' = sum_by-cons (λ (g : NamedFormula). formula_rows g.formula) f fs in
    let c' = sum_by-cons (λ (g : NamedFormula). length g.formula.cosines) f fs in
    record { seen = y.seen; unknowns = omega (arith, xu, yu, a'); rows = omega (arith, xr, yr, r'); cosines = omega (arith, xc, yc, c') }

-- ---- the start

take-all : (xs : List ℤ) → take (length xs) xs ≡ xs
take-all [] = refl
take-all (x ∷ xs) = ap (λ (ys : List ℤ). x ∷ ys) (take-all xs)

pub start-seen : (y : GroupSystem) (xs : List ℤ) → IsFit y → length xs ≡ length y.unknowns → IsSeen xs (start_at y xs)
start-seen y xs h e = record {
  rows = subst (λ n. RowsFit n 0 y.rows) (sym e) h.rows;
  many = omega arith;
  columns = tt;
  rising = omega arith;
  begins = take-all xs;
}

-- ---- a visit

pub if-some : {A : Type 0} (b : Bool) (o : Option A) (a : A) → (if b then o else None) ≡ Some a → o ≡ Some a
if-some true o a h = h
if-some false o a h = absurd cc

pub visit-seen : (s : ℕ) (y : GroupSystem) (xs : List ℤ) (seen : Seen) → IsFit y → length xs ≡ length y.unknowns → seen_at s y xs ≡ Some seen → IsVisit xs seen
unfolding seen_at
visit-seen s y xs seen h e k =
    let a = if-some (list_all (is_within s (start_at y xs)) y.numbers) (add_formulas s y.formulas (start_at y xs)) seen k in
    let f : FormulasFit (length xs) 0 y.formulas = subst (λ n. FormulasFit n 0 y.formulas) (sym e) h.formulas in
    let x = formulas-seen s xs y.formulas (start_at y xs) seen (start-seen y xs h e) f a in
    let xu = x.unknowns in
    let xr = x.rows in
    let fu = h.unknowns in
    let fr = h.few_rows in
    record { fits = x.seen; few_unknowns = omega (arith, xu, fu, e); few_rows = omega (arith, xr, fr) }

-- ---- how much a formula adds

pub record IsGrown (f : Formula) (old new : Seen) : Type 0 where
  pub unknowns : length new.unknowns ≡ length old.unknowns + length f.auxiliaries
  pub rows : length new.rows ≡ length old.rows + formula_rows f
  pub cosines : length new.cosines ≡ length old.cosines + length f.cosines

pub record AuxiliariesGrown (xs : List Auxiliary) (old new : Seen) : Type 0 where
  pub unknowns : length new.unknowns ≡ length old.unknowns + length xs
  pub rows : length new.rows ≡ length old.rows + length xs
  pub cosines : length new.cosines ≡ length old.cosines

auxiliaries-grown : (s : ℕ) (kind : RowKind) (handle : ℕ) (xs : List Auxiliary) (old new : Seen) → add_auxiliaries s kind handle xs old ≡ Some new → AuxiliariesGrown xs old new
auxiliaries-grown s kind handle [] old new e =
    let q = same-some old new e in
    subst (AuxiliariesGrown [] old) q (record { unknowns = omega arith; rows = omega arith; cosines = refl })
auxiliaries-grown s kind handle (x ∷ xs) old new e =
    let (mid, a, b) = then-some (add_auxiliaries s kind handle xs) (add_auxiliary s kind handle x old) new e in
    let (z, c, d) = map-some (with_auxiliary kind handle old x) (auxiliary_reading s old x) mid a in
    let u = length-append old.unknowns (z ∷ []) in
    let w = length-append old.rows (row_named kind handle 255 (own_row (unknown (length old.unknowns)) x) ∷ []) in
    let t = auxiliaries-grown s kind handle xs (with_auxiliary kind handle old x z) new (ap (add_auxiliaries s kind handle xs) d ∙ b) in
    let tu = t.unknowns in
    let tw = t.rows in
    record { unknowns = omega (arith, u, tu); rows = omega (arith, w, tw); cosines = t.cosines }

pub formula-grown : (s : ℕ) (f : NamedFormula) (old new : Seen) → FormulaFits (length old.unknowns) (length old.cosines) f.formula → add_formula s f old ≡ Some new → IsGrown f.formula old new
unfolding grown_by
formula-grown s f old new fits e =
    let handle = f.constraint.0 in
    let g = f.formula in
    let (more, a, b) = map-some with_relations (grown_by s OfConstraint handle g old) new e in
    let (mid, o, p) = then-some (λ (more : Seen). option_map (grown OfConstraint handle g more) (all_relation_rows s more g.relations)) (add_auxiliaries s OfConstraint handle g.auxiliaries old) more a in
    let (ts, q, r) = map-some (grown OfConstraint handle g mid) (all_relation_rows s mid g.relations) more p in
    let x = auxiliaries-grown s OfConstraint handle g.auxiliaries old mid o in
    let xu = x.unknowns in
    let xr = x.rows in
    let xc = x.cosines in
    let k : RelationsFit (length mid.unknowns) (length mid.cosines) (length g.cosines) g.relations =
    subst (λ n. RelationsFit n (length mid.cosines) (length g.cosines) g.relations) (sym xu) (subst (λ n. RelationsFit (length old.unknowns + length g.auxiliaries) n (length g.cosines) g.relations) (sym xc) fits.1) in
    let y = relations-seen s (length mid.unknowns) (length g.cosines) mid g.relations ts k q in
    let ym = y.many in
    let last : with_relations (grown OfConstraint handle g mid ts) ≡ new = ap with_relations r ∙ b in
    let c = length-append mid.cosines g.cosines in
    let w = length-append mid.rows (rows_from OfConstraint handle 0 ts) in
    let l = named-length OfConstraint handle 0 ts in
    subst (IsGrown g old) last (record { unknowns = xu; rows = omega (arith, xr, w, l, ym); cosines = omega (arith, c, xc) })
