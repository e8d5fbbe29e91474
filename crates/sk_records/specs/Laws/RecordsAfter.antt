-- What the records of each kind are after a change.
use Rattle.std.proofs.Common.{◌≡◌, map, ℕ, zero, suc, List, [], ◌∷◌, ◌++◌, take, drop, refl, ap, sym, ◌∙◌, cond, true, false, Bool, inl, inr, Option, Some, None, unwrap_or}
use Rattle.std.specs.Option.{option_map, option_or}
use Rattle.std.proofs.lemmas.List.{take-append-drop, append-nil}
use Rattle.std.proofs.lemmas.Bool.{eqb-true}
use Rattle.std.proofs.lemmas.Grind.{flat_map-append}
use Rattle.sk_records.specs.declared.kinds.Kind.{Kind}
use Rattle.sk_records.specs.declared.kinds.Kind.TheVariants.{Group, Param, Request, Entity, Constraint, Style}
use Rattle.sk_records.specs.Kinds.{same_kind, kind_place}
use Rattle.sk_records.specs.Rows.{Row}
use Rattle.sk_records.specs.Blocks.{Block, Rec, Loose, Record, records, of_kind, is_of, is_blank, without, with_rows, has, before_kind, from_kind, with_tails, AllOf, rows_of, on_records, on_block, made_anew, add_records, put_at, new_place, ended, ended_last, end_of_last, tail_len, on_record, dropped, changed_at, removed_at}
use Rattle.sk_records.specs.Laws.Statements.{AllSame}
use Rattle.sk_records.specs.Laws.MadeAnew.{two, has_front, or_false_left, or_false_right, has_without, has_drop}

pub records-append : (k : Kind) (a b : List Block) → records k (a ++ b) ≡ records k a ++ records k b
records-append k a b = flat_map-append (of_kind k) a b

-- a block of one kind is of no other
other : (k j : Kind) → same_kind k j ≡ false → (b : Block) → is_of k b ≡ true → of_kind j b ≡ []
other k j apart (Loose r) e = refl
other k j apart (Record r) e = rw (eqb-true (kind_place r.kind) (kind_place k) e, apart) refl

blank_none : (j : Kind) (b : Block) → is_blank b ≡ true → of_kind j b ≡ []
blank_none j (Loose r) e = refl
blank_none j (Record r) e = cc

none_of : (k : Kind) (b : Block) → is_of k b ≡ false → of_kind k b ≡ []
none_of k (Loose r) e = refl
none_of k (Record r) e = rw e refl

pub has_none : (k : Kind) (bs : List Block) → has k bs ≡ false → records k bs ≡ []
has_none k [] h = refl
has_none k (b ∷ bs) h = rw (none_of k b (or_false_left _ _ h)) (has_none k bs (or_false_right _ _ h))

and_true : (t b : Bool) → cond t b false ≡ true → b ≡ true
and_true true b h = h
and_true false b h = cc

records_without : (k j : Kind) → same_kind k j ≡ false → (t : Bool) (bs : List Block) → records j (without k t bs) ≡ records j bs
records_without k j apart t [] = refl
records_without k j apart t (b ∷ bs) = elim (two (is_of k b)) [
  | inl e ↦ rw (e, other k j apart b e) (records_without k j apart true bs)
  | inr e ↦ rw e (elim (two (cond t (is_blank b) false)) [
    | inl f ↦ rw (f, blank_none j b (and_true t (is_blank b) f)) (records_without k j apart false bs)
    | inr f ↦ rw f (ap (λ l. of_kind j b ++ l) (records_without k j apart false bs))
  ])
]

before-from : (k : Kind) (bs : List Block) → before_kind k bs ++ from_kind k bs ≡ bs
before-from k [] = refl
before-from k (b ∷ bs) = elim (two (is_of k b)) [ inl e ↦ rw e refl | inr e ↦ rw e (ap (λ l. b ∷ l) (before-from k bs)) ]

pub records_tails_same : (k : Kind) (rs : List Rec) → AllOf k rs → records k (with_tails rs) ≡ rows_of rs
records_tails_same k [] all = refl
records_tails_same k (r ∷ rs) all = rw all.0 (ap (λ l. r.rows ∷ l) (records_tails_same k rs all.1))

pub records_tails_other : (k j : Kind) → same_kind k j ≡ false → (rs : List Rec) → AllOf k rs → records j (with_tails rs) ≡ []
records_tails_other k j apart [] all = refl
records_tails_other k j apart (r ∷ rs) all = rw (other k j apart (Record r) all.0) (records_tails_other k j apart rs all.1)

records_ended_block : (j : Kind) (b : Block) → of_kind j (ended b) ≡ of_kind j b
records_ended_block j (Loose r) = refl
records_ended_block j (Record r) = refl

pub records_ended : (j : Kind) (bs : List Block) → records j (ended_last bs) ≡ records j bs
records_ended j [] = refl
records_ended j (b ∷ []) = rw records_ended_block refl
records_ended j (b ∷ (c ∷ cs)) = ap (λ l. of_kind j b ++ l) (records_ended j (c ∷ cs))

pub split_none : (j : Kind) (n : ℕ) (bs : List Block) → records j (take n bs) ++ records j (drop n bs) ≡ records j bs
split_none j n bs = sym (records-append j (take n bs) (drop n bs)) ∙ ap (records j) (take-append-drop n bs)

-- what is put between adds its records
pub records_put : (j : Kind) (n : ℕ) (new bs : List Block) → records j (put_at n new bs) ≡ records j (take n bs) ++ (records j new ++ records j (drop n bs))
records_put j n [] bs = sym (split_none j n bs)
records_put j n (b ∷ new) bs = simp (records-append, records_ended) refl

pub added_other : (k j : Kind) → same_kind k j ≡ false → (rs : List Rec) (bs : List Block) → AllOf k rs → records j (add_records k rs bs) ≡ records j bs
added_other k j apart rs bs all = records_put j (new_place k bs) (with_tails rs) bs ∙ rw (records_tails_other k j apart rs all) (split_none j (new_place k bs) bs)

end_none : (k : Kind) (bs : List Block) → end_of_last k bs ≡ None → has k bs ≡ false
end_none k [] e = refl
end_none k (b ∷ bs) e = none_step (end_of_last k bs) (is_of k b) (has k bs) (suc (tail_len bs)) e (end_none k bs)
  where
    none_step : (o : Option ℕ) (t h : Bool) (n : ℕ) → option_or (option_map suc o) (cond t (Some n) None) ≡ None → (o ≡ None → h ≡ false) → cond t true h ≡ false
    none_step None true h n e f = cc
    none_step None false h n e f = f refl
    none_step (Some m) t h n e f = cc

-- behind the end of the last there is no further one
end_is_last : (k : Kind) (bs : List Block) (n : ℕ) → end_of_last k bs ≡ Some n → records k (drop n bs) ≡ []
end_is_last k [] n e = cc
end_is_last k (b ∷ bs) n e = last_step (end_of_last k bs) (is_of k b) n e (λ m f. end_is_last k bs m f) (λ f. has_none k (drop (tail_len bs) bs) (has_drop k (tail_len bs) bs (end_none k bs f)))
  where
    last_step : (o : Option ℕ) (t : Bool) (n : ℕ) → option_or (option_map suc o) (cond t (Some (suc (tail_len bs))) None) ≡ Some n → ((m : ℕ) → o ≡ Some m → records k (drop m bs) ≡ []) → (o ≡ None → records k (drop (tail_len bs) bs) ≡ []) → records k (drop n (b ∷ bs)) ≡ []
    last_step None true n e f g = let q : suc (tail_len bs) ≡ n = cc in rw (← q) (g refl)
    last_step None false n e f g = cc
    last_step (Some m) t n e f g = let q : suc m ≡ n = cc in rw (← q) (f m refl)

first_is : (k : Kind) (bs : List Block) (o : Option ℕ) → records k (drop (unwrap_or (option_or (end_of_last k bs) o) 1) bs) ≡ []
first_is k bs o = first_step (end_of_last k bs) (λ n e. end_is_last k bs n e) (λ e. has_drop_all e)
  where
    has_drop_all : end_of_last k bs ≡ None → (n : ℕ) → records k (drop n bs) ≡ []
    has_drop_all e n = has_none k (drop n bs) (has_drop k n bs (end_none k bs e))

    first_step : (p : Option ℕ) → ((n : ℕ) → p ≡ Some n → records k (drop n bs) ≡ []) → (p ≡ None → (n : ℕ) → records k (drop n bs) ≡ []) → records k (drop (unwrap_or (option_or p o) 1) bs) ≡ []
    first_step None f g = g refl _
    first_step (Some n) f g = f n refl

pub none_behind : (k : Kind) (bs : List Block) → records k (drop (new_place k bs) bs) ≡ []
none_behind Group bs = first_is Group bs _
none_behind Param bs = first_is Param bs _
none_behind Request bs = first_is Request bs _
none_behind Entity bs = first_is Entity bs _
none_behind Constraint bs = first_is Constraint bs _
none_behind Style bs = first_is Style bs _

-- new records are the last of their kind
pub added_same : (k : Kind) (rs : List Rec) (bs : List Block) → AllOf k rs → records k (add_records k rs bs) ≡ records k bs ++ rows_of rs
added_same k rs bs all =
    let n : ℕ = new_place k bs in
    let front_all : records k (take n bs) ≡ records k bs = sym (append-nil (records k (take n bs))) ∙ ap (λ l. records k (take n bs) ++ l) (sym (none_behind k bs)) ∙ split_none k n bs in
    records_put k n (with_tails rs) bs ∙ rw (records_tails_same k rs all, none_behind k bs, front_all, append-nil) refl

-- the law: records that are made anew are the given ones, and those of other kinds stay
pub anew_same : (k : Kind) (rs : List Rec) (bs : List Block) → AllOf k rs → records k (made_anew k rs bs) ≡ rows_of rs
anew_same k rs bs all = elim (two (has k bs)) [
  | inl e ↦ rw e (simp records-append (rw (has_none k (before_kind k bs) (has_front k bs), records_tails_same k rs all, has_none k (without k false (from_kind k bs)) (has_without k false (from_kind k bs)), append-nil) refl))
  | inr e ↦ rw e (added_same k rs bs all ∙ rw (has_none k bs e) refl)
]

pub anew_other : (k j : Kind) → same_kind k j ≡ false → (rs : List Rec) (bs : List Block) → AllOf k rs → records j (made_anew k rs bs) ≡ records j bs
anew_other k j apart rs bs all = elim (two (has k bs)) [
  | inl e ↦ rw e (simp records-append (rw (records_tails_other k j apart rs all, records_without k j apart false (from_kind k bs)) (sym (records-append j (before_kind k bs) (from_kind k bs)) ∙ ap (records j) (before-from k bs))))
  | inr e ↦ rw e (added_other k j apart rs bs all)
]

-- the law: a record is changed in its place, and the others stay
pub changed_same : (k : Kind) (i : ℕ) (f : List Row → List Row) (bs : List Block) → records k (on_record k i f bs) ≡ changed_at f i (records k bs)
changed_same k i f [] = refl
changed_same k zero f (Loose r ∷ bs) = changed_same k zero f bs
changed_same k (suc i) f (Loose r ∷ bs) = changed_same k (suc i) f bs
changed_same k zero f (Record r ∷ bs) = elim (two (same_kind r.kind k)) [ inl e ↦ rw (e, e) refl | inr e ↦ rw (e, e) (changed_same k zero f bs) ]
changed_same k (suc i) f (Record r ∷ bs) = elim (two (same_kind r.kind k)) [ inl e ↦ rw (e, e) (ap (λ l. r.rows ∷ l) (changed_same k i f bs)) | inr e ↦ rw (e, e) (changed_same k (suc i) f bs) ]

changed_none : (j : Kind) (f : List Row → List Row) (b : Block) → of_kind j b ≡ [] → of_kind j (with_rows f b) ≡ []
changed_none j f (Loose r) e = refl
changed_none j f (Record r) e = elim (two (same_kind r.kind j)) [ inl h ↦ (let g = rw h at e in cc g) | inr h ↦ rw h refl ]

pub changed_other : (k j : Kind) → same_kind k j ≡ false → (i : ℕ) (f : List Row → List Row) (bs : List Block) → records j (on_record k i f bs) ≡ records j bs
changed_other k j apart i f [] = refl
changed_other k j apart zero f (b ∷ bs) = elim (two (is_of k b)) [
  | inl e ↦ rw (e, changed_none j f b (other k j apart b e), other k j apart b e) refl
  | inr e ↦ rw e (ap (λ l. of_kind j b ++ l) (changed_other k j apart zero f bs))
]
changed_other k j apart (suc i) f (b ∷ bs) = elim (two (is_of k b)) [
  | inl e ↦ rw e (ap (λ l. of_kind j b ++ l) (changed_other k j apart i f bs))
  | inr e ↦ rw e (ap (λ l. of_kind j b ++ l) (changed_other k j apart (suc i) f bs))
]

-- a tail is of no kind
tail_gone : (j : Kind) (bs : List Block) → records j (drop (tail_len bs) bs) ≡ records j bs
tail_gone j [] = refl
tail_gone j (b ∷ bs) = elim (two (is_blank b)) [ inl e ↦ rw (e, blank_none j b e) refl | inr e ↦ rw e refl ]

-- the law: a record goes from its place, and the others stay
pub dropped_same : (k : Kind) (i : ℕ) (bs : List Block) → records k (dropped k i bs) ≡ removed_at i (records k bs)
dropped_same k i [] = refl
dropped_same k zero (Loose r ∷ bs) = dropped_same k zero bs
dropped_same k (suc i) (Loose r ∷ bs) = dropped_same k (suc i) bs
dropped_same k zero (Record r ∷ bs) = elim (two (same_kind r.kind k)) [ inl e ↦ rw e (tail_gone k bs) | inr e ↦ rw (e, e) (dropped_same k zero bs) ]
dropped_same k (suc i) (Record r ∷ bs) = elim (two (same_kind r.kind k)) [ inl e ↦ rw (e, e) (ap (λ l. r.rows ∷ l) (dropped_same k i bs)) | inr e ↦ rw (e, e) (dropped_same k (suc i) bs) ]

pub dropped_other : (k j : Kind) → same_kind k j ≡ false → (i : ℕ) (bs : List Block) → records j (dropped k i bs) ≡ records j bs
dropped_other k j apart i [] = refl
dropped_other k j apart zero (b ∷ bs) = elim (two (is_of k b)) [
  | inl e ↦ rw (e, other k j apart b e) (tail_gone j bs)
  | inr e ↦ rw e (ap (λ l. of_kind j b ++ l) (dropped_other k j apart zero bs))
]
dropped_other k j apart (suc i) (b ∷ bs) = elim (two (is_of k b)) [
  | inl e ↦ rw e (ap (λ l. of_kind j b ++ l) (dropped_other k j apart i bs))
  | inr e ↦ rw e (ap (λ l. of_kind j b ++ l) (dropped_other k j apart (suc i) bs))
]

-- the law: the records of a kind are changed, each by itself
pub mapped_same : (k : Kind) (f : List Row → List Row) (bs : List Block) → records k (on_records k f bs) ≡ map f (records k bs)
mapped_same k f [] = refl
mapped_same k f (Loose r ∷ bs) = mapped_same k f bs
mapped_same k f (Record r ∷ bs) = elim (two (same_kind r.kind k)) [ inl e ↦ rw (e, e) (ap (λ l. f r.rows ∷ l) (mapped_same k f bs)) | inr e ↦ rw (e, e) (mapped_same k f bs) ]

mapped_none : (k j : Kind) (f : List Row → List Row) → same_kind k j ≡ false → (b : Block) → of_kind j (on_block k f b) ≡ of_kind j b
mapped_none k j f apart (Loose r) = refl
mapped_none k j f apart (Record r) = elim (two (same_kind r.kind k)) [
  | inl e ↦ rw e (changed_none j f (Record r) (other k j apart (Record r) e) ∙ sym (other k j apart (Record r) e))
  | inr e ↦ rw e refl
]

pub mapped_other : (k j : Kind) (f : List Row → List Row) → same_kind k j ≡ false → (bs : List Block) → records j (on_records k f bs) ≡ records j bs
mapped_other k j f apart [] = refl
mapped_other k j f apart (b ∷ bs) = rw (mapped_none k j f apart b) (ap (λ l. of_kind j b ++ l) (mapped_other k j f apart bs))

-- the law: where no record changes, the text doesn't
pub mapped_kept : (k : Kind) (f : List Row → List Row) (bs : List Block) → AllSame f (records k bs) → on_records k f bs ≡ bs
mapped_kept k f [] all = refl
mapped_kept k f (Loose r ∷ bs) all = ap (λ l. Loose r ∷ l) (mapped_kept k f bs all)
mapped_kept k f (Record r ∷ bs) all = kept (same_kind r.kind k) all (λ more. mapped_kept k f bs more)
  where
    kept : (t : Bool) → AllSame f (cond t (r.rows ∷ []) [] ++ records k bs) → (AllSame f (records k bs) → on_records k f bs ≡ bs) → cond t (Record (record { kind = r.kind; rows = f r.rows; close = r.close })) (Record r) ∷ on_records k f bs ≡ Record r ∷ bs
    kept true all go = rw all.0 (ap (λ l. Record r ∷ l) (go all.1))
    kept false all go = ap (λ l. Record r ∷ l) (go all)
