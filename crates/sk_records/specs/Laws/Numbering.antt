-- Each change of a text does the same where its lines are numbered otherwise.
use Rattle.std.proofs.Common.{◌≡◌, inl, inr, ℕ, zero, suc, List, [], ◌∷◌, ◌++◌, map, take, drop, false, Option, refl, sym, ap, ◌∙◌, Result, Ok, Err}
use Rattle.std.specs.Prelude.{unwrap_or}
use Rattle.std.specs.List.{filter}
use Rattle.sk_text.specs.Lines.{TextLine, lines_in}
use Rattle.sk_records.specs.declared.kinds.Kind.{Kind}
use Rattle.sk_records.specs.declared.kinds.Kind.TheVariants.{Group, Param, Request, Entity, Constraint, Style}
use Rattle.sk_records.specs.declared.faults.ReadFault.{ReadFault}
use Rattle.sk_records.specs.Kinds.{same_kind}
use Rattle.sk_records.specs.Rows.{Row, last_value, value_in, is_known, is_plain, is_plain_role, with_value, with_map}
use Rattle.sk_records.specs.Blocks.{Block, Rec, Loose, Record, is_of, has, tail_len, end_of_last, first_end, new_place, ended, ended_last, feed_line, put_at, before_kind, from_kind, without, with_tails, with_rows, add_records, made_anew, on_record, on_records, on_block, dropped}
use Rattle.sk_records.specs.ChangeLists.{Change, all_changed, change_place, change_rows}
use Rattle.sk_records.specs.Written.{bare_row, bare_rows, bare_rec, bare_block, bare}
use Rattle.sk_records.specs.Given.{list_row, given_list, recs_of, recs_read, read_given, given_records}
use Rattle.sk_records.specs.Laws.Statements.{Forgets, AllForget}
use Rattle.sk_records.specs.Laws.MadeAnew.{two}
use Rattle.sk_records.specs.Laws.Numbers.{of_same, blank_same, has_same, bare-append, bare_front, bare_rest, bare_without, value_bare}

-- ---- the lines of a record

pub value_forgets : (key value : List ℕ) → Forgets (with_value key value)
value_forgets key value [] = refl
value_forgets key value (r ∷ rs) = rw (value_bare key rs) (elim (two (is_known (last_value key rs))) [
  | inl e ↦ rw e (ap (λ l. bare_row r ∷ l) (value_forgets key value rs))
  | inr e ↦ rw e (elim (two (is_known (value_in key r))) [
    | inl f ↦ rw f refl
    | inr f ↦ rw f (ap (λ l. bare_row r ∷ l) (value_forgets key value rs))
  ])
])

bare_rows-append : (a b : List Row) → bare_rows (a ++ b) ≡ bare_rows a ++ bare_rows b
bare_rows-append [] b = refl
bare_rows-append (r ∷ a) b = ap (λ l. bare_row r ∷ l) (bare_rows-append a b)

plain_forgets : (rows : List Row) → bare_rows (filter is_plain rows) ≡ filter is_plain (bare_rows rows)
plain_forgets [] = refl
plain_forgets (r ∷ rs) = elim (two (is_plain_role r.role)) [ inl e ↦ rw e (ap (λ l. bare_row r ∷ l) (plain_forgets rs)) | inr e ↦ rw e (plain_forgets rs) ]

pub map_forgets : (new : List Row) → bare_rows new ≡ new → Forgets (with_map new)
map_forgets new is [] = is
map_forgets new is (r ∷ rs) = elim (two (is_plain_role r.role)) [
  | inl e ↦ rw e (ap (λ l. bare_row r ∷ l) (map_forgets new is rs))
  | inr e ↦ rw e (bare_rows-append new (filter is_plain rs) ∙ ap (λ l. l ++ bare_rows (filter is_plain rs)) is ∙ ap (λ l. new ++ l) (plain_forgets rs))
]

list_rows_bare : (ls : List TextLine) → bare_rows (map list_row ls) ≡ map list_row ls
list_rows_bare [] = refl
list_rows_bare (l ∷ ls) = ap (λ x. list_row l ∷ x) (list_rows_bare ls)

pub list_bare : (lines : List ℕ) → bare_rows (given_list lines) ≡ given_list lines
list_bare lines = list_rows_bare (lines_in lines)

-- ---- records that are given

rows_twice : (rows : List Row) → bare_rows (bare_rows rows) ≡ bare_rows rows
rows_twice [] = refl
rows_twice (r ∷ rs) = ap (λ l. bare_row r ∷ l) (rows_twice rs)

recs_twice : (bs : List Block) → map bare_rec (recs_of (bare bs)) ≡ recs_of (bare bs)
recs_twice [] = refl
recs_twice (Loose l ∷ bs) = recs_twice bs
recs_twice (Record r ∷ bs) =
    ap (λ (rows : List Row). record { kind = r.kind; rows = rows; close = r.close } ∷ map bare_rec (recs_of (bare bs))) (rows_twice r.rows)
    ∙ ap (λ (l : List Rec). bare_rec r ∷ l) (recs_twice bs)

pub given_bare : (lines : List ℕ) → map bare_rec (given_records lines) ≡ given_records lines
given_bare lines = by_read (read_given lines)
  where
    by_read : (r : Result (List Block) ReadFault) → map bare_rec (recs_read r) ≡ recs_read r
    by_read (Ok bs) = recs_twice bs
    by_read (Err e) = refl

-- ---- records that are changed

rows_forget : (f : List Row → List Row) → Forgets f → (b : Block) → bare_block (with_rows f b) ≡ with_rows f (bare_block b)
rows_forget f is (Loose l) = refl
rows_forget f is (Record r) = ap (λ (rows : List Row). Record (record { kind = r.kind; rows = rows; close = r.close })) (is r.rows)

pub bare_changed : (k : Kind) (i : ℕ) (f : List Row → List Row) (bs : List Block) → Forgets f → bare (on_record k i f bs) ≡ on_record k i f (bare bs)
bare_changed k i f [] is = refl
bare_changed k zero f (b ∷ bs) is = rw (of_same k b) (elim (two (is_of k b)) [
  | inl e ↦ rw e (ap (λ x. x ∷ bare bs) (rows_forget f is b))
  | inr e ↦ rw e (ap (λ l. bare_block b ∷ l) (bare_changed k zero f bs is))
])
bare_changed k (suc i) f (b ∷ bs) is = rw (of_same k b) (elim (two (is_of k b)) [
  | inl e ↦ rw e (ap (λ l. bare_block b ∷ l) (bare_changed k i f bs is))
  | inr e ↦ rw e (ap (λ l. bare_block b ∷ l) (bare_changed k (suc i) f bs is))
])

pub bare_all_changed : (k : Kind) (cs : List Change) (bs : List Block) → AllForget cs → bare (all_changed k cs bs) ≡ all_changed k cs (bare bs)
bare_all_changed k [] bs all = refl
bare_all_changed k (c ∷ cs) bs all = bare_all_changed k cs (on_record k (change_place c) (change_rows c) bs) all.1 ∙ ap (all_changed k cs) (bare_changed k (change_place c) (change_rows c) bs all.0)

block_passed : (k : Kind) (f : List Row → List Row) → Forgets f → (b : Block) → bare_block (on_block k f b) ≡ on_block k f (bare_block b)
block_passed k f is (Loose l) = refl
block_passed k f is (Record r) = elim (two (same_kind r.kind k)) [
  | inl e ↦ rw e (ap (λ (rows : List Row). Record (record { kind = r.kind; rows = rows; close = r.close })) (is r.rows))
  | inr e ↦ rw e refl
]

pub bare_passed : (k : Kind) (f : List Row → List Row) (bs : List Block) → Forgets f → bare (on_records k f bs) ≡ on_records k f (bare bs)
bare_passed k f [] is = refl
bare_passed k f (b ∷ bs) is = rw (block_passed k f is b, bare_passed k f bs is) refl

-- ---- records that are put

tail_bare : (bs : List Block) → tail_len (bare bs) ≡ tail_len bs
tail_bare [] = refl
tail_bare (b ∷ bs) = rw (blank_same b) refl

end_bare : (k : Kind) (bs : List Block) → end_of_last k (bare bs) ≡ end_of_last k bs
end_bare k [] = refl
end_bare k (b ∷ bs) = rw (of_same k b, end_bare k bs, tail_bare bs) refl

first_bare : (ks : List Kind) (bs : List Block) → first_end ks (bare bs) ≡ first_end ks bs
first_bare [] bs = refl
first_bare (k ∷ ks) bs = rw (end_bare k bs, first_bare ks bs) refl

place_bare : (k : Kind) (bs : List Block) → new_place k (bare bs) ≡ new_place k bs
place_bare Group bs = ap (λ (o : Option ℕ). unwrap_or o 1) (first_bare (Group ∷ []) bs)
place_bare Param bs = ap (λ (o : Option ℕ). unwrap_or o 1) (first_bare (Param ∷ Group ∷ []) bs)
place_bare Request bs = ap (λ (o : Option ℕ). unwrap_or o 1) (first_bare (Request ∷ Param ∷ Group ∷ []) bs)
place_bare Entity bs = ap (λ (o : Option ℕ). unwrap_or o 1) (first_bare (Entity ∷ Request ∷ Param ∷ Group ∷ []) bs)
place_bare Constraint bs = ap (λ (o : Option ℕ). unwrap_or o 1) (first_bare (Constraint ∷ Entity ∷ Request ∷ Param ∷ Group ∷ []) bs)
place_bare Style bs = ap (λ (o : Option ℕ). unwrap_or o 1) (first_bare (Style ∷ Constraint ∷ Entity ∷ Request ∷ Param ∷ Group ∷ []) bs)

bare_take : (n : ℕ) (bs : List Block) → bare (take n bs) ≡ take n (bare bs)
bare_take zero bs = refl
bare_take (suc n) [] = refl
bare_take (suc n) (b ∷ bs) = ap (λ l. bare_block b ∷ l) (bare_take n bs)

bare_drop : (n : ℕ) (bs : List Block) → bare (drop n bs) ≡ drop n (bare bs)
bare_drop zero bs = refl
bare_drop (suc n) [] = refl
bare_drop (suc n) (b ∷ bs) = bare_drop n bs

ended_bare : (b : Block) → bare_block (ended b) ≡ ended (bare_block b)
ended_bare (Loose l) = refl
ended_bare (Record r) = refl

bare_ended : (bs : List Block) → bare (ended_last bs) ≡ ended_last (bare bs)
bare_ended [] = refl
bare_ended (b ∷ []) = rw (ended_bare b) refl
bare_ended (b ∷ (c ∷ cs)) = ap (λ l. bare_block b ∷ l) (bare_ended (c ∷ cs))

bare_tails : (rs : List Rec) → bare (with_tails rs) ≡ with_tails (map bare_rec rs)
bare_tails [] = refl
bare_tails (r ∷ rs) = ap (λ (l : List Block). Record (bare_rec r) ∷ Loose feed_line ∷ l) (bare_tails rs)

bare_put : (n : ℕ) (new bs : List Block) → bare (put_at n new bs) ≡ put_at n (bare new) (bare bs)
bare_put n [] bs = refl
bare_put n (b ∷ new) bs =
    bare-append (ended_last (take n bs)) (b ∷ new ++ drop n bs)
    ∙ ap (λ (l : List Block). l ++ bare (b ∷ new ++ drop n bs)) (bare_ended (take n bs) ∙ ap ended_last (bare_take n bs))
    ∙ ap (λ (l : List Block). ended_last (take n (bare bs)) ++ (bare_block b ∷ l)) (bare-append new (drop n bs) ∙ ap (λ (l : List Block). bare new ++ l) (bare_drop n bs))

pub bare_added : (k : Kind) (rs : List Rec) (bs : List Block) → bare (add_records k rs bs) ≡ add_records k (map bare_rec rs) (bare bs)
bare_added k rs bs =
    bare_put (new_place k bs) (with_tails rs) bs
    ∙ ap (λ (l : List Block). put_at (new_place k bs) l (bare bs)) (bare_tails rs)
    ∙ ap (λ (n : ℕ). put_at n (with_tails (map bare_rec rs)) (bare bs)) (sym (place_bare k bs))

pub bare_anew : (k : Kind) (rs : List Rec) (bs : List Block) → bare (made_anew k rs bs) ≡ made_anew k (map bare_rec rs) (bare bs)
bare_anew k rs bs = rw (has_same k bs) (elim (two (has k bs)) [
  | inl e ↦ rw e (
      bare-append (before_kind k bs) (with_tails rs ++ without k false (from_kind k bs))
      ∙ ap (λ (l : List Block). bare (before_kind k bs) ++ l) (bare-append (with_tails rs) (without k false (from_kind k bs)))
      ∙ rw (bare_front k bs, bare_tails rs, bare_without k false (from_kind k bs), bare_rest k bs) refl)
  | inr e ↦ rw e (bare_added k rs bs)
])

-- ---- records that go

pub bare_dropped : (k : Kind) (i : ℕ) (bs : List Block) → bare (dropped k i bs) ≡ dropped k i (bare bs)
bare_dropped k i [] = refl
bare_dropped k zero (b ∷ bs) = rw (of_same k b) (elim (two (is_of k b)) [
  | inl e ↦ rw e (bare_drop (tail_len bs) bs ∙ ap (λ (n : ℕ). drop n (bare bs)) (sym (tail_bare bs)))
  | inr e ↦ rw e (ap (λ l. bare_block b ∷ l) (bare_dropped k zero bs))
])
bare_dropped k (suc i) (b ∷ bs) = rw (of_same k b) (elim (two (is_of k b)) [
  | inl e ↦ rw e (ap (λ l. bare_block b ∷ l) (bare_dropped k i bs))
  | inr e ↦ rw e (ap (λ l. bare_block b ∷ l) (bare_dropped k (suc i) bs))
])
