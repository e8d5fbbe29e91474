-- Records that are added in one list, and records that are changed where others are added.
use Rattle.std.proofs.Common.{◌≡◌, inl, inr, ℕ, zero, suc, ◌+◌, ◌<◌, List, [], ◌∷◌, ◌++◌, take, drop, length, true, false, Option, Some, None, refl, sym, ap, ◌∙◌, subst, arith, append_assoc, append-nil}
use Rattle.std.specs.Prelude.{unwrap_or}
use Rattle.sk_records.specs.declared.kinds.Kind.{Kind}
use Rattle.sk_records.specs.declared.kinds.Kind.TheVariants.{Group, Param, Request, Entity, Constraint, Style}
use Rattle.sk_records.specs.Kinds.{same_kind}
use Rattle.sk_records.specs.Rows.{Row}
use Rattle.sk_records.specs.Blocks.{Block, Rec, Loose, Record, is_of, records, has, tail_len, end_of_last, first_end, new_place, feed_line, ended_last, put_at, with_tails, on_record, add_records, AllOf}
use Rattle.sk_records.specs.Laws.MadeAnew.{two}
use Rattle.sk_records.specs.Laws.RecordsAfter.{records_ended, none_behind, split_none}

-- where no record of the kind is
none_has : (k : Kind) (bs : List Block) → records k bs ≡ [] → has k bs ≡ false
none_has k [] e = refl
none_has k (Loose l ∷ bs) e = none_has k bs e
none_has k (Record r ∷ bs) e = elim (two (same_kind r.kind k)) [
  | inl t ↦ (let no : (r.rows ∷ records k bs) ≡ [] = rw t at e in cc no)
  | inr f ↦ rw f (none_has k bs (rw f at e))
]

none_end : (k : Kind) (bs : List Block) → has k bs ≡ false → end_of_last k bs ≡ None
none_end k [] e = refl
none_end k (b ∷ bs) e = elim (two (is_of k b)) [
  | inl t ↦ (let no : true ≡ false = rw t at e in cc no)
  | inr f ↦ rw (none_end k bs (rw f at e), f) refl
]

module _ (k : Kind) (r : Rec) (is : same_kind r.kind k ≡ true) (c : List Block) (none : has k c ≡ false) where
  end_at : (a : List Block) → end_of_last k (a ++ (Record r ∷ (Loose feed_line ∷ c))) ≡ Some (length a + 2)
  end_at [] = rw (none_end k c none, is) refl
  end_at (b ∷ a) = rw (end_at a) (ap Some (omega arith))

place_at : (k : Kind) (n : ℕ) (bs : List Block) → end_of_last k bs ≡ Some n → new_place k bs ≡ n
place_at Group n bs e = rw e refl
place_at Param n bs e = rw e refl
place_at Request n bs e = rw e refl
place_at Entity n bs e = rw e refl
place_at Constraint n bs e = rw e refl
place_at Style n bs e = rw e refl

two_more : (n : ℕ) → suc n + 2 ≡ suc (n + 2)
two_more n = omega arith

module _ (x y : Block) (c : List Block) where
  take_at : (a : List Block) → take (length a + 2) (a ++ (x ∷ (y ∷ c))) ≡ a ++ (x ∷ (y ∷ []))
  take_at [] = refl
  take_at (b ∷ a) = rw (two_more (length a)) (ap (λ l. b ∷ l) (take_at a))

  drop_at : (a : List Block) → drop (length a + 2) (a ++ (x ∷ (y ∷ c))) ≡ c
  drop_at [] = refl
  drop_at (b ∷ a) = rw (two_more (length a)) (drop_at a)

ended_at : (r : Rec) (a : List Block) → ended_last (a ++ (Record r ∷ (Loose feed_line ∷ []))) ≡ a ++ (Record r ∷ (Loose feed_line ∷ []))
ended_at r [] = refl
ended_at r (b ∷ []) = refl
ended_at r (b ∷ (d ∷ ds)) = ap (λ l. b ∷ l) (ended_at r (d ∷ ds))

module _ (k : Kind) (r : Rec) (is : same_kind r.kind k ≡ true) (bs : List Block) where
  abbrev front : List Block
  front = ended_last (take (new_place k bs) bs)

  abbrev back : List Block
  back = drop (new_place k bs) bs

  next_place : new_place k (front ++ (Record r ∷ (Loose feed_line ∷ back))) ≡ length front + 2
  next_place = place_at k (length front + 2) (front ++ (Record r ∷ (Loose feed_line ∷ back))) (end_at k r is back (none_has k back (none_behind k bs)) front)

  -- a record, and then others
  then_more : (rs : List Rec) → add_records k rs (add_records k (r ∷ []) bs) ≡ add_records k (r ∷ rs) bs
  then_more [] = refl
  then_more (q ∷ qs) =
      ap (λ (n : ℕ). put_at n (with_tails (q ∷ qs)) (front ++ (Record r ∷ (Loose feed_line ∷ back)))) next_place
      ∙ ap (λ (l : List Block). ended_last l ++ (with_tails (q ∷ qs) ++ drop (length front + 2) (front ++ (Record r ∷ (Loose feed_line ∷ back))))) (take_at (Record r) (Loose feed_line) back front)
      ∙ ap (λ (l : List Block). l ++ (with_tails (q ∷ qs) ++ drop (length front + 2) (front ++ (Record r ∷ (Loose feed_line ∷ back))))) (ended_at r front)
      ∙ ap (λ (l : List Block). (front ++ (Record r ∷ (Loose feed_line ∷ []))) ++ (with_tails (q ∷ qs) ++ l)) (drop_at (Record r) (Loose feed_line) back front)
      ∙ append_assoc front (Record r ∷ (Loose feed_line ∷ [])) (with_tails (q ∷ qs) ++ back)

pub added_then : (k : Kind) (r : Rec) (rs : List Rec) (bs : List Block) → AllOf k (r ∷ rs) → add_records k rs (add_records k (r ∷ []) bs) ≡ add_records k (r ∷ rs) bs
added_then k r rs bs all = then_more k r all.0 bs rs

all-append : (k : Kind) (rs qs : List Rec) → AllOf k rs → AllOf k qs → AllOf k (rs ++ qs)
all-append k [] qs a b = b
all-append k (r ∷ rs) qs a b = (a.0, all-append k rs qs a.1 b)

-- records, and then others
pub added_joined : (k : Kind) (rs qs : List Rec) (bs : List Block) → AllOf k rs → AllOf k qs → add_records k qs (add_records k rs bs) ≡ add_records k (rs ++ qs) bs
added_joined k [] qs bs a b = refl
added_joined k (r ∷ rs) qs bs a b =
    ap (add_records k qs) (sym (added_then k r rs bs a))
    ∙ added_joined k rs qs (add_records k (r ∷ []) bs) a.1 b
    ∙ added_then k r (rs ++ qs) bs (a.0, all-append k rs qs a.1 b)

-- ---- a record is changed, and others are added

module _ (k : Kind) (f : List Row → List Row) where
  tail_same : (i : ℕ) (bs : List Block) → tail_len (on_record k i f bs) ≡ tail_len bs
  tail_same i [] = refl
  tail_same zero (Loose l ∷ bs) = refl
  tail_same (suc i) (Loose l ∷ bs) = refl
  tail_same zero (Record r ∷ bs) = elim (two (same_kind r.kind k)) [ inl e ↦ rw e refl | inr e ↦ rw e refl ]
  tail_same (suc i) (Record r ∷ bs) = elim (two (same_kind r.kind k)) [ inl e ↦ rw e refl | inr e ↦ rw e refl ]

  end_same : (j : Kind) (i : ℕ) (bs : List Block) → end_of_last j (on_record k i f bs) ≡ end_of_last j bs
  end_same j i [] = refl
  end_same j zero (Loose l ∷ bs) = rw (end_same j zero bs) refl
  end_same j (suc i) (Loose l ∷ bs) = rw (end_same j (suc i) bs) refl
  end_same j zero (Record r ∷ bs) = elim (two (same_kind r.kind k)) [
    | inl e ↦ rw e refl
    | inr e ↦ rw e (rw (end_same j zero bs, tail_same zero bs) refl)
  ]
  end_same j (suc i) (Record r ∷ bs) = elim (two (same_kind r.kind k)) [
    | inl e ↦ rw e (rw (end_same j i bs, tail_same i bs) refl)
    | inr e ↦ rw e (rw (end_same j (suc i) bs, tail_same (suc i) bs) refl)
  ]

  first_same : (js : List Kind) (i : ℕ) (bs : List Block) → first_end js (on_record k i f bs) ≡ first_end js bs
  first_same [] i bs = refl
  first_same (j ∷ js) i bs = rw (end_same j i bs, first_same js i bs) refl

  take_changed : (n i : ℕ) (bs : List Block) → take n (on_record k i f bs) ≡ on_record k i f (take n bs)
  take_changed zero i bs = refl
  take_changed (suc n) i [] = refl
  take_changed (suc n) zero (b ∷ bs) = elim (two (is_of k b)) [ inl e ↦ rw e refl | inr e ↦ rw e (ap (λ l. b ∷ l) (take_changed n zero bs)) ]
  take_changed (suc n) (suc i) (b ∷ bs) = elim (two (is_of k b)) [
    | inl e ↦ rw e (ap (λ l. b ∷ l) (take_changed n i bs))
    | inr e ↦ rw e (ap (λ l. b ∷ l) (take_changed n (suc i) bs))
  ]

  drop_changed : (n i : ℕ) (bs : List Block) → i < length (records k (take n bs)) → drop n (on_record k i f bs) ≡ drop n bs
  drop_changed zero i bs l = absurd (omega arith)
  drop_changed (suc n) i [] l = refl
  drop_changed (suc n) zero (Loose t ∷ bs) l = drop_changed n zero bs l
  drop_changed (suc n) (suc i) (Loose t ∷ bs) l = drop_changed n (suc i) bs l
  drop_changed (suc n) zero (Record r ∷ bs) l = elim (two (same_kind r.kind k)) [
    | inl e ↦ rw e refl
    | inr e ↦ rw e (drop_changed n zero bs (rw e at l))
  ]
  drop_changed (suc n) (suc i) (Record r ∷ bs) l = elim (two (same_kind r.kind k)) [
    | inl e ↦ (let m : suc i < suc (length (records k (take n bs))) = rw e at l in rw e (drop_changed n i bs (omega (arith, m))))
    | inr e ↦ rw e (drop_changed n (suc i) bs (rw e at l))
  ]

  append_changed : (i : ℕ) (a c : List Block) → i < length (records k a) → on_record k i f (a ++ c) ≡ on_record k i f a ++ c
  append_changed i [] c l = absurd (omega arith)
  append_changed zero (Loose t ∷ a) c l = ap (λ x. Loose t ∷ x) (append_changed zero a c l)
  append_changed (suc i) (Loose t ∷ a) c l = ap (λ x. Loose t ∷ x) (append_changed (suc i) a c l)
  append_changed zero (Record r ∷ a) c l = elim (two (same_kind r.kind k)) [
    | inl e ↦ rw e refl
    | inr e ↦ rw e (ap (λ x. Record r ∷ x) (append_changed zero a c (rw e at l)))
  ]
  append_changed (suc i) (Record r ∷ a) c l = elim (two (same_kind r.kind k)) [
    | inl e ↦ (let m : suc i < suc (length (records k a)) = rw e at l in rw e (ap (λ x. Record r ∷ x) (append_changed i a c (omega (arith, m)))))
    | inr e ↦ rw e (ap (λ x. Record r ∷ x) (append_changed (suc i) a c (rw e at l)))
  ]

  -- a block before another one is not the last
  ended_before : (b : Block) (i : ℕ) (c : Block) (cs : List Block) → ended_last (b ∷ on_record k i f (c ∷ cs)) ≡ b ∷ ended_last (on_record k i f (c ∷ cs))
  ended_before b zero c cs = elim (two (is_of k c)) [ inl e ↦ rw e refl | inr e ↦ rw e refl ]
  ended_before b (suc i) c cs = elim (two (is_of k c)) [ inl e ↦ rw e refl | inr e ↦ rw e refl ]

  ended_changed : (i : ℕ) (bs : List Block) → on_record k i f (ended_last bs) ≡ ended_last (on_record k i f bs)
  ended_changed i [] = refl
  ended_changed zero (Loose l ∷ []) = refl
  ended_changed (suc i) (Loose l ∷ []) = refl
  ended_changed zero (Record r ∷ []) = elim (two (same_kind r.kind k)) [ inl e ↦ rw e refl | inr e ↦ rw e refl ]
  ended_changed (suc i) (Record r ∷ []) = elim (two (same_kind r.kind k)) [ inl e ↦ rw e refl | inr e ↦ rw e refl ]
  ended_changed zero (b ∷ (c ∷ cs)) = elim (two (is_of k b)) [
    | inl e ↦ rw e refl
    | inr e ↦ rw e (ap (λ l. b ∷ l) (ended_changed zero (c ∷ cs)) ∙ sym (ended_before b zero c cs))
  ]
  ended_changed (suc i) (b ∷ (c ∷ cs)) = elim (two (is_of k b)) [
    | inl e ↦ rw e (ap (λ l. b ∷ l) (ended_changed i (c ∷ cs)) ∙ sym (ended_before b i c cs))
    | inr e ↦ rw e (ap (λ l. b ∷ l) (ended_changed (suc i) (c ∷ cs)) ∙ sym (ended_before b (suc i) c cs))
  ]

  -- where records are put behind the changed one
  put_changed : (n i : ℕ) (new bs : List Block) → i < length (records k (take n bs)) → on_record k i f (put_at n new bs) ≡ put_at n new (on_record k i f bs)
  put_changed n i [] bs l = refl
  put_changed n i (b ∷ new) bs l =
      append_changed i (ended_last (take n bs)) (b ∷ new ++ drop n bs) (subst (λ (m : ℕ). i < m) (sym (ap length (records_ended k (take n bs)))) l)
      ∙ ap (λ (x : List Block). x ++ (b ∷ new ++ drop n bs)) (ended_changed i (take n bs) ∙ ap ended_last (sym (take_changed n i bs)))
      ∙ ap (λ (x : List Block). ended_last (take n (on_record k i f bs)) ++ (b ∷ new ++ x)) (sym (drop_changed n i bs l))

front_all : (k : Kind) (bs : List Block) → records k (take (new_place k bs) bs) ≡ records k bs
front_all k bs =
    let n : ℕ = new_place k bs in
    sym (append-nil (records k (take n bs))) ∙ ap (λ l. records k (take n bs) ++ l) (sym (none_behind k bs)) ∙ split_none k n bs

pub changed_added : (k : Kind) (i : ℕ) (f : List Row → List Row) (rs : List Rec) (bs : List Block) → i < length (records k bs) → on_record k i f (add_records k rs bs) ≡ add_records k rs (on_record k i f bs)
changed_added k i f rs bs l =
    put_changed k f (new_place k bs) i (with_tails rs) bs (subst (λ (m : ℕ). i < m) (sym (ap length (front_all k bs))) l)
    ∙ ap (λ (n : ℕ). put_at n (with_tails rs) (on_record k i f bs)) (sym (place_same k))
  where
    place_same : (j : Kind) → new_place j (on_record k i f bs) ≡ new_place j bs
    place_same Group = ap (λ (o : Option ℕ). unwrap_or o 1) (first_same k f (Group ∷ []) i bs)
    place_same Param = ap (λ (o : Option ℕ). unwrap_or o 1) (first_same k f (Param ∷ Group ∷ []) i bs)
    place_same Request = ap (λ (o : Option ℕ). unwrap_or o 1) (first_same k f (Request ∷ Param ∷ Group ∷ []) i bs)
    place_same Entity = ap (λ (o : Option ℕ). unwrap_or o 1) (first_same k f (Entity ∷ Request ∷ Param ∷ Group ∷ []) i bs)
    place_same Constraint = ap (λ (o : Option ℕ). unwrap_or o 1) (first_same k f (Constraint ∷ Entity ∷ Request ∷ Param ∷ Group ∷ []) i bs)
    place_same Style = ap (λ (o : Option ℕ). unwrap_or o 1) (first_same k f (Style ∷ Constraint ∷ Entity ∷ Request ∷ Param ∷ Group ∷ []) i bs)
