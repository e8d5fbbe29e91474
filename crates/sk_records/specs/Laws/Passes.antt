-- Changes one after the other are one pass over the records.
use Rattle.std.proofs.Common.{◌≡◌, inl, inr, ℕ, zero, suc, List, [], ◌∷◌, refl, ap, sym, true, false, Bool}
use Rattle.sk_records.specs.declared.kinds.Kind.{Kind}
use Rattle.sk_records.specs.Kinds.{same_kind}
use Rattle.sk_records.specs.Rows.{Row}
use Rattle.sk_records.specs.Blocks.{Block, Loose, Record, records, on_record, on_records, on_block}
use Rattle.sk_records.specs.Laws.MadeAnew.{two}
use Rattle.sk_records.specs.Laws.Statements.{AllSame, where_it, NoneOf, Only}
use Rattle.sk_records.specs.Laws.RecordsAfter.{mapped_kept}

block_then : (k : Kind) (f g : List Row → List Row) (b : Block) → on_block k f (on_block k g b) ≡ on_block k (λ (rows : List Row). f (g rows)) b
block_then k f g (Loose l) = refl
block_then k f g (Record r) = elim (two (same_kind r.kind k)) [ inl e ↦ rw (e, e) refl | inr e ↦ rw (e, e) refl ]

-- two passes are one
pub pass_then : (k : Kind) (f g : List Row → List Row) (bs : List Block) → on_records k f (on_records k g bs) ≡ on_records k (λ (rows : List Row). f (g rows)) bs
pass_then k f g [] = refl
pass_then k f g (b ∷ bs) = rw (block_then k f g b, pass_then k f g bs) refl

none_same : (t : List Row → Bool) (f : List Row → List Row) (rs : List (List Row)) → NoneOf t rs → AllSame (where_it t f) rs
none_same t f [] none = tt
none_same t f (r ∷ rs) none = (rw none.0 refl, none_same t f rs none.1)

-- a change of one record is a pass over all, with a test that holds of it alone
pub pass_at : (k : Kind) (t : List Row → Bool) (i : ℕ) (f : List Row → List Row) (bs : List Block) → Only t i (records k bs) → on_record k i f bs ≡ on_records k (where_it t f) bs
pass_at k t i f [] only = absurd only
pass_at k t zero f (Loose r ∷ bs) only = ap (λ l. Loose r ∷ l) (pass_at k t zero f bs only)
pass_at k t (suc i) f (Loose r ∷ bs) only = ap (λ l. Loose r ∷ l) (pass_at k t (suc i) f bs only)
pass_at k t zero f (Record r ∷ bs) only = elim (two (same_kind r.kind k)) [
  | inl e ↦ (let o : (t r.rows ≡ true) × NoneOf t (records k bs) = rw e at only in
      rw (e, o.0) (ap (λ l. Record (record { kind = r.kind; rows = f r.rows; close = r.close }) ∷ l) (sym (mapped_kept k (where_it t f) bs (none_same t f (records k bs) o.1)))))
  | inr e ↦ (let o : Only t zero (records k bs) = rw e at only in rw e (ap (λ l. Record r ∷ l) (pass_at k t zero f bs o)))
]
pass_at k t (suc i) f (Record r ∷ bs) only = elim (two (same_kind r.kind k)) [
  | inl e ↦ (let o : (t r.rows ≡ false) × Only t i (records k bs) = rw e at only in
      rw (e, o.0) (ap (λ l. Record r ∷ l) (pass_at k t i f bs o.1)))
  | inr e ↦ (let o : Only t (suc i) (records k bs) = rw e at only in rw e (ap (λ l. Record r ∷ l) (pass_at k t (suc i) f bs o)))
]
