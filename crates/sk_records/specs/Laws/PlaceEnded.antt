-- The line before a new record may get an end.
use Rattle.std.proofs.Common.{◌≡◌, inl, inr, ℕ, zero, suc, List, [], ◌∷◌, take, refl, cond, true, false, Bool, Option, Some, None, unwrap_or, arith}
use Rattle.std.specs.Option.{option_map, option_or}
use Rattle.sk_text.specs.Lines.{is_empty, IsUnended, AreLines}
use Rattle.sk_records.specs.declared.kinds.Kind.{Kind}
use Rattle.sk_records.specs.Kinds.{kinds_to}
use Rattle.sk_records.specs.Blocks.{Block, Rec, Loose, Record, is_of, is_blank, tail_len, end_of_last, first_end, new_place, with_tails, has, made_anew, add_records, feed_line}
use Rattle.sk_records.specs.Written.{lines_of}
use Rattle.sk_records.specs.Laws.MadeAnew.{two}
use Rattle.sk_records.specs.Laws.Statements.{EndedRecords}
use Rattle.sk_records.specs.Laws.EndsKept.{Mends, last_line, LastMends, ends_put, ends_anew, ends_mended, ends_tails, ends_take}

-- closing lines may get an end
abbrev pub RecordsMend : List Block → Type 0
RecordsMend [] = Unit {0}
RecordsMend (Loose r ∷ bs) = RecordsMend bs
RecordsMend (Record r ∷ bs) = Mends r.close × RecordsMend bs

mend_later : (b : Block) (bs : List Block) → RecordsMend (b ∷ bs) → RecordsMend bs
mend_later (Loose r) bs is = is
mend_later (Record r) bs is = is.1

mend_here : (k : Kind) (b : Block) (bs : List Block) → is_of k b ≡ true → RecordsMend (b ∷ bs) → Mends (last_line b)
mend_here k (Loose r) bs e is = cc
mend_here k (Record r) bs e is = is.0

mend_blank : (b : Block) → is_blank b ≡ true → Mends (last_line b)
mend_blank (Loose l) e = λ (last : IsUnended l). apart (is_empty l.body) e last.some
  where
    apart : {P : Type 0} (t : Bool) → t ≡ true → t ≡ false → P
    apart t e f = cc
mend_blank (Record r) e = cc

here : (k : Kind) (b : Block) (bs : List Block) → is_of k b ≡ true → RecordsMend (b ∷ bs) → LastMends (take (suc (tail_len bs)) (b ∷ bs))
here k b [] e is = mend_here k b [] e is
here k b (c ∷ cs) e is = elim (two (is_blank c)) [ inl f ↦ rw f (mend_blank c f) | inr f ↦ rw f (mend_here k b (c ∷ cs) e is) ]

further : (k : Kind) (b : Block) (bs : List Block) (m : ℕ) → end_of_last k bs ≡ Some m → LastMends (take m bs) → LastMends (take (suc m) (b ∷ bs))
further k b [] m e is = cc
further k b (c ∷ cs) zero e is = zero_not (end_of_last k cs) (is_of k c) (tail_len cs) e
  where
    zero_not : {P : Type 0} (o : Option ℕ) (t : Bool) (l : ℕ) → option_or (option_map suc o) (cond t (Some (suc l)) None) ≡ Some 0 → P
    zero_not None true l e = let q : suc l ≡ 0 = cc in absurd (omega (arith, q))
    zero_not None false l e = cc
    zero_not (Some m) t l e = let q : suc m ≡ 0 = cc in absurd (omega (arith, q))
further k b (c ∷ cs) (suc m) e is = is

pub place_mends : (k : Kind) (bs : List Block) (n : ℕ) → end_of_last k bs ≡ Some n → RecordsMend bs → LastMends (take n bs)
place_mends k [] n e is = cc
place_mends k (b ∷ bs) n e is = step (end_of_last k bs) (is_of k b) e (λ m f. further k b bs m f (place_mends k bs m f (mend_later b bs is))) (λ f. here k b bs f is)
  where
    step : (o : Option ℕ) (t : Bool) → option_or (option_map suc o) (cond t (Some (suc (tail_len bs))) None) ≡ Some n → ((m : ℕ) → o ≡ Some m → LastMends (take (suc m) (b ∷ bs))) → (t ≡ true → LastMends (take (suc (tail_len bs)) (b ∷ bs))) → LastMends (take n (b ∷ bs))
    step None true e f g = let q : suc (tail_len bs) ≡ n = cc in rw (← q) (g refl)
    step None false e f g = cc
    step (Some m) t e f g = let q : suc m ≡ n = cc in rw (← q) (f m refl)

first_mends : (ks : List Kind) (b : Block) (bs : List Block) → Mends (last_line b) → RecordsMend (b ∷ bs) → LastMends (take (unwrap_or (first_end ks (b ∷ bs)) 1) (b ∷ bs))
first_mends [] b bs m is = m
first_mends (k ∷ ks) b bs m is = step (end_of_last k (b ∷ bs)) (λ n e. place_mends k (b ∷ bs) n e is) (first_mends ks b bs m is)
  where
    step : (o : Option ℕ) → ((n : ℕ) → o ≡ Some n → LastMends (take n (b ∷ bs))) → LastMends (take (unwrap_or (first_end ks (b ∷ bs)) 1) (b ∷ bs)) → LastMends (take (unwrap_or (option_or o (first_end ks (b ∷ bs))) 1) (b ∷ bs))
    step None f g = g
    step (Some n) f g = f n refl

-- a text with new records keeps the ends
pub ends_added : (k : Kind) (r : Rec) (rs : List Rec) (b : Block) (bs : List Block) → Mends (last_line b) → RecordsMend (b ∷ bs) → EndedRecords (r ∷ rs) → AreLines (lines_of (b ∷ bs)) → AreLines (lines_of (add_records k (r ∷ rs) (b ∷ bs)))
ends_added k r rs b bs m is all lines =
    let n : ℕ = new_place k (b ∷ bs) in
    ends_put n (Record r) (Loose feed_line ∷ with_tails rs) (b ∷ bs) (ends_mended (take n (b ∷ bs)) (first_mends (kinds_to k) b bs m is) (ends_take n (b ∷ bs) lines)) (ends_tails (r ∷ rs) all) lines

pub ends_made : (k : Kind) (r : Rec) (rs : List Rec) (b : Block) (bs : List Block) → Mends (last_line b) → RecordsMend (b ∷ bs) → EndedRecords (r ∷ rs) → AreLines (lines_of (b ∷ bs)) → AreLines (lines_of (made_anew k (r ∷ rs) (b ∷ bs)))
ends_made k r rs b bs m is all lines = elim (two (has k (b ∷ bs))) [
  | inl e ↦ ends_anew k (r ∷ rs) (b ∷ bs) e all lines
  | inr e ↦ rw e (ends_added k r rs b bs m is all lines)
]
