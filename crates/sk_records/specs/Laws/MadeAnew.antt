-- Records that are made anew, twice, are made anew once.
use Rattle.std.proofs.Common.{◌≡◌, ℕ, List, [], ◌∷◌, ◌++◌, take, drop, refl, ap, sym, ◌∙◌, cond, true, false, Bool, ◌⊎◌, inl, inr}
use Rattle.std.proofs.lemmas.List.{take-append-drop}
use Rattle.sk_records.specs.declared.kinds.Kind.{Kind}
use Rattle.sk_records.specs.Blocks.{Block, Rec, Loose, Record, is_of, is_blank, without, feed_line, has, before_kind, from_kind, with_tails, AllOf, made_anew, new_place, ended, ended_last}

pub two : (t : Bool) → (t ≡ true) ⊎ (t ≡ false)
two true = inl refl
two false = inr refl

-- two lists have a record of the kind where one of them has
pub has-append : (k : Kind) (a b : List Block) → has k (a ++ b) ≡ cond (has k a) true (has k b)
has-append k [] b = refl
has-append k (x ∷ a) b = elim (two (is_of k x)) [ inl e ↦ rw e refl | inr e ↦ rw e (has-append k a b) ]

pub has_front : (k : Kind) (bs : List Block) → has k (before_kind k bs) ≡ false
has_front k [] = refl
has_front k (b ∷ bs) = elim (two (is_of k b)) [ inl e ↦ rw e refl | inr e ↦ rw (e, e) (has_front k bs) ]

front-append : (k : Kind) (a : List Block) (b : Block) (c : List Block) → has k a ≡ false → is_of k b ≡ true → before_kind k (a ++ (b ∷ c)) ≡ a
front-append k [] b c h e = rw e refl
front-append k (x ∷ a) b c h e = elim (two (is_of k x)) [ inl f ↦ (let g = rw f at h in cc g) | inr f ↦ rw f (ap (λ l. x ∷ l) (front-append k a b c (rw f at h) e)) ]

rest-append : (k : Kind) (a : List Block) (b : Block) (c : List Block) → has k a ≡ false → is_of k b ≡ true → from_kind k (a ++ (b ∷ c)) ≡ b ∷ c
rest-append k [] b c h e = rw e refl
rest-append k (x ∷ a) b c h e = elim (two (is_of k x)) [ inl f ↦ (let g = rw f at h in cc g) | inr f ↦ rw f (rest-append k a b c (rw f at h) e) ]

pub has_at : (k : Kind) (a : List Block) (b : Block) (c : List Block) → is_of k b ≡ true → has k (a ++ (b ∷ c)) ≡ true
has_at k [] b c e = rw e refl
has_at k (x ∷ a) b c e = elim (two (is_of k x)) [ inl f ↦ rw f refl | inr f ↦ rw f (has_at k a b c e) ]

without_tails : (k : Kind) (rs : List Rec) (c : List Block) → AllOf k rs → without k false (with_tails rs ++ c) ≡ without k false c
without_tails k [] c all = refl
without_tails k (r ∷ rs) c all = rw all.0 (without_tails k rs c all.1)

pub has_without : (k : Kind) (t : Bool) (bs : List Block) → has k (without k t bs) ≡ false
has_without k t [] = refl
has_without k t (b ∷ bs) = elim (two (is_of k b)) [
  | inl e ↦ rw e (has_without k true bs)
  | inr e ↦ rw e (elim (two (cond t (is_blank b) false)) [ inl f ↦ rw f (has_without k false bs) | inr f ↦ rw (f, e) (has_without k false bs) ])
]

pub without_none : (k : Kind) (bs : List Block) → has k bs ≡ false → without k false bs ≡ bs
without_none k [] h = refl
without_none k (b ∷ bs) h = elim (two (is_of k b)) [ inl e ↦ (let g = rw e at h in cc g) | inr e ↦ rw e (ap (λ l. b ∷ l) (without_none k bs (rw e at h))) ]

-- made anew where the first stands
pub anew_at : (k : Kind) (rs : List Rec) (a : List Block) (b : Block) (c : List Block) → has k a ≡ false → is_of k b ≡ true → made_anew k rs (a ++ (b ∷ c)) ≡ a ++ (with_tails rs ++ without k false (b ∷ c))
anew_at k rs a b c h e = rw (has_at k a b c e, front-append k a b c h e, rest-append k a b c h e) refl

-- made anew again where they stand
pub anew_again : (k : Kind) (a c : List Block) (r : Rec) (rs : List Rec) → has k a ≡ false → has k c ≡ false → AllOf k (r ∷ rs) → made_anew k (r ∷ rs) (a ++ (with_tails (r ∷ rs) ++ c)) ≡ a ++ (with_tails (r ∷ rs) ++ c)
anew_again k a c r rs h g all =
    let b : Block = Record r in
    let d : List Block = Loose feed_line ∷ (with_tails rs ++ c) in
    rw (has_at k a b d all.0, front-append k a b d h all.0, rest-append k a b d h all.0, without_tails k (r ∷ rs) c all, without_none k c g) refl

has_ended : (k : Kind) (b : Block) → is_of k (ended b) ≡ is_of k b
has_ended k (Loose r) = refl
has_ended k (Record r) = refl

pub has-ended_last : (k : Kind) (bs : List Block) → has k (ended_last bs) ≡ has k bs
has-ended_last k [] = refl
has-ended_last k (b ∷ []) = rw has_ended refl
has-ended_last k (b ∷ (c ∷ cs)) = ap (cond (is_of k b) true) (has-ended_last k (c ∷ cs))

pub or_false_left : (a b : Bool) → cond a true b ≡ false → a ≡ false
or_false_left true b h = h
or_false_left false b h = refl

pub or_false_right : (a b : Bool) → cond a true b ≡ false → b ≡ false
or_false_right true b h = cc
or_false_right false b h = h

pub has_take : (k : Kind) (n : ℕ) (bs : List Block) → has k bs ≡ false → has k (take n bs) ≡ false
has_take k n bs h = or_false_left _ (has k (drop n bs)) (sym (has-append k (take n bs) (drop n bs)) ∙ ap (has k) (take-append-drop n bs) ∙ h)

pub has_drop : (k : Kind) (n : ℕ) (bs : List Block) → has k bs ≡ false → has k (drop n bs) ≡ false
has_drop k n bs h = or_false_right (has k (take n bs)) _ (sym (has-append k (take n bs) (drop n bs)) ∙ ap (has k) (take-append-drop n bs) ∙ h)

-- the law: making them anew again changes nothing
pub anew_twice : (k : Kind) (r : Rec) (rs : List Rec) (bs : List Block) → AllOf k (r ∷ rs) → made_anew k (r ∷ rs) (made_anew k (r ∷ rs) bs) ≡ made_anew k (r ∷ rs) bs
anew_twice k r rs bs all = elim (two (has k bs)) [
  | inl e ↦ (let is : made_anew k (r ∷ rs) bs ≡ before_kind k bs ++ (with_tails (r ∷ rs) ++ without k false (from_kind k bs)) = rw e refl in
      rw is (anew_again k (before_kind k bs) (without k false (from_kind k bs)) r rs (has_front k bs) (has_without k false (from_kind k bs)) all))
  | inr e ↦ (let n : ℕ = new_place k bs in
      let is : made_anew k (r ∷ rs) bs ≡ ended_last (take n bs) ++ (with_tails (r ∷ rs) ++ drop n bs) = rw e refl in
      rw is (anew_again k (ended_last (take n bs)) (drop n bs) r rs (has-ended_last k (take n bs) ∙ has_take k n bs e) (has_drop k n bs e) all))
]
