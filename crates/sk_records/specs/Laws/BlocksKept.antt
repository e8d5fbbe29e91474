-- A change of a text's blocks gives blocks of a text.
use Rattle.std.proofs.Common.{◌≡◌, ℕ, zero, suc, List, [], ◌∷◌, ◌++◌, take, drop, refl, ap, ◌∙◌, cond, true, false, Bool, inl, inr, Option, Some, None, unwrap_or}
use Rattle.std.specs.Option.{option_map, option_or}
use Rattle.std.specs.List.{filter}
use Rattle.sk_text.specs.Lines.{TextLine, is_empty}
use Rattle.sk_records.specs.declared.kinds.Kind.{Kind}
use Rattle.sk_records.specs.Kinds.{same_kind, kinds_to}
use Rattle.sk_records.specs.Rows.{Row, Role, Plain, Brace, Entry, value_at, value_in, last_value, is_known, value_body, with_body, with_value, is_plain_role, is_plain, with_map}
use Rattle.sk_records.specs.Blocks.{Block, Rec, Loose, Record, is_of, is_blank, without, has, before_kind, from_kind, with_tails, made_anew, add_records, put_at, ended, ended_last, end_of_last, first_end, tail_len, on_record, on_records, dropped}
use Rattle.sk_records.specs.Classes.{Value, class_of, is_header}
use Rattle.sk_records.specs.Written.{fits, within_then, Fit, Opened, is_loose, IsBlock, AreBlocks, HasHeader}
use Rattle.sk_records.specs.Laws.Statements.{AreRecs}
use Rattle.sk_records.specs.Laws.MadeAnew.{two}
use Rattle.sk_records.specs.Laws.ReadAgain.{same_kind_refl}

-- ---- the lines of a record

fit_here : (k : Kind) (t : Bool) (r : Row) (rs : List Row) → Fit k t (r ∷ rs) → fits k t r.role r.body ≡ true
fit_here k false r rs f = f.0
fit_here k true r rs f = f.0

fit_later : (k : Kind) (t : Bool) (r : Row) (rs : List Row) → Fit k t (r ∷ rs) → Fit k (within_then t r.role) rs
fit_later k false r rs f = f.1
fit_later k true r rs f = f.1

fit_more : (k : Kind) (t : Bool) (r : Row) (rs : List Row) → fits k t r.role r.body ≡ true → Fit k (within_then t r.role) rs → Fit k t (r ∷ rs)
fit_more k false r rs h f = (h, f)
fit_more k true r rs h f = (h, f)

fit_body : (k : Kind) (key body : List ℕ) (t : Bool) (role : Role) (old : List ℕ) → class_of body ≡ Value k → is_known (value_at key role old) ≡ true → fits k t role old ≡ true → fits k t role body ≡ true
fit_body k key body false Plain old c h f = rw (c, same_kind_refl k) refl
fit_body k key body true Plain old c h f = cc
fit_body k key body t Brace old c h f = cc
fit_body k key body t Entry old c h f = cc

pub fit_value : (k : Kind) (key value : List ℕ) (t : Bool) (rows : List Row) → class_of (value_body key value) ≡ Value k → Fit k t rows → Fit k t (with_value key value rows)
fit_value k key value false [] c f = (rw (c, same_kind_refl k) refl, tt)
fit_value k key value true [] c f = absurd f
fit_value k key value t (r ∷ rs) c f =
    let here = fit_here k t r rs f in
    let later = fit_later k t r rs f in
    elim (two (is_known (last_value key rs))) [
      | inl h ↦ rw h (fit_more k t r (with_value key value rs) here (fit_value k key value (within_then t r.role) rs c later))
      | inr h ↦ elim (two (is_known (value_in key r))) [
        | inl g ↦ rw (h, g) (fit_more k t (with_body (value_body key value) r) rs (fit_body k key (value_body key value) t r.role r.body c g here) later)
        | inr g ↦ rw (h, g) (fit_more k t r (with_value key value rs) here (fit_value k key value (within_then t r.role) rs c later))
      ]
    ]

pub opened_value : (k : Kind) (key value : List ℕ) (rows : List Row) → class_of (value_body key value) ≡ Value k → Opened k rows → Opened k (with_value key value rows)
opened_value k key value [] c is = absurd is
opened_value k key value (r ∷ rs) c is =
    elim (two (is_known (last_value key rs))) [
      | inl h ↦ rw h (is.0, fit_value k key value false rs c is.1)
      | inr h ↦ elim (two (is_known (value_in key r))) [
        | inl g ↦ rw (h, g) (record { role = is.0.role; class = c }, is.1)
        | inr g ↦ rw (h, g) (is.0, fit_value k key value false rs c is.1)
      ]
    ]

fit-append : (k : Kind) (t : Bool) (a b : List Row) → Fit k t a → Fit k false b → Fit k t (a ++ b)
fit-append k false [] b f g = g
fit-append k true [] b f g = absurd f
fit-append k t (r ∷ a) b f g = fit_more k t r (a ++ b) (fit_here k t r a f) (fit-append k (within_then t r.role) a b (fit_later k t r a f) g)

plain_here : (k : Kind) (t : Bool) (role : Role) (body : List ℕ) → is_plain_role role ≡ true → fits k t role body ≡ true → (t ≡ false) × (role ≡ Plain)
plain_here k false Plain body p f = (refl, refl)
plain_here k true Plain body p f = cc
plain_here k t Brace body p f = cc
plain_here k t Entry body p f = cc

fit_plain : (k : Kind) (t : Bool) (rows : List Row) → Fit k t rows → Fit k false (filter is_plain rows)
fit_plain k false [] f = tt
fit_plain k true [] f = tt
fit_plain k t (r ∷ rs) f =
    let here = fit_here k t r rs f in
    let later : Fit k false (filter is_plain rs) = fit_plain k (within_then t r.role) rs (fit_later k t r rs f) in
    elim (two (is_plain_role r.role)) [
      | inl e ↦ (let p = plain_here k t r.role r.body e here in rw e (fit_more k false r (filter is_plain rs) (rw p.0 at here) (rw p.1 later)))
      | inr e ↦ rw e later
    ]

pub fit_map : (k : Kind) (new rows : List Row) → Fit k false new → Fit k false rows → Fit k false (with_map new rows)
fit_map k new [] n f = n
fit_map k new (r ∷ rs) n f = elim (two (is_plain_role r.role)) [
  | inl e ↦ (let p = plain_here k false r.role r.body e f.0 in
      let later : Fit k (within_then false r.role) rs = f.1 in
      rw e (f.0, rw p.1 (fit_map k new rs n (rw p.1 at later))))
  | inr e ↦ rw e (fit-append k false new (filter is_plain rs) n (fit_plain k (within_then false r.role) rs f.1))
]

pub opened_map : (k : Kind) (new rows : List Row) → Fit k false new → Opened k rows → Opened k (with_map new rows)
opened_map k new [] n is = absurd is
opened_map k new (r ∷ rs) n is = let e : is_plain_role r.role ≡ true = rw is.0.role refl in rw e (is.0, fit_map k new rs n is.1)

-- ---- blocks

pub are-append : (a b : List Block) → AreBlocks a → AreBlocks b → AreBlocks (a ++ b)
are-append [] b is more = more
are-append (x ∷ a) b is more = (is.0, are-append a b is.1 more)

pub are_take : (n : ℕ) (bs : List Block) → AreBlocks bs → AreBlocks (take n bs)
are_take zero bs is = tt
are_take (suc n) [] is = tt
are_take (suc n) (b ∷ bs) is = (is.0, are_take n bs is.1)

pub are_drop : (n : ℕ) (bs : List Block) → AreBlocks bs → AreBlocks (drop n bs)
are_drop zero bs is = is
are_drop (suc n) [] is = tt
are_drop (suc n) (b ∷ bs) is = are_drop n bs is.1

are_front : (k : Kind) (bs : List Block) → AreBlocks bs → AreBlocks (before_kind k bs)
are_front k [] is = tt
are_front k (b ∷ bs) is = elim (two (is_of k b)) [ inl e ↦ rw e tt | inr e ↦ rw e (is.0, are_front k bs is.1) ]

are_rest : (k : Kind) (bs : List Block) → AreBlocks bs → AreBlocks (from_kind k bs)
are_rest k [] is = tt
are_rest k (b ∷ bs) is = elim (two (is_of k b)) [ inl e ↦ rw e is | inr e ↦ rw e (are_rest k bs is.1) ]

are_without : (k : Kind) (t : Bool) (bs : List Block) → AreBlocks bs → AreBlocks (without k t bs)
are_without k t [] is = tt
are_without k t (b ∷ bs) is = elim (two (is_of k b)) [
  | inl e ↦ rw e (are_without k true bs is.1)
  | inr e ↦ rw e (elim (two (cond t (is_blank b) false)) [ inl f ↦ rw f (are_without k false bs is.1) | inr f ↦ rw f (is.0, are_without k false bs is.1) ])
]

ended_keeps : (t : Bool) (l : TextLine) → let m : TextLine = cond t (record { body = l.body; ending = 10 ∷ [] }) l in m.body ≡ l.body
ended_keeps true l = refl
ended_keeps false l = refl

pub is_ended : (b : Block) → IsBlock b → IsBlock (ended b)
is_ended (Loose l) is = rw (ended_keeps (is_empty l.ending) l) is
is_ended (Record r) is = (is.0, ap class_of (ended_keeps (is_empty r.close.ending) r.close) ∙ is.1)

pub are_ended : (bs : List Block) → AreBlocks bs → AreBlocks (ended_last bs)
are_ended [] is = tt
are_ended (b ∷ []) is = (is_ended b is.0, tt)
are_ended (b ∷ (c ∷ cs)) is = (is.0, are_ended (c ∷ cs) is.1)

pub are_on_records : (k : Kind) (f : List Row → List Row) (bs : List Block) → ((j : Kind) (rows : List Row) → same_kind j k ≡ true → Opened j rows → Opened j (f rows)) → AreBlocks bs → AreBlocks (on_records k f bs)
are_on_records k f [] keeps is = tt
are_on_records k f (Loose r ∷ bs) keeps is = (is.0, are_on_records k f bs keeps is.1)
are_on_records k f (Record r ∷ bs) keeps is = (
  elim (two (same_kind r.kind k)) [
    | inl e ↦ rw e (keeps r.kind r.rows e is.0.0, is.0.1)
    | inr e ↦ rw e is.0
  ],
  are_on_records k f bs keeps is.1,
)

blank_class : is_loose (class_of []) ≡ true
unfolding class_of
blank_class = refl

pub are_tails : (rs : List Rec) → AreRecs rs → AreBlocks (with_tails rs)
are_tails [] is = tt
are_tails (r ∷ rs) is = (is.0, (blank_class, are_tails rs is.1))

-- ---- the blocks of a text

header-append : (a b : List Block) → HasHeader a → AreBlocks b → HasHeader (a ++ b)
header-append [] b is more = absurd is
header-append (Loose r ∷ a) b is more = (is.0, are-append a b is.1 more)
header-append (Record r ∷ a) b is more = absurd is

header_take : (n : ℕ) (bs : List Block) → HasHeader bs → HasHeader (take (suc n) bs)
header_take n [] is = absurd is
header_take n (Loose r ∷ bs) is = (is.0, are_take n bs is.1)
header_take n (Record r ∷ bs) is = absurd is

header_drop : (n : ℕ) (bs : List Block) → HasHeader bs → AreBlocks (drop (suc n) bs)
header_drop n [] is = absurd is
header_drop n (Loose r ∷ bs) is = are_drop n bs is.1
header_drop n (Record r ∷ bs) is = absurd is

header_ended : (bs : List Block) → HasHeader bs → HasHeader (ended_last bs)
header_ended [] is = absurd is
header_ended (Loose l ∷ []) is = (ap is_header (ended_keeps (is_empty l.ending) l) ∙ is.0, tt)
header_ended (Loose r ∷ (c ∷ cs)) is = (is.0, are_ended (c ∷ cs) is.1)
header_ended (Record r ∷ []) is = absurd is
header_ended (Record r ∷ (c ∷ cs)) is = absurd is

header_front : (k : Kind) (bs : List Block) → HasHeader bs → HasHeader (before_kind k bs)
header_front k [] is = absurd is
header_front k (Loose r ∷ bs) is = (is.0, are_front k bs is.1)
header_front k (Record r ∷ bs) is = absurd is

header_rest : (k : Kind) (bs : List Block) → HasHeader bs → AreBlocks (from_kind k bs)
header_rest k [] is = absurd is
header_rest k (Loose r ∷ bs) is = are_rest k bs is.1
header_rest k (Record r ∷ bs) is = absurd is

end_suc : (k : Kind) (bs : List Block) (n : ℕ) → end_of_last k bs ≡ Some n → (m : ℕ) × (n ≡ suc m)
end_suc k [] n e = cc
end_suc k (b ∷ bs) n e = suc_step (end_of_last k bs) (is_of k b) (tail_len bs) e
  where
    suc_step : (o : Option ℕ) (t : Bool) (l : ℕ) → option_or (option_map suc o) (cond t (Some (suc l)) None) ≡ Some n → (m : ℕ) × (n ≡ suc m)
    suc_step None true l e = (l, cc)
    suc_step None false l e = cc
    suc_step (Some m) t l e = (m, cc)

first_suc : (ks : List Kind) (bs : List Block) → (m : ℕ) × (unwrap_or (first_end ks bs) 1 ≡ suc m)
first_suc [] bs = (0, refl)
first_suc (k ∷ ks) bs = suc_or (end_of_last k bs) (first_end ks bs) (λ n e. end_suc k bs n e) (first_suc ks bs)
  where
    suc_or : (o p : Option ℕ) → ((n : ℕ) → o ≡ Some n → (m : ℕ) × (n ≡ suc m)) → ((m : ℕ) × (unwrap_or p 1 ≡ suc m)) → (m : ℕ) × (unwrap_or (option_or o p) 1 ≡ suc m)
    suc_or None p f more = more
    suc_or (Some n) p f more = f n refl

pub header_put : (n : ℕ) (new bs : List Block) → HasHeader bs → AreBlocks new → HasHeader (put_at (suc n) new bs)
header_put n [] bs is all = is
header_put n (b ∷ new) bs is all = header-append (ended_last (take (suc n) bs)) (b ∷ new ++ drop (suc n) bs) (header_ended (take (suc n) bs) (header_take n bs is)) (are-append (b ∷ new) (drop (suc n) bs) all (header_drop n bs is))

-- a text with new records is a text
pub header_added : (k : Kind) (rs : List Rec) (bs : List Block) → HasHeader bs → AreRecs rs → HasHeader (add_records k rs bs)
header_added k rs bs is all = let place = first_suc (kinds_to k) bs in rw place.1 (header_put place.0 (with_tails rs) bs is (are_tails rs all))

-- a text with records made anew is a text
pub header_anew : (k : Kind) (rs : List Rec) (bs : List Block) → HasHeader bs → AreRecs rs → HasHeader (made_anew k rs bs)
header_anew k rs bs is all = elim (two (has k bs)) [
  | inl e ↦ rw e (header-append (before_kind k bs) (with_tails rs ++ without k false (from_kind k bs)) (header_front k bs is) (are-append (with_tails rs) (without k false (from_kind k bs)) (are_tails rs all) (are_without k false (from_kind k bs) (header_rest k bs is))))
  | inr e ↦ rw e (header_added k rs bs is all)
]

-- a text with changed records is a text
pub header_on_records : (k : Kind) (f : List Row → List Row) (bs : List Block) → ((j : Kind) (rows : List Row) → same_kind j k ≡ true → Opened j rows → Opened j (f rows)) → HasHeader bs → HasHeader (on_records k f bs)
header_on_records k f [] keeps is = absurd is
header_on_records k f (Loose r ∷ bs) keeps is = (is.0, are_on_records k f bs keeps is.1)
header_on_records k f (Record r ∷ bs) keeps is = absurd is

are_on_record : (k : Kind) (i : ℕ) (f : List Row → List Row) (bs : List Block) → ((j : Kind) (rows : List Row) → same_kind j k ≡ true → Opened j rows → Opened j (f rows)) → AreBlocks bs → AreBlocks (on_record k i f bs)
are_on_record k i f [] keeps is = tt
are_on_record k zero f (Loose l ∷ bs) keeps is = (is.0, are_on_record k zero f bs keeps is.1)
are_on_record k (suc i) f (Loose l ∷ bs) keeps is = (is.0, are_on_record k (suc i) f bs keeps is.1)
are_on_record k zero f (Record r ∷ bs) keeps is = elim (two (same_kind r.kind k)) [
  | inl e ↦ rw e ((keeps r.kind r.rows e is.0.0, is.0.1), is.1)
  | inr e ↦ rw e (is.0, are_on_record k zero f bs keeps is.1)
]
are_on_record k (suc i) f (Record r ∷ bs) keeps is = elim (two (same_kind r.kind k)) [
  | inl e ↦ rw e (is.0, are_on_record k i f bs keeps is.1)
  | inr e ↦ rw e (is.0, are_on_record k (suc i) f bs keeps is.1)
]

-- a text with one changed record is a text
pub header_on_record : (k : Kind) (i : ℕ) (f : List Row → List Row) (bs : List Block) → ((j : Kind) (rows : List Row) → same_kind j k ≡ true → Opened j rows → Opened j (f rows)) → HasHeader bs → HasHeader (on_record k i f bs)
header_on_record k i f [] keeps is = absurd is
header_on_record k zero f (Loose l ∷ bs) keeps is = (is.0, are_on_record k zero f bs keeps is.1)
header_on_record k (suc i) f (Loose l ∷ bs) keeps is = (is.0, are_on_record k (suc i) f bs keeps is.1)
header_on_record k i f (Record r ∷ bs) keeps is = absurd is

are_dropped : (k : Kind) (i : ℕ) (bs : List Block) → AreBlocks bs → AreBlocks (dropped k i bs)
are_dropped k i [] is = tt
are_dropped k zero (b ∷ bs) is = elim (two (is_of k b)) [ inl e ↦ rw e (are_drop (tail_len bs) bs is.1) | inr e ↦ rw e (is.0, are_dropped k zero bs is.1) ]
are_dropped k (suc i) (b ∷ bs) is = elim (two (is_of k b)) [ inl e ↦ rw e (is.0, are_dropped k i bs is.1) | inr e ↦ rw e (is.0, are_dropped k (suc i) bs is.1) ]

-- a text from which a record goes is a text
pub header_dropped : (k : Kind) (i : ℕ) (bs : List Block) → HasHeader bs → HasHeader (dropped k i bs)
header_dropped k i [] is = absurd is
header_dropped k zero (Loose l ∷ bs) is = (is.0, are_dropped k zero bs is.1)
header_dropped k (suc i) (Loose l ∷ bs) is = (is.0, are_dropped k (suc i) bs is.1)
header_dropped k i (Record r ∷ bs) is = absurd is
