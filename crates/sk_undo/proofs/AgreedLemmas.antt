-- Where two texts agree.
use Rattle.std.proofs.Common.{◌≡◌, ◌⊎◌, inl, inr, ℕ, zero, suc, ◌+◌, ◌-◌, ◌<◌, ◌≤◌, List, [], ◌∷◌, ◌++◌, length, get_or, take, drop, Bool, true, false, cond, refl, sym, ap, ◌∙◌, ◌≢◌, Global, arith}
use Rattle.std.specs.Prelude.{◌==◌, nat_le, reverse, Result, Ok, Err, IfOk, Vec}
use Rattle.std.proofs.lemmas.Bool.{cases_Bool, eqb-true, eq-eqb, ne_eqb, leb-true, leb-false}
use Rattle.std.proofs.lemmas.List.{reverse-reverse, reverse-append, length-reverse, take-append-drop, drop-drop, get_or-reverse, length-drop}
use Rattle.std.proofs.Math.Seq.{take-append_seam, drop-length}
use Rattle.std.proofs.lemmas.List.Sums.{common_prefix_len-le, common_prefix_len-drop_yes, common_prefix_len-drop_no}
use Rattle.sk_types.specs.declared.handle.GroupId.{GroupId}
use Rattle.sk_undo.specs.declared.entry.Entry.{Entry}
use Rattle.sk_undo.specs.Changes.{agreed, agreed_behind, between, entry_between, earlier_text, later_text}
use Rattle.sk_undo.specs.ChangeLaws.{last, ChangeLaw}

fits : (xs ys : List ℕ) → (agreed xs ys ≤ length xs) × (agreed xs ys ≤ length ys)
fits xs ys = common_prefix_len-le (λ x y. x == y) xs ys

one-more : (n x : ℕ) (xs : List ℕ) → take (1 + n) (x ∷ xs) ≡ x ∷ take n xs
one-more n x xs = let e : 1 + n ≡ suc n = omega arith in ap (λ (k : ℕ). take k (x ∷ xs)) e

front-step : (x y : ℕ) (xs ys : List ℕ) (n : ℕ) (t : Bool) → (x == y) ≡ t → take n xs ≡ take n ys → take (cond t (1 + n) 0) (x ∷ xs) ≡ take (cond t (1 + n) 0) (y ∷ ys)
front-step x y xs ys n true e h = one-more n x xs ∙ ap (λ (z : ℕ). z ∷ take n xs) (eqb-true x y e) ∙ ap (λ (zs : List ℕ). y ∷ zs) h ∙ sym (one-more n y ys)
front-step x y xs ys n false e h = refl

front : (xs ys : List ℕ) → take (agreed xs ys) xs ≡ take (agreed xs ys) ys
front [] ys = refl
front (x ∷ xs) [] = refl
front (x ∷ xs) (y ∷ ys) = front-step x y xs ys (agreed xs ys) (x == y) refl (front xs ys)

most : (xs ys : List ℕ) (n : ℕ) → n ≤ length xs → n ≤ length ys → take n xs ≡ take n ys → n ≤ agreed xs ys
most xs ys zero a b e = omega arith
most [] ys (suc n) a b e = omega (arith, a)
most (x ∷ xs) [] (suc n) a b e = omega (arith, b)
most (x ∷ xs) (y ∷ ys) (suc n) a b e =
    let head : x ≡ y = cc in
    let tail : take n xs ≡ take n ys = cc in
    let more = most xs ys n (omega (arith, a)) (omega (arith, b)) tail in
    rw (eq-eqb x y head) (omega (arith, more))

-- ---- from the end

take-reversed : (m : ℕ) (zs : List ℕ) → m ≤ length zs → take m (reverse zs) ≡ reverse (last m zs)
take-reversed m zs l =
    let k = length zs - m in
    let size : length (reverse (drop k zs)) ≡ m = (let a = length-reverse (drop k zs) in let b = length-drop k zs in omega (arith, a, b, l)) in
    ap (λ (t : List ℕ). take m (reverse t)) (sym (take-append-drop k zs))
    ∙ ap (take m) (reverse-append (take k zs) (drop k zs))
    ∙ ap (λ (n : ℕ). take n (reverse (drop k zs) ++ reverse (take k zs))) (sym size)
    ∙ take-append_seam (reverse (drop k zs)) (reverse (take k zs))

last-behind : (n m : ℕ) (xs : List ℕ) → m ≤ length xs - n → n ≤ length xs → last m (drop n xs) ≡ last m xs
last-behind n m xs l h =
    let size = length-drop n xs in
    drop-drop (length (drop n xs) - m) n xs ∙ ap (λ (k : ℕ). drop k xs) (omega (arith, size, l, h))

last-none : (xs : List ℕ) → last 0 xs ≡ []
last-none xs = let e : length xs - 0 ≡ length xs = omega arith in ap (λ (k : ℕ). drop k xs) e ∙ drop-length xs

tail-of : (n m : ℕ) (xs : List ℕ) → m ≤ length xs - n → (n ≤ length xs) ⊎ (m ≡ 0) → last m (drop n xs) ≡ last m xs
tail-of n m xs l (inl h) = last-behind n m xs l h
tail-of n m xs l (inr e) = rw e (last-none (drop n xs) ∙ sym (last-none xs))

within : (n m : ℕ) (xs : List ℕ) → m ≤ length xs - n → (n ≤ length xs) ⊎ (m ≡ 0)
within n m xs l = elim (cases_Bool (nat_le n (length xs))) [
  | inl t ↦ inl (leb-true n (length xs) t)
  | inr f ↦ inr (let h = leb-false n (length xs) f in omega (arith, l, h))
]

back_fits : (n : ℕ) (xs ys : List ℕ) → (agreed_behind n xs ys ≤ length xs - n) × (agreed_behind n xs ys ≤ length ys - n)
back_fits n xs ys =
    let (a, b) = fits (reverse (drop n xs)) (reverse (drop n ys)) in
    let c = length-reverse (drop n xs) in
    let d = length-reverse (drop n ys) in
    let e = length-drop n xs in
    let f = length-drop n ys in
    (omega (arith, a, c, e), omega (arith, b, d, f))

unreversed : (u v : List ℕ) → reverse u ≡ reverse v → u ≡ v
unreversed u v e = sym (reverse-reverse u) ∙ ap (λ (t : List ℕ). reverse t) e ∙ reverse-reverse v

module _ (n : ℕ) (xs ys : List ℕ) (m : ℕ) (l : m ≤ length xs - n) (r : m ≤ length ys - n) where
  left : take m (reverse (drop n xs)) ≡ reverse (last m xs)
  left = take-reversed m (drop n xs) (let a = length-drop n xs in omega (arith, a, l)) ∙ ap (λ (t : List ℕ). reverse t) (tail-of n m xs l (within n m xs l))

  right : take m (reverse (drop n ys)) ≡ reverse (last m ys)
  right = take-reversed m (drop n ys) (let a = length-drop n ys in omega (arith, a, r)) ∙ ap (λ (t : List ℕ). reverse t) (tail-of n m ys r (within n m ys r))

  lasts-agree : take m (reverse (drop n xs)) ≡ take m (reverse (drop n ys)) → last m xs ≡ last m ys
  lasts-agree e = unreversed (last m xs) (last m ys) (sym left ∙ e ∙ right)

  lasts-most : last m xs ≡ last m ys → m ≤ agreed_behind n xs ys
  lasts-most e =
      most (reverse (drop n xs)) (reverse (drop n ys)) m
      (let a = length-reverse (drop n xs) in let b = length-drop n xs in omega (arith, a, b, l))
      (let a = length-reverse (drop n ys) in let b = length-drop n ys in omega (arith, a, b, r))
      (left ∙ ap (λ (t : List ℕ). reverse t) e ∙ sym right)

back : (n : ℕ) (xs ys : List ℕ) → last (agreed_behind n xs ys) xs ≡ last (agreed_behind n xs ys) ys
back n xs ys =
    let (l, r) = back_fits n xs ys in
    lasts-agree n xs ys (agreed_behind n xs ys) l r (front (reverse (drop n xs)) (reverse (drop n ys)))

-- ---- the other text

joined : (front back : ℕ) (text : List ℕ) → front ≤ length text → back ≤ length text - front → take front text ++ (between front back text ++ last back text) ≡ text
joined front back text f b =
    let j = length text - front - back in
    ap (λ (t : List ℕ). take front text ++ (between front back text ++ t)) (ap (λ (k : ℕ). drop k text) (omega (arith, f, b)) ∙ sym (drop-drop j front text))
    ∙ ap (λ (t : List ℕ). take front text ++ t) (take-append-drop j (drop front text))
    ∙ take-append-drop front text

pub earlier-made : (dirty : List GroupId) (a b : List ℕ) → earlier_text (entry_between dirty a b) b ≡ a
earlier-made dirty a b =
    let f = agreed a b in
    let k = agreed_behind f a b in
    ap (λ (t : List ℕ). t ++ (between f k a ++ last k b)) (sym (front a b))
    ∙ ap (λ (t : List ℕ). take f a ++ (between f k a ++ t)) (sym (back f a b))
    ∙ joined f k a (fits a b).0 (back_fits f a b).0

pub later-made : (dirty : List GroupId) (a b : List ℕ) → later_text (entry_between dirty a b) a ≡ b
later-made dirty a b =
    let f = agreed a b in
    let k = agreed_behind f a b in
    ap (λ (t : List ℕ). t ++ (between f k b ++ last k a)) (front a b)
    ∙ ap (λ (t : List ℕ). take f b ++ (between f k b ++ t)) (back f a b)
    ∙ joined f k b (fits a b).1 (back_fits f a b).1

pub each-earlier : {E : Type 0} (e : Entry) (later : List ℕ) (r : Result (Vec ℕ Global) E) → IfOk r (λ t. t.items ≡ earlier_text e later) →
    IfOk r (λ t. (earlier : List ℕ) → e ≡ entry_between e.dirty earlier later → t.items ≡ earlier)
each-earlier e later (Ok t) h = λ earlier is. h ∙ ap (λ (x : Entry). earlier_text x later) is ∙ earlier-made e.dirty earlier later
each-earlier e later (Err z) h = h

pub each-later : {E : Type 0} (e : Entry) (earlier : List ℕ) (r : Result (Vec ℕ Global) E) → IfOk r (λ t. t.items ≡ later_text e earlier) →
    IfOk r (λ t. (later : List ℕ) → e ≡ entry_between e.dirty earlier later → t.items ≡ later)
each-later e earlier (Ok t) h = λ later is. h ∙ ap (λ (x : Entry). later_text x earlier) is ∙ later-made e.dirty earlier later
each-later e earlier (Err z) h = h

pub change_law_proof : ChangeLaw
change_law_proof = record {
  front = front;
  front_most = most;
  front_fits = fits;
  back = back;
  back_most = lasts-most;
  back_fits = back_fits;
  earlier = earlier-made;
  later = later-made;
}

-- ---- the loops

pub step-front : (a b : List ℕ) (n k : ℕ) → n < length a → n < length b → (get_or a n 0 == get_or b n 0) ≡ true → n + agreed (drop n a) (drop n b) ≡ k → n + 1 + agreed (drop (n + 1) a) (drop (n + 1) b) ≡ k
step-front a b n k l r e h = let s = common_prefix_len-drop_yes (λ x y. x == y) a b n 0 0 l r e in omega (arith, s, h)

pub stop-front : (a b : List ℕ) (n k : ℕ) → n < length a → n < length b → (get_or a n 0 == get_or b n 0) ≡ false → n + agreed (drop n a) (drop n b) ≡ k → n ≡ k
stop-front a b n k l r e h = let s = common_prefix_len-drop_no (λ x y. x == y) a b n 0 0 l r e in omega (arith, s, h)

pub end-front : (a b : List ℕ) (n k : ℕ) → (length a ≤ n) ⊎ (length b ≤ n) → n + agreed (drop n a) (drop n b) ≡ k → n ≡ k
end-front a b n k (inl e) h = let s = (fits (drop n a) (drop n b)).0 in let d = length-drop n a in omega (arith, s, d, e, h)
end-front a b n k (inr e) h = let s = (fits (drop n a) (drop n b)).1 in let d = length-drop n b in omega (arith, s, d, e, h)

-- ---- the same from the end

from-end : (a : List ℕ) (n : ℕ) → n < length a → get_or (reverse a) n 0 ≡ get_or a (length a - 1 - n) 0
from-end a n l = get_or-reverse a n 0 l

module _ (a b : List ℕ) (n k : ℕ) where
  ends-same : (t : Bool) → n < length a → n < length b → (get_or a (length a - 1 - n) 0 == get_or b (length b - 1 - n) 0) ≡ t → (get_or (reverse a) n 0 == get_or (reverse b) n 0) ≡ t
  ends-same t l r e = ap (λ (x : ℕ). x == get_or (reverse b) n 0) (from-end a n l) ∙ ap (λ (y : ℕ). get_or a (length a - 1 - n) 0 == y) (from-end b n r) ∙ e

  pub step-back : n < length a → n < length b → get_or a (length a - 1 - n) 0 ≡ get_or b (length b - 1 - n) 0 → n + agreed (drop n (reverse a)) (drop n (reverse b)) ≡ k
      → n + 1 + agreed (drop (n + 1) (reverse a)) (drop (n + 1) (reverse b)) ≡ k
  step-back l r e h = step-front (reverse a) (reverse b) n k (let s = length-reverse a in omega (arith, s, l)) (let s = length-reverse b in omega (arith, s, r)) (ends-same true l r (eq-eqb _ _ e)) h

  pub stop-back : n < length a → n < length b → (get_or a (length a - 1 - n) 0 ≢ get_or b (length b - 1 - n) 0) → n + agreed (drop n (reverse a)) (drop n (reverse b)) ≡ k → n ≡ k
  stop-back l r e h = stop-front (reverse a) (reverse b) n k (let s = length-reverse a in omega (arith, s, l)) (let s = length-reverse b in omega (arith, s, r)) (ends-same false l r (ne_eqb _ _ e)) h

  pub end-back : length b ≤ n → n + agreed (drop n (reverse a)) (drop n (reverse b)) ≡ k → n ≡ k
  end-back e h = end-front (reverse a) (reverse b) n k (inr (let s = length-reverse b in omega (arith, s, e))) h
