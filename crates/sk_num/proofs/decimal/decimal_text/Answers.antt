use Rattle.std.proofs.Common.{◌≡◌, ℕ, ◌≤◌, List, [], ◌∷◌, ◌++◌, length, Bool, true, false, ap, ◌∙◌, arith, length-append, append_assoc}
use Rattle.std.specs.Fmt.{decimal}
use Rattle.std.proofs.lemmas.Fmt.{length-decimal-le}
use Rattle.sk_num.specs.Numerals.{padded}
use Rattle.sk_num.specs.Decimals.{sign_text, decimal_text, decimal_of}
use Rattle.sk_num.specs.DecimalLaws.{read_back}
use Rattle.sk_num.proofs.decimal.decimal_text.Goals as goal

length-sign : (t : Bool) → length (sign_text t) ≤ 1
length-sign true = omega arith
length-sign false = omega arith

after : (a b d e f : List ℕ) → a ≡ [] → b ≡ a ++ d → e ≡ b ++ f → e ≡ d ++ f
after a b d e f p q r = r ∙ ap (λ z. z ++ f) (q ∙ ap (λ z. z ++ d) p)

joined : (s d p : List ℕ) → ((s ++ d) ++ 46 ∷ []) ++ p ≡ s ++ (d ++ 46 ∷ p)
joined s d p = append_assoc (s ++ d) (46 ∷ []) p ∙ append_assoc s d (46 ∷ p)

pub push_decimal-requires : goal.push_decimal-requires
push_decimal-requires c =
    let d = c.args.d.now in
    let s = c.push_sign.ensures ∙ ap (λ (z : List ℕ). z ++ sign_text d.negative) c.new-draft.ensures in
    omega (arith, ap length s, length-sign d.negative, length-decimal-le 18 d.whole (omega arith) (omega arith) (omega arith))

pub push-requires : goal.push-requires
push-requires c =
    let d = c.args.d.now in
    let s = after c.new-draft.result c.push_sign.new.self (sign_text d.negative) c.push_decimal.new.self (decimal d.whole) c.new-draft.ensures c.push_sign.ensures c.push_decimal.ensures in
    omega (arith, ap length s, length-append (sign_text d.negative) (decimal d.whole), length-sign d.negative, length-decimal-le 18 d.whole (omega arith) (omega arith) (omega arith))

pub push_padded-requires-clause-room : goal.push_padded-requires-clause-room
push_padded-requires-clause-room c =
    let d = c.args.d.now in
    let s = after c.new-draft.result c.push_sign.new.self (sign_text d.negative) c.push_decimal.new.self (decimal d.whole) c.new-draft.ensures c.push_sign.ensures c.push_decimal.ensures in
    omega (arith, ap length s, ap length c.push.ensures, length-append c.push_decimal.new.self (46 ∷ []), length-append (sign_text d.negative) (decimal d.whole), length-sign d.negative, length-decimal-le 18 d.whole (omega arith) (omega arith) (omega arith))

pub returns-clause-text : goal.returns-clause-text
unfolding decimal_text
returns-clause-text c =
    let d = c.args.d.now in
    let s = after c.new-draft.result c.push_sign.new.self (sign_text d.negative) c.push_decimal.new.self (decimal d.whole) c.new-draft.ensures c.push_sign.ensures c.push_decimal.ensures in
    c.into_parts.ensures.text
    ∙ c.push_padded.ensures
    ∙ ap (λ (z : List ℕ). z ++ padded 10 20 d.decimals) (c.push.ensures ∙ ap (λ (z : List ℕ). z ++ 46 ∷ []) s)
    ∙ joined (sign_text d.negative) (decimal d.whole) (padded 10 20 d.decimals)

pub returns-clause-read_back : goal.returns-clause-read_back
returns-clause-read_back c = λ f. ap decimal_of (returns-clause-text c) ∙ read_back c.args.d.now (omega arith) f
