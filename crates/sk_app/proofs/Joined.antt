-- One more piece.
use Rattle.std.proofs.Common.{◌≡◌, ℕ, zero, suc, ◌<◌, List, [], ◌∷◌, ◌++◌, take, drop, length, get_or, ap, sym, ◌∙◌, append_assoc, arith, rules}
use Rattle.std.specs.declared.vec.Vec.{Vec}
use Rattle.sk_app.specs.Ends.{joined}
use Rattle.sk_app.specs.Lent.{texts}

pub joined_split : {A : Type 0} (ps : List (Vec ℕ A)) (i : ℕ) (v : Vec ℕ A) → i < length ps → v ≡ get_or ps i v → joined (texts ps) ≡ joined (take i (texts ps)) ++ (v.items ++ joined (drop (suc i) (texts ps)))
joined_split [] i v lt e = absurd (omega arith)
joined_split (p ∷ ps) zero v lt e = ap (λ (w : Vec ℕ _). w.items ++ joined (texts ps)) (sym e)
joined_split (p ∷ ps) (suc i) v lt e = ap (λ r. p.items ++ r) (joined_split ps i v (omega arith) e) ∙ sym (append_assoc p.items (joined (take i (texts ps))) (v.items ++ joined (drop (suc i) (texts ps))))

pub joined_more : {A : Type 0} (ps : List (Vec ℕ A)) (i : ℕ) (v : Vec ℕ A) → i < length ps → v ≡ get_or ps i v → joined (take (suc i) (texts ps)) ≡ joined (take i (texts ps)) ++ v.items
joined_more [] i v lt e = absurd (omega arith)
joined_more (p ∷ ps) zero v lt e = search (rules, ap (λ (w : Vec ℕ _). w.items) (sym e))
joined_more (p ∷ ps) (suc i) v lt e = ap (λ r. p.items ++ r) (joined_more ps i v (omega arith) e) ∙ sym (append_assoc p.items (joined (take i (texts ps))) v.items)
