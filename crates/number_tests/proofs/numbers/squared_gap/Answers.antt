use Rattle.std.proofs.Common.{◌≡◌, ◌+◌, ℕ, ℤ, Option, Some, None, IfSome, refl, sym, rules}
use Rattle.sk_num.specs.Enclosed.{Triple, triple_sub, triple_mul}
use Rattle.sk_num.specs.KernelLaws.{KernelLaws}
use Rattle.number_tests.proofs.numbers.squared_gap.Goals as goal

gap_squared : (s : ℕ) (K : Type 0) (of : ℤ → K) (add sub mul : K → K → Option K) (encloses : ℕ → ℕ → K → Triple → Type 0) → KernelLaws s K of add sub mul encloses →
    (a b d : K) (r : Option K) → sub a b ≡ Some d → r ≡ mul d d →
    IfSome r (λ c. (m k : ℕ) (t u : Triple) → encloses m k a t → encloses m k b u → encloses (m + m) (m + k) c (triple_mul (triple_sub t u) (triple_sub t u)))
gap_squared s K of add sub mul encloses laws a b d None e f = tt
gap_squared s K of add sub mul encloses laws a b d (Some c) e f = λ m k t u h l.
    let gap = laws.difference m k a b d t u h l e in
    laws.product m k m k d d c (triple_sub t u) (triple_sub t u) refl gap gap (sym f)

pub returns-clause-encloses : goal.returns-clause-encloses
returns-clause-encloses g c =
    let k = g.K.Kernel in
    let gap : k.difference_of c.args.a.now c.args.b.now ≡ Some c.in_ok-gap.gap = search rules in
    let square : c.mul.result ≡ k.product_of c.in_ok-gap.gap c.in_ok-gap.gap = search rules in
    gap_squared g.row.S _ _ _ _ _ _ g.met.K.Kernel.laws c.args.a.now c.args.b.now c.in_ok-gap.gap c.mul.result gap square
