use Rattle.std.specs.Prelude.{ℕ, ℤ}
use Rattle.sk_contraction.specs.Contraction.{some-settled, settled-close}
use Rattle.sk_contraction.specs.Laws.{IsInReach}
use Rattle.sk_contraction.proofs.contraction_law.Goals as goal

pub returns : goal.returns
returns c n reach column f a m u w g b y r x h =
    let at = λ (p : ℕ → ℤ) (j : ℕ). p (column j) in
    record {
      settles = let (q, i, k) = some-settled (ℕ → ℤ) at f a (IsInReach n reach x) m u w g b y r x h in (q, (i, k));
      close = λ k o radii ratio cells p q hp hq. settled-close (ℕ → ℤ) at f a (IsInReach n reach x) m u w g b y r x h k o radii ratio cells p q hp.0 hq.0 hp.1 hq.1;
    }
