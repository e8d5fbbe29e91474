-- The laws of a kernel: results enclose the results of enclosed values. `encloses m k x t` says
-- that x encloses the triple t, whose values are over 2^m and whose slope is over 2^k.
use Rattle.std.specs.Prelude.{◌≡◌, ℕ, ◌+◌, ℤ, Option, Some}
use Rattle.sk_num.specs.Enclosed.{Triple, triple_of, triple_add, triple_sub, triple_mul, triple_scale}

pub record KernelLaws (s : ℕ) (K : Type 0) (of : ℤ → K) (add sub mul : K → K → Option K) (encloses : ℕ → ℕ → K → Triple → Type 0) : Type 0 where
  pub one : (m k : ℕ) (g : ℤ) → encloses (s + m) k (of g) (triple_of m g)
  pub sum : (m k : ℕ) (x y z : K) (t u : Triple) → encloses m k x t → encloses m k y u → add x y ≡ Some z → encloses m k z (triple_add t u)
  pub difference : (m k : ℕ) (x y z : K) (t u : Triple) → encloses m k x t → encloses m k y u → sub x y ≡ Some z → encloses m k z (triple_sub t u)
  pub product : (m k n l : ℕ) (x y z : K) (t u : Triple) → m + l ≡ n + k → encloses m k x t → encloses n l y u → mul x y ≡ Some z → encloses (m + n) (m + l) z (triple_mul t u)
  pub scaled : (j m k : ℕ) (x : K) (t : Triple) → encloses m k x t → encloses (m + j) (k + j) x (triple_scale j t)
