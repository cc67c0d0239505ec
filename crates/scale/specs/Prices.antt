-- Prices: numbers up to a most; the sum is the smaller, and the product adds and stops at the most.
use Rattle.std.specs.Prelude.{ℕ, min, ◌+◌}
use Rattle.std.proofs.Math.Nat.{min-le_left}
use Rattle.std.proofs.Common.{le_trans, arith}
use Rattle.scale.specs.Semirings.{Semiring}
use Rattle.scale.specs.Cuts.{UpTo, cut, same}

-- the prices up to a most
unfoldable pub prices : (most : ℕ) → Semiring (UpTo most)
prices m = record {
  nought = (m, omega arith);
  unit = (0, omega arith);
  plus = λ a b. (min a.0 b.0, le_trans (min-le_left a.0 b.0) a.1);
  times = λ a b. cut m (a.0 + b.0);
  plus_assoc = λ a b c. same m _ _ (omega arith);
  plus_comm = λ a b. same m _ _ (omega arith);
  plus_nought = λ a. same m _ _ (let k = a.1 in omega arith);
  times_assoc = λ a b c. same m _ _ (omega arith);
  times_comm = λ a b. same m _ _ (omega arith);
  times_unit = λ a. same m _ _ (let k = a.1 in omega arith);
  times_nought = λ a. same m _ _ (omega arith);
  times_plus = λ a b c. same m _ _ (omega arith);
}
