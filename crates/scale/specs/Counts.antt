-- Counting: numbers up to a most, added and multiplied, and cut at the most.
use Rattle.std.specs.Prelude.{ℕ, zero, suc, min, ◌+◌, ◌*◌, ◌≤◌, ◌≡◌}
use Rattle.std.proofs.Common.{mul_comm, mul_assoc, mul-add, mul-one, mul-zero, mul-suc, arith, sym, ◌∙◌, ap}
use Rattle.std.proofs.Math.Decide.{dec_le}
use Rattle.scale.specs.Semirings.{Semiring}
use Rattle.scale.specs.Cuts.{UpTo, cut, same}

-- a factor may be cut first
pub cut_times : (m x c : ℕ) → min (min x m * c) m ≡ min (x * c) m
cut_times m x c = go (dec_le x m) c
  where
    go : Dec (x ≤ m) → (c : ℕ) → min (min x m * c) m ≡ min (x * c) m
    go (yes h) c = let e : min x m ≡ x = omega arith in rw e
    go (no h) zero = rw (mul-zero (min x m), mul-zero x)
    go (no h) (suc c) = let e : min x m ≡ m = omega arith in rw (e, mul-suc m c, mul-suc x c) (omega arith)

pub times_cut : (m a y : ℕ) → min (a * min y m) m ≡ min (a * y) m
times_cut m a y = rw (mul_comm a (min y m), mul_comm a y) (cut_times m y a)

pub cut_plus : (m x y : ℕ) → min (min x m + min y m) m ≡ min (x + y) m
cut_plus m x y = omega arith

-- the counts up to a most of at least 1
unfoldable pub counts : (most : ℕ) → 1 ≤ most → Semiring (UpTo most)
counts m h = record {
  nought = cut m 0;
  unit = cut m 1;
  plus = λ a b. cut m (a.0 + b.0);
  times = λ a b. cut m (a.0 * b.0);
  plus_assoc = λ a b c. same m _ _ (omega arith);
  plus_comm = λ a b. same m _ _ (omega arith);
  plus_nought = λ a. same m _ _ (let k = a.1 in omega arith);
  times_assoc = λ a b c. same m _ _ (cut_times m (a.0 * b.0) c.0 ∙ ap (λ z. min z m) (mul_assoc a.0 b.0 c.0) ∙ sym (times_cut m a.0 (b.0 * c.0)));
  times_comm = λ a b. same m _ _ (ap (λ z. min z m) (mul_comm a.0 b.0));
  times_unit = λ a. same m _ _ (let k = a.1 in let e : min 1 m ≡ 1 = omega arith in rw (e, mul-one a.0) (omega arith));
  times_nought = λ a. same m _ _ (let e : min 0 m ≡ 0 = omega arith in rw (e, mul-zero a.0) (omega arith));
  times_plus = λ a b c. same m _ _ (times_cut m a.0 (b.0 + c.0) ∙ ap (λ z. min z m) (mul-add a.0 b.0 c.0) ∙ sym (cut_plus m (a.0 * b.0) (a.0 * c.0)));
}
