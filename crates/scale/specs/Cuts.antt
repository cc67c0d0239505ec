-- Numbers up to a most.
use Rattle.std.specs.Prelude.{ℕ, min, ◌≤◌, ◌≡◌}
use Rattle.std.proofs.Math.Nat.{min-le_right}
use Rattle.std.proofs.Math.Bridge.{le_prop}
use mathlib.Core.HLevel.{Σ_prop_path}

-- a number up to the most
abbrev pub UpTo : ℕ → Type 0
UpTo most = (n : ℕ) × (n ≤ most)

-- the number, or the most where it is more
abbrev pub cut : (most n : ℕ) → UpTo most
cut most n = (min n most, min-le_right n most)

-- two of them are the same when their numbers are
pub same : (most : ℕ) (x y : UpTo most) → x.0 ≡ y.0 → x ≡ y
same most x y e = Σ_prop_path (λ n. le_prop) e
