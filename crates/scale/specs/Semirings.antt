-- Commutative semirings: what the values of a scale mean.
use Rattle.std.specs.Prelude.{◌≡◌}

-- sum and product are associative and commutative; nought changes nothing in a sum, unit nothing in a product;
-- nought times any value is nought; the product distributes over the sum
pub record Semiring (V : Type 0) : Type 0 where
  pub nought : V
  pub unit : V
  pub plus : V → V → V
  pub times : V → V → V
  pub plus_assoc : (a b c : V) → plus (plus a b) c ≡ plus a (plus b c)
  pub plus_comm : (a b : V) → plus a b ≡ plus b a
  pub plus_nought : (a : V) → plus a nought ≡ a
  pub times_assoc : (a b c : V) → times (times a b) c ≡ times a (times b c)
  pub times_comm : (a b : V) → times a b ≡ times b a
  pub times_unit : (a : V) → times a unit ≡ a
  pub times_nought : (a : V) → times a nought ≡ nought
  pub times_plus : (a b c : V) → times a (plus b c) ≡ plus (times a b) (times a c)
