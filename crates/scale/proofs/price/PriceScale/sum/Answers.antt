use native.Mathlib.Omega.{arith}
use Rattle.scale.specs.Cuts.{same}
use Rattle.scale.specs.Prices.{prices}
use Rattle.scale.proofs.price.PriceScale.sum.Goals as goal

pub returns : goal.returns
unfolding prices
returns c = same 18446744073709551615 _ _ (omega arith)
