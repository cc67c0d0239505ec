use native.Mathlib.Omega.{arith}
use Rattle.scale.specs.Cuts.{same}
use Rattle.scale.specs.Counts.{counts}
use Rattle.scale.proofs.count.CountScale.unit.Goals as goal

pub returns : goal.returns
unfolding counts
returns c = same 1000000000 _ _ (omega arith)
