use Prim.Native.Nat.{min, ◌*◌}
use mathlib.Core.Path.{◌∙◌, ap₂}
use Rattle.scale.specs.Cuts.{same}
use Rattle.scale.specs.Counts.{counts}
use Rattle.scale.proofs.count.CountScale.product.Goals as goal

pub returns : goal.returns
unfolding counts
returns c = same 1000000000 _ _ (c.new.ensures ∙ ap₂ (λ x y. min (x * y) 1000000000) c.value.ensures c.value-2.ensures)
