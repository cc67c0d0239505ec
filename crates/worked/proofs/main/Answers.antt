use Rattle.std.proofs.Common.{◌≡◌, take, rules}
use Rattle.tree.specs.Formulas.{form}
use Rattle.tree.specs.Layout.{nodes_of}
use Rattle.worked.specs.Examples.{worked}
use Rattle.worked.proofs.main.Goals as goal

pub invariant_of-worked : goal.invariant_of-worked
invariant_of-worked c =
    let e : take c.lay_worked-count.result c.lay_worked-count.new.nodes ≡ nodes_of worked = search rules in
    record { lays = ∣ (form worked, e) ∣₁ }
