use Rattle.std.proofs.Common.{arith}
use Rattle.graph.specs.Graphs.{selection}
use Rattle.graph.proofs.graphs.SelectionGraph.neighbours.Goals as goal

pub returns-then-not-contains : goal.returns-then-not-contains
unfolding selection
returns-then-not-contains g c k = grind (arith, c.empty.ensures k)

pub returns : goal.returns
unfolding selection
returns g c k = grind (arith, c.intersection.ensures k, c.neighbours.ensures k)
