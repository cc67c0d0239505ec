use Rattle.std.proofs.Common.{arith}
use Rattle.std.proofs.lemmas.Bool.Decides.{nat_tests}
use Rattle.graph.specs.Graphs.{complement}
use Rattle.graph.proofs.graphs.ComplementGraph.neighbours.Goals as goal

pub returns-then-a-size : goal.returns-then-a-size
unfolding complement
returns-then-a-size g c k = grind (arith, nat_tests, c.empty.ensures k)

pub returns : goal.returns
unfolding complement
returns g c k =
    let few = (g.met.G.Graph.laws c.args.self.now.of.now).few in
    grind (arith, nat_tests, few, c.below-others.ensures k, c.remove.ensures k, c.neighbours.ensures k, c.difference.ensures k)
