use Rattle.std.proofs.Common.{◌||◌}
use Rattle.graph.specs.Members.{member, tally}
use Rattle.graph.proofs.Walking.{Walk}
use Rattle.graph.proofs.walks.part.Given as goal

abbrev pub invariant-loop-x : goal.invariant-loop-x
invariant-loop-x g l = Walk (g.G.Graph.joins l.graph) (member l.selected) l.start (member l.rest) (member l.frontier)

abbrev pub decreases-loop-x : goal.decreases-loop-x
decreases-loop-x g l = tally (λ y. member l.rest y || member l.frontier y) 256
