use Rattle.std.proofs.Common.{rules}
use Rattle.graph.specs.Stored.{stored}
use Rattle.graph.proofs.stored.StoredGraphGraph.neighbours.Goals as goal

pub returns : goal.returns
unfolding stored
returns c = search rules
