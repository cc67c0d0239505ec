use Rattle.std.proofs.Common.{rules}
use Rattle.graph.specs.Stored.{stored}
use Rattle.graph.proofs.Joining.{unjoined_graph, empty_rows}
use Rattle.graph.proofs.stored.StoredGraph.new.Goals as goal

pub invariant_of-result : goal.invariant_of-result
unfolding stored
invariant_of-result c = record { lawful = unjoined_graph _ _ (search rules) (empty_rows c.empty.result c.empty.ensures 256) }

pub returns-clause-pairs : goal.returns-clause-pairs
unfolding stored
returns-clause-pairs c a b = empty_rows c.empty.result c.empty.ensures 256 a b
