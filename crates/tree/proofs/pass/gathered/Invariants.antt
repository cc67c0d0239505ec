use Rattle.tree.proofs.Turns.{Means}
use Rattle.tree.proofs.Visits.{Visit}
use Rattle.tree.proofs.pass.gathered.Given as goal

abbrev pub invariant-loop-child : goal.invariant-loop-child
invariant-loop-child g l = Visit l.layout.nodes.now l.kind l.at l.size l.child-iterator (Means g.V.Combine.mean g.V.Combine.op l.at l.values l.value)
