use Rattle.tree.proofs.Folding.{Folding}
use Rattle.tree.proofs.pass.fold.Given as goal

abbrev pub invariant-loop-at : goal.invariant-loop-at
invariant-loop-at g l = Folding g.V.Combine.mean g.V.Combine.op (goal.L-post g l.leaf) l.layout.nodes.now l.initial.values l.at l.values
