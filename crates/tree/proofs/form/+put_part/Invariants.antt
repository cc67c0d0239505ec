use Rattle.std.proofs.Common.{◌-◌, ◌++◌, length}
use Rattle.text.specs.Writers.{Wrote}
use Rattle.tree.specs.Texts.{opening}
use Rattle.tree.proofs.TextTurns.{body}
use Rattle.tree.proofs.Visits.{Visit}
use Rattle.tree.proofs.form.+put_part.Given as goal

abbrev pub decreases-put_part : goal.decreases-put_part
decreases-put_part l = length l.layout.nodes.now - l.at

abbrev pub invariant-loop-child : goal.invariant-loop-child
invariant-loop-child l = Visit l.layout.nodes.now l.kind l.at l.size l.child-iterator (λ F f. Wrote l.fn.writer l.writer (opening l.kind l.inside ++ body l.kind f))
