use Rattle.rule.proofs.Walking.{Marked}
use Rattle.rule.proofs.reader.Reader.head.Given as goal

abbrev pub invariant-loop-class : goal.invariant-loop-class
invariant-loop-class l = Marked l.fn.self l.class-index l.self
