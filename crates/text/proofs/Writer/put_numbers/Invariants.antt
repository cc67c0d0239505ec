use Rattle.text.proofs.Writing.{Begun}
use Rattle.text.proofs.Writer.put_numbers.Given as goal

abbrev pub invariant-loop-number : goal.invariant-loop-number
invariant-loop-number l = Begun l.gap l.numbers l.rest l.number-index l.fn.self l.self
