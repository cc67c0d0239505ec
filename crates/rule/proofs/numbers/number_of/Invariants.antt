use Rattle.rule.proofs.Walking.{Sofar}
use Rattle.rule.proofs.numbers.number_of.Given as goal

abbrev pub invariant-loop-i : goal.invariant-loop-i
invariant-loop-i l = Sofar l.digits l.at l.i l.number
