use Rattle.std.proofs.Common.{◌-◌, List, length}
use Rattle.rule.specs.Grammar.{Said}
use Rattle.rule.proofs.Gathering.{Gathered}
use Rattle.rule.proofs.reading.read.Given as goal

abbrev pub invariant-loop-reader : goal.invariant-loop-reader
invariant-loop-reader l = (said : List Said) × Gathered l.text l.rule l.reader said

abbrev pub decreases-loop-reader : goal.decreases-loop-reader
decreases-loop-reader l = length l.text - l.reader.at
