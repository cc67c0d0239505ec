use Rattle.std.proofs.Common.{◌-◌, List, length}
use Rattle.rule.specs.declared.rules.Term.{Term}
use Rattle.rule.proofs.Gathering.{Begun}
use Rattle.rule.proofs.reader.Reader.atom.Given as goal

abbrev pub invariant-loop-self : goal.invariant-loop-self
invariant-loop-self l = (ts : List Term) × Begun l.fn.self l.atom l.self ts

abbrev pub decreases-loop-self : goal.decreases-loop-self
decreases-loop-self l = length l.self.text.now - l.self.at
