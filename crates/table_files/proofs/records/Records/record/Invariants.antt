use Rattle.std.proofs.Common.{◌≡◌, ◌-◌, length}
use Rattle.table_files.proofs.Walking.{Going}
use Rattle.table_files.proofs.records.Records.record.Given as goal

abbrev pub invariant-loop-self : goal.invariant-loop-self
invariant-loop-self l = (l.self.text ≡ l.fn.self.text) × Going l.self.text.now l.fn.self.at l.self.at l.record

abbrev pub decreases-loop-self : goal.decreases-loop-self
decreases-loop-self l = length l.self.text.now - l.self.at
