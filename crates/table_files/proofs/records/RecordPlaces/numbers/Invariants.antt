use Rattle.std.proofs.Common.{min, length, take}
use Rattle.table_files.proofs.Numbering.{Counted}
use Rattle.table_files.proofs.records.RecordPlaces.numbers.Given as goal

abbrev pub invariant-loop-left : goal.invariant-loop-left
invariant-loop-left l = Counted l.self.text.now (take (min l.self.fields 5) l.self.places) l.field l.left l.numbers

abbrev pub decreases-loop-left : goal.decreases-loop-left
decreases-loop-left l = length l.left
