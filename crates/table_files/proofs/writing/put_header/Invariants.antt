use Rattle.std.proofs.Common.{◌+◌, ◌-◌, ◌≤◌}
use Rattle.table_files.proofs.Texts.{Named}
use Rattle.table_files.proofs.writing.put_header.Given as goal

abbrev pub invariant-loop-k : goal.invariant-loop-k
invariant-loop-k l = (1 ≤ l.k) × (l.k ≤ l.width + 1) × Named l.initial.writer l.writer (l.k - 1)
