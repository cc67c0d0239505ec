use Rattle.table_files.proofs.reader.check.Given as goal
use Rattle.table_files.proofs.Checks.{Sofar}

abbrev pub invariant-loop-byte : goal.invariant-loop-byte
invariant-loop-byte l = Sofar l.text l.byte-index l.reader
