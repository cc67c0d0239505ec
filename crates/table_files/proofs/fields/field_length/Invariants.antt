use Rattle.table_files.proofs.fields.field_length.Given as goal
use Rattle.table_files.proofs.Ending.{InsideField}

abbrev pub invariant-loop-i : goal.invariant-loop-i
invariant-loop-i l = InsideField l.text l.i l.reader
