use Rattle.std.proofs.Common.{map, take, decimal}
use Rattle.std.specs.List.{flat_map}
use Rattle.text.specs.Writers.{Wrote}
use Rattle.table_files.specs.Written.{piece}
use Rattle.table_files.proofs.writing.put_row.Given as goal

abbrev pub invariant-loop-cell : goal.invariant-loop-cell
invariant-loop-cell l = Wrote l.initial.writer l.writer (flat_map piece (map decimal (take l.cell-index l.fn.row.cells)))
