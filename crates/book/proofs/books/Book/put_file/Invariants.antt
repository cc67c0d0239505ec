use Rattle.std.proofs.Common.{◌+◌, ◌*◌, ◌≤◌, ◌++◌, map, length}
use Rattle.text.specs.Writers.{Wrote}
use Rattle.table_files.specs.Written.{header_text}
use Rattle.book.proofs.Filing.{rows_text}
use Rattle.book.proofs.books.Book.put_file.Given as goal

abbrev pub invariant-loop-row : goal.invariant-loop-row
invariant-loop-row l = record {
  can : (goal.iterator-loop-row).can_next l.row-iterator;
  ends : (goal.iterator-loop-row).is_finite l.row-iterator;
  wrote : Wrote l.fn.writer l.writer (header_text l.width ++ rows_text l.width (map (λ r. r.now) l.yielded));
  short : l.writer.at ≤ l.fn.writer.at + 18 + 56 * length l.yielded;
}
