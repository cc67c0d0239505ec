use Rattle.std.proofs.Common.{◌≡◌, ◌++◌, map}
use Rattle.book.specs.Books.{ledger}
use Rattle.book.specs.Rows.{from_file}
use Rattle.book.specs.Rules.{with_rows}
use Rattle.book.proofs.books.Book.add_rows.Given as goal

abbrev pub invariant-loop-row : goal.invariant-loop-row
invariant-loop-row l = ledger l.self ≡ with_rows (ledger l.initial.self) ((ledger l.initial.self).rows ++ map (from_file l.table) l.yielded)
