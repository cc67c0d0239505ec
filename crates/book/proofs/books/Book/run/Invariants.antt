use Rattle.std.proofs.Common.{take}
use Rattle.book.specs.Books.{ledger}
use Rattle.book.specs.Runs.{LedgerOf}
use Rattle.book.proofs.books.Book.run.Given as goal

abbrev pub invariant-loop-call : goal.invariant-loop-call
invariant-loop-call l = LedgerOf (take l.call-index l.calls) (ledger l.book)
