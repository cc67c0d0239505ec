use Rattle.std.proofs.Common.{◌≡◌, ◌-◌, map, length, sym, ap, refl, inl, inr, arith}
use Rattle.std.proofs.lemmas.Result.{err_from_is_err_and}
use Rattle.table_files.specs.Tables.{row_of}
use Rattle.book.specs.Books.{ledger}
use Rattle.book.specs.Files.{table_file_verdict}
use Rattle.book.specs.Refusals.{fault_told}
use Rattle.book.specs.Rules.{refused}
use Rattle.book.proofs.books.Book.load.Goals as goal

pub returns-in_err-read-clause-judged : goal.returns-in_err-read-clause-judged
returns-in_err-read-clause-judged c =
    let fault = c.in_err-read.field-0.0 in
    let (refusal, is, tells) = err_from_is_err_and c.from_residual.result c.from_residual.ensures.1 in
    (refused (fault_told fault), inl (fault, c.in_err-read.ensures.answer, refl), ((refusal, is, tells), refl))

pub returns-clause-judged : goal.returns-clause-judged
returns-clause-judged c =
    let (header, rows, reads, opened) = c.in_ok-read.ensures.answer in
    let width : length header - 1 ≡ c.in_ok-read.field-0.width = omega (arith, opened.width) in
    (_, inr (header, rows, reads, opened.table, ap (λ w. table_file_verdict (ledger c.args.self.now) w (map row_of rows)) (sym width)), c.add_file.ensures header rows opened)
