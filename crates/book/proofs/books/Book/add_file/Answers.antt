use Rattle.std.proofs.Common.{ℕ, ◌++◌, map, length, Ok, ap, ap₂, ◌∙◌, refl, arith}
use lib.ListN.{length-map}
use Rattle.table_files.specs.Tables.{row_of}
use Rattle.book.specs.Books.{ledger}
use Rattle.book.specs.Ledgers.{Ledger}
use Rattle.book.specs.Rows.{from_file}
use Rattle.book.specs.Rules.{with_rows}
use Rattle.book.proofs.Keeping.{items_few}
use Rattle.book.proofs.Loading.{file_accepted, file_full}
use Rattle.book.proofs.books.Book.add_file.Goals as goal

pub returns-then-file-left : goal.returns-then-file-left
returns-then-file-left c = λ header rows opened.
    let l = ledger c.args.self.now in
    let n = ap length c.widths-table.ensures in
    let m = ap length c.rows.ensures in
    let count = length-map rows row_of in
    let few = items_few c.args.self.now.rows in
    let sure = c.in_ok-sure_rows.ensures (length header) rows opened.ahead in
    rw (file_full l c.args.file.width (map row_of rows) (omega arith) sure (omega arith) (omega (arith, opened.count)), m) ((_, refl, refl), refl)

pub returns : goal.returns
returns c = λ header rows opened.
    let l = ledger c.args.self.now in
    let n = ap length c.widths-table.ensures in
    let m = ap length c.rows.ensures in
    let count = length-map rows row_of in
    let few = items_few c.args.self.now.rows in
    let sure = c.in_ok-sure_rows.ensures (length header) rows opened.ahead in
    rw (file_accepted l c.args.file.width (map row_of rows) (omega arith) sure (omega (arith, opened.count)))
    (ap Ok n, c.add_rows.ensures (length header) rows opened.ahead ∙ ap₂ (λ (m : Ledger) (table : ℕ). with_rows m (m.rows ++ map (from_file table) (map row_of rows))) c.add_table.ensures n)
