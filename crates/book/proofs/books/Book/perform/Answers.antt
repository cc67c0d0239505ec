use Rattle.std.proofs.Common.{refl, rules}
use Rattle.book.specs.Books.{ledger}
use Rattle.book.specs.Rules.{table_verdict, row_verdict, reweigh_verdict, strike_verdict}
use Rattle.book.specs.declared.calls.Answer.TheVariants.{Number, Done}
use Rattle.book.proofs.Running.{answered}
use Rattle.book.proofs.books.Book.perform.Goals as goal

pub returns-in-Table : goal.returns-in-Table
returns-in-Table c = (_, rw c.in-Table.is refl, answered Number (table_verdict (ledger c.args.self.now) c.in-Table.width) c.table.result c.map.result c.args.self.now c.table.new.self (λ a b p. p) c.map.ensures.cases c.table.ensures)

pub returns-in-Row : goal.returns-in-Row
returns-in-Row c = (_, rw c.in-Row.is refl, answered Number (row_verdict (ledger c.args.self.now) c.in-Row.table c.in-Row.cells.now c.in-Row.sureness) c.row.result c.map-in-Row.result c.args.self.now c.row.new.self (λ a b p. p) c.map-in-Row.ensures.cases c.row.ensures)

pub returns-in-Reweigh : goal.returns-in-Reweigh
returns-in-Reweigh c = (_, rw c.in-Reweigh.is refl, answered (λ _. Done) (reweigh_verdict (ledger c.args.self.now) c.in-Reweigh.row c.in-Reweigh.sureness) c.reweigh.result c.map-in-Reweigh.result c.args.self.now c.reweigh.new.self (λ a b p. search rules) c.map-in-Reweigh.ensures.cases c.reweigh.ensures)

pub returns-in-Strike : goal.returns-in-Strike
returns-in-Strike c = (_, rw c.in-Strike.is refl, answered (λ _. Done) (strike_verdict (ledger c.args.self.now) c.in-Strike.row) c.strike.result c.map-in-Strike.result c.args.self.now c.strike.new.self (λ a b p. search rules) c.map-in-Strike.ensures.cases c.strike.ensures)

pub returns-in-Load : goal.returns-in-Load
returns-in-Load c = let (w, j, o) = c.load.ensures.judged in (_, rw c.in-Load.is (w, j, refl), answered Number w c.load.result c.map-in-Load.result c.args.self.now c.load.new.self (λ a b p. p) c.map-in-Load.ensures.cases o)
