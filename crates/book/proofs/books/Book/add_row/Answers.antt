use Rattle.std.proofs.lemmas.List.Elements.{All-push}
use Rattle.lists.specs.Items.{items_of}
use Rattle.book.specs.Ledgers.{LawfulRow}
use Rattle.book.specs.Rows.{vacant}
use Rattle.book.proofs.Keeping.{vacant_after}
use Rattle.book.proofs.books.Book.add_row.Goals as goal

pub invariant_of-self-clause-lawful : goal.invariant_of-self-clause-lawful
invariant_of-self-clause-lawful c = rw c.push.ensures.items (All-push (LawfulRow (items_of c.args.self.now.widths)) _ _ c.args.self.now.lawful c.requires.lawful)

pub invariant_of-self-clause-vacant : goal.invariant_of-self-clause-vacant
invariant_of-self-clause-vacant c = (c.args.self.now.vacant.0, rw (c.push.ensures.items, c.push.ensures.rest) (vacant_after vacant c.args.row _ _ 256 c.args.self.now.vacant.1))
