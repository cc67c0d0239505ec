use Rattle.std.proofs.lemmas.List.Elements.{All-push}
use Rattle.book.specs.Ledgers.{Wide}
use Rattle.book.proofs.Keeping.{more_tables, vacant_after}
use Rattle.book.proofs.books.Book.add_table.Goals as goal

pub invariant_of-self-clause-wide : goal.invariant_of-self-clause-wide
invariant_of-self-clause-wide c = rw c.push.ensures.items (All-push Wide _ _ c.args.self.now.wide c.requires.lawful)

pub invariant_of-self-clause-lawful : goal.invariant_of-self-clause-lawful
invariant_of-self-clause-lawful c = rw c.push.ensures.items (more_tables _ c.args.width _ c.args.self.now.lawful)

pub invariant_of-self-clause-vacant : goal.invariant_of-self-clause-vacant
invariant_of-self-clause-vacant c = (rw (c.push.ensures.items, c.push.ensures.rest) (vacant_after 0 c.args.width _ _ 8 c.args.self.now.vacant.0), c.args.self.now.vacant.1)
