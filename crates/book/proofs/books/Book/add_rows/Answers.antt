use Rattle.std.proofs.Common.{◌+◌, ◌++◌, map, sym, ap, ◌∙◌}
use Rattle.std.proofs.lemmas.Iterator.Consumers.{YieldsList-turn, YieldsList-end}
use Rattle.std.proofs.lemmas.List.{map-id}
use Rattle.book.specs.Books.{ledger}
use Rattle.book.specs.Ledgers.{width_of}
use Rattle.book.specs.Rows.{from_file}
use Rattle.book.specs.Rules.{with_rows}
use Rattle.book.proofs.Loading.{row_fits}
use Rattle.book.proofs.Walking.{walk_gives}
use Rattle.book.proofs.books.Book.add_rows.Goals as goal

pub add_row-requires : goal.add_row-requires
add_row-requires c =
    let fit = c.requires in
    let gives = walk_gives c.into_iter-row-iterator.result (width_of (ledger c.args.self.now) c.args.table + 1) fit.records (rw c.into_iter-row-iterator.ensures.into_iter_gives fit.ahead) in
    let turn = YieldsList-turn gives c.loop-row.yielded _ c.loop-row.yielded_by _ _ c.in-Some.row c.in-Some.is c.next.ensures.steps in
    let row = c.from_file.ensures in
    let (room, lawful) = row_fits fit c.loop-row.yielded c.in-Some.row c.from_file.result c.loop-row.invariant turn row.same row.small row.four in
    record { room = room; lawful = lawful }

pub returns : goal.returns
returns c = λ n records ahead.
    let before = ledger c.args.self.now in
    let gives = walk_gives c.into_iter-row-iterator.result n records (rw c.into_iter-row-iterator.ensures.into_iter_gives ahead) in
    let (all, _) = YieldsList-end gives c.loop-row.yielded _ c.loop-row.yielded_by _ _ c.in-None.is c.next.ensures.steps in
    c.loop-row.invariant ∙ ap (λ rows. with_rows before (before.rows ++ map (from_file c.args.table) rows)) (sym (map-id c.loop-row.yielded) ∙ all)
