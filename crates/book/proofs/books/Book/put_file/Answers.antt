use Rattle.std.proofs.Common.{filter, ◌++◌, map, sym, ap, ◌∙◌, append_assoc, append-nil, arith, rules}
use borrow.Author.Tests.{tests}
use Rattle.std.specs.Iterator.Adapters.{filter_source, filter_callee}
use Rattle.std.specs.Slice.Iter.{iter_rest}
use Rattle.std.proofs.lemmas.List.{length_push}
use Rattle.std.proofs.lemmas.Iterator.{YieldsList-from_slice}
use Rattle.std.proofs.lemmas.Iterator.Consumers.{YieldsList-from_filter, YieldsList-end}
use Rattle.text.proofs.Writing.{wrote_as, wrote_both}
use Rattle.table_files.specs.Written.{header_text, row_text}
use Rattle.book.specs.Books.{ledger}
use Rattle.book.specs.Files.{written?}
use Rattle.book.proofs.Filing.{rows_text, rows_text_more}
use Rattle.book.proofs.books.Book.put_file.Goals as goal

pub loop-row-init : goal.loop-row-init
loop-row-init c = record { can = search rules; ends = tt; wrote = wrote_as (sym (append-nil (header_text c.args.width))) c.put_header.ensures.wrote; short = omega arith }

pub loop-row-preserved : goal.loop-row-preserved
loop-row-preserved c =
    let w = c.args.width in
    let done = c.loop-row.invariant in
    let put = c.put_row.ensures in
    let text = rows_text w (map (λ r. r.now) c.loop-row.yielded) in
    let grown = append_assoc (header_text w) text (row_text w c.to_file.result) ∙ ap (λ t. header_text w ++ t) (ap (λ r. text ++ row_text w r) c.to_file.ensures ∙ rows_text_more w c.loop-row.yielded c.in-Some.row) in
    record {
      can = search rules;
      ends = tt;
      wrote = wrote_as grown (wrote_both done.wrote put.wrote (omega arith));
      short = omega (arith, length_push c.loop-row.yielded c.in-Some.row);
    }

pub returns : goal.returns
returns c =
    let source = ap filter_source c.into_iter-row-iterator.ensures.into_iter_gives ∙ c.filter-row-items.ensures.source in
    let callee = ap filter_callee c.into_iter-row-iterator.ensures.into_iter_gives ∙ c.filter-row-items.ensures.closure in
    let (all, _) = YieldsList-end (YieldsList-from_filter _ (written? c.args.table) (YieldsList-from_slice (ledger c.args.self.now).rows (ap iter_rest source ∙ c.iter.ensures.rest ∙ c.rows.ensures)) callee (λ x r q k. search (rules, tests))) c.loop-row.yielded _ c.loop-row.yielded_by _ _ c.in-None.is c.next.ensures.steps in
    let same = ap (λ rows. header_text c.args.width ++ rows_text c.args.width rows) all ∙ ap (λ w. header_text w ++ rows_text w (filter (written? c.args.table) (ledger c.args.self.now).rows)) c.requires.open.1 in
    wrote_as same c.loop-row.invariant.wrote
