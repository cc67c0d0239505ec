use Rattle.std.proofs.Common.{◌≡◌, ◌<◌, ◌≤◌, [], ◌∷◌, length, decimal, sym, append_assoc, arith, rules}
use Rattle.std.specs.List.{flat_map}
use Rattle.std.proofs.lemmas.List.{get_or-take, length-take, length-take-le}
use Rattle.table_files.specs.Grammar.{CR, LF}
use Rattle.table_files.specs.Written.{decimals, piece, row_text}
use Rattle.table_files.proofs.Back.{written_reads_back}
use Rattle.text.specs.Writers.{Wrote, room_of}
use Rattle.text.proofs.Writing.{wrote_as, wrote_both}
use Rattle.table_files.proofs.Texts.{cells_more, cells_length, decimal_short, row_length}
use Rattle.table_files.proofs.writing.put_row.Goals as goal

pub put_cell-requires : goal.put_cell-requires
put_cell-requires c =
    let i = c.loop-cell.invariant in
    let l = cells_length c.args.row.cells (λ k. search rules) c.loop-cell.cell-index in
    omega (arith, c.requires.0, c.requires.1, i.place, i.room)

pub loop-cell-preserved : goal.loop-cell-preserved
loop-cell-preserved c =
    let w = c.args.width in
    let i = c.loop-cell.cell-index in
    let cells = c.args.row.cells in
    let l = length-take w cells in
    let lt : i < length cells = omega (arith, c.loop-cell-test.true) in
    let e = get_or-take w cells i 0 (omega (arith, c.loop-cell-test.true)) in
    wrote_as (sym (cells_more cells i lt))
    (wrote_both c.loop-cell.invariant (rw e at c.put_cell.ensures) (omega (arith, c.requires.1)))

pub put_number-requires : goal.put_number-requires
put_number-requires c =
    let i = c.loop-cell.invariant in
    let l = cells_length c.args.row.cells (λ k. search rules) c.loop-cell.cell-index in
    let d = decimal_short c.args.row.sureness (search rules) in
    omega (arith, c.requires.0, c.requires.1, i.place, i.room)

pub put-requires : goal.put-requires
put-requires c =
    let i = c.loop-cell.invariant in
    let n = c.put_number.ensures in
    let l = cells_length c.args.row.cells (λ k. search rules) c.loop-cell.cell-index in
    let d = decimal_short c.args.row.sureness (search rules) in
    omega (arith, c.requires.0, c.requires.1, i.place, i.room, n.place, n.room)

pub returns : goal.returns
returns c =
    let row = c.args.row in
    let l : c.args.writer.now.at ≤ room_of c.args.writer.now = omega (arith, c.requires.1) in
    let four : c.args.width ≤ length row.cells = search rules in
    let n = length-take-le c.args.width row.cells four in
    let e : c.loop-cell.cell-index ≡ c.args.width = omega (arith, c.loop-cell-test.false, c.loop-cell.auto.cell-index-end, n) in
    let w : Wrote c.args.writer.now c.put.new.self (row_text c.args.width row) =
    wrote_as (append_assoc (flat_map piece (decimals c.args.width row)) (decimal row.sureness) (CR ∷ LF ∷ []))
    (wrote_both (wrote_both (rw e at c.loop-cell.invariant) c.put_number.ensures l) c.put.ensures l) in
    record {
      wrote = w;
      short = omega (arith, w.place, row_length c.args.width row c.requires.0 (λ j. search rules) (search rules));
      back = written_reads_back;
    }
