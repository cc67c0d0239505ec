use Rattle.std.proofs.Common.{arith, rules}
use Rattle.text.proofs.Writing.{wrote_both}
use Rattle.table_files.proofs.Texts.{decimal_short}
use Rattle.table_files.proofs.writing.put_cell.Goals as goal

pub put_number-requires : goal.put_number-requires
put_number-requires c = let d = decimal_short c.args.number (search rules) in omega (arith, c.requires)

pub put-requires : goal.put-requires
put-requires c =
    let d = decimal_short c.args.number (search rules) in
    let n = c.put_number.ensures in
    omega (arith, c.requires, n.place, n.room)

pub returns : goal.returns
returns c = wrote_both c.put_number.ensures c.put.ensures (omega (arith, c.requires))
