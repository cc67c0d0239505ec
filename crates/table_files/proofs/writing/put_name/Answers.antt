use Rattle.std.proofs.Common.{length, ap, arith}
use Rattle.std.proofs.lemmas.Fmt.{decimal_digit}
use Rattle.text.proofs.Writing.{wrote_both}
use Rattle.table_files.proofs.writing.put_name.Goals as goal

pub put_number-requires : goal.put_number-requires
put_number-requires c =
    let d = ap length (decimal_digit c.args.k c.requires.0) in omega (arith, c.requires.1, c.put.ensures.place, c.put.ensures.room)

pub put-requires-2 : goal.put-requires-2
put-requires-2 c =
    let d = ap length (decimal_digit c.args.k c.requires.0) in
    let n = c.put_number.ensures in
    omega (arith, c.requires.1, c.put.ensures.place, c.put.ensures.room, n.place, n.room)

pub returns : goal.returns
returns c =
    let l = c.requires.1 in
    wrote_both (wrote_both c.put.ensures c.put_number.ensures (omega (arith, l))) c.put-2.ensures (omega (arith, l))
