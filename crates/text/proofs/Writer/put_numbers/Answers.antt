use Rattle.std.proofs.Common.{arith}
use Rattle.text.proofs.Writing.{first_room, begun_first, begun_room, begun_more, begun_all}
use Rattle.text.proofs.Writer.put_numbers.Goals as goal

pub put_number-requires : goal.put_number-requires
put_number-requires c = first_room _ _ c.args.self.now (omega arith) c.requires

pub loop-number-init : goal.loop-number-init
loop-number-init c = begun_first (omega arith) c.put_number.ensures

pub put-requires : goal.put-requires
put-requires c = let k = begun_room c.loop-number.invariant c.loop-number-test.true c.requires in omega arith

pub put_number-requires-in-loop-number : goal.put_number-requires-in-loop-number
put_number-requires-in-loop-number c =
    let k = begun_room c.loop-number.invariant c.loop-number-test.true c.requires in omega (arith, c.put.ensures.room, c.put.ensures.place)

pub loop-number-preserved : goal.loop-number-preserved
loop-number-preserved c = begun_more c.loop-number.invariant c.loop-number-test.true c.put.ensures c.put_number-in-loop-number.ensures c.requires

pub returns : goal.returns
returns c = begun_all c.loop-number.invariant c.loop-number-test.false
