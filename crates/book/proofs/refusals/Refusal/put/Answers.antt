use Rattle.std.proofs.Common.{arith}
use Rattle.book.specs.Refusals.{told}
use Rattle.book.proofs.Telling.{record_written}
use Rattle.book.proofs.refusals.Refusal.put.Goals as goal

pub returns : goal.returns
returns c = record_written (told c.args.self) c.number.ensures c.place-record.ensures (omega arith) c.put.ensures c.put_number.ensures c.put-2.ensures c.put_number-2.ensures c.put-3.ensures c.put_number-3.ensures c.put-4.ensures
