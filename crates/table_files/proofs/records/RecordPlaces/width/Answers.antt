use Rattle.std.proofs.Common.{◌-◌, [], get_or, arith}
use Rattle.table_files.proofs.Contents.{sure_width}
use Rattle.table_files.proofs.records.RecordPlaces.width.Goals as goal

pub returns : goal.returns
returns c = λ values rest records h.
    let k = c.args.self.fields - 1 in
    let n = h.fields in
    rw c.then_some.ensures
    (sure_width values k c.content.result.now (omega arith) (omega arith) (omega arith) (c.content.ensures (get_or values k []) (h.stand k (omega arith) (omega arith))) c.is_sure.result c.is_sure.ensures)
