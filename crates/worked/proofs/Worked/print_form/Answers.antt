use Rattle.std.proofs.Common.{sym, arith, length-take-le}
use Rattle.tree.specs.Formulas.{form}
use Rattle.worked.specs.Examples.{worked}
use Rattle.worked.proofs.Placed.{worked_room}
use Rattle.worked.proofs.Worked.print_form.Goals as goal

pub write_form-length-requires : goal.write_form-length-requires
write_form-length-requires c = worked_room c.args.self.layout.nodes.now c.args.self.laid

pub slice_bounds-text-end : goal.slice_bounds-text-end
slice_bounds-text-end c = let h = (c.write_form-length.ensures.ends (form worked) c.args.self.laid).1 in omega arith

pub slice_bounds-write_all-end : goal.slice_bounds-write_all-end
slice_bounds-write_all-end c =
    let h = (c.write_form-length.ensures.ends (form worked) c.args.self.laid).1 in
    sym (length-take-le c.write_form-length.result c.write_form-length.new.out (omega (arith, c.write_form-length.auto.out)))
