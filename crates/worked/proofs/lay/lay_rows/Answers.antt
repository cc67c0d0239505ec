use Rattle.std.proofs.Common.{◌≡◌, ◌+◌, map, length, sym, ap, ◌∙◌, subst, arith, take_all, length-set}
use Rattle.tree.specs.Formulas.{row}
use Rattle.tree.specs.Nodes as Nodes
use Rattle.tree.specs.Layout.{nodes_of}
use Rattle.tree.specs.Trees.{LaidBetween, over}
use Rattle.worked.proofs.Laying.{rows_children, row_more, nodes_length}
use Rattle.worked.proofs.lay.lay_rows.Goals as goal

pub loop-row-preserved : goal.loop-row-preserved
loop-row-preserved c =
    let b = c.args.builder.now in
    let i = c.loop-row.invariant in
    let p = c.put_row.ensures in (
      omega (arith, i.0, p.place),
      p.memory ∙ i.1,
      p.room ∙ i.2,
      row_more b.nodes.now c.loop-row.builder.nodes.now c.put_row.new.self.nodes.now (b.at + 1) c.loop-row.row-index c.loop-row.builder.at c.put_row.new.self.at c.args.rows.now
          (omega (arith, c.requires.room)) c.loop-row-test.true i.3 p.nodes p.place,
    )

pub returns-clause-laid : goal.returns-clause-laid
returns-clause-laid c =
    let b = c.args.builder.now in
    let k = c.args.kind in
    let rs = c.args.rows.now in
    let w = c.loop-row.builder in
    let i = c.loop-row.invariant in
    let o = c.open-place.ensures in
    let e = c.close.ensures in
    let n : c.loop-row.row-index ≡ length rs = omega arith in
    let all = subst (λ xs. LaidBetween b.nodes.now w.nodes.now (b.at + 1) w.at (map row xs)) (take_all c.loop-row.row-index rs (omega arith)) i.3 in
    let at = subst (λ m. LaidBetween b.nodes.now w.nodes.now (m + 1) w.at (map row rs)) (sym o.place) all in
    let written = (e.laid b.nodes.now (map row rs) (rows_children k rs c.requires.two c.requires.order) (omega (arith, o.place, c.requires.room)) at).0 in
    record {
      memory = e.memory ∙ i.1;
      room = ap length e.node ∙ length-set w.nodes.now c.open-place.result _ ∙ i.2;
      nodes = written ∙ ap (λ m. Nodes.written b.nodes.now m (nodes_of (over k (map row rs)))) o.place;
      place = omega (arith, e.next, i.0, nodes_length k rs c.requires.two c.requires.order);
    }
