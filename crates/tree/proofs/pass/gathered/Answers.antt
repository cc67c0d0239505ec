use Rattle.std.proofs.Common.{◌+◌, arith}
use Rattle.tree.proofs.Progress.{Branch, branch_at, roomed}
use Rattle.tree.proofs.Turns.{Means, means_read, means_more}
use Rattle.tree.proofs.Visits.{visit_first, visit_inside, visit_next, visit_end}
use Rattle.tree.proofs.pass.gathered.Goals.{Start}
use Rattle.tree.proofs.pass.gathered.Goals as goal

here : (g : _) (c : Start g) → Branch c.args.layout.nodes.now c.args.kind c.args.at c.args.size
here g c = branch_at c.args.layout.lays c.requires.inside c.requires.there

pub bounds-values-at : goal.bounds-values-at
bounds-values-at g c = omega (arith, roomed (here g (goal.at.bounds-values-at g c).Start))

pub loop-child-init : goal.loop-child-init
loop-child-init g c =
    let a = c.args in
    let e = c.later_children-child-items.ensures in
    let b = here g (goal.at.loop-child-init g c).Start in
    let r = roomed b in
    visit_first b (Means g.V.Combine.mean g.V.Combine.op a.at a.values.now c.index-values-at.result) c.into_iter-child-iterator.ensures.into_iter_gives e.nodes e.begin e.end
    (λ F l. means_read g.V.Combine.mean g.V.Combine.op a.at a.values.now a.layout.nodes.now F l (a.at + 1) _ (omega arith) (omega arith) c.index-values-at.is)

pub loop-child-preserved : goal.loop-child-preserved
loop-child-preserved g c =
    let a = c.args in
    let b = here g (goal.at.loop-child-preserved g c).Start in
    let (s, h) = visit_inside b c.next.ensures.steps c.loop-child.invariant c.in-Some.child c.in-Some.is in
    visit_next b c.next.ensures.steps c.loop-child.invariant c.in-Some.child c.in-Some.is _
    (λ F l. means_more g.V.Combine.mean g.V.Combine.op a.at a.values.now a.layout.nodes.now F l a.kind c.in-Some.child c.loop-child.value c.index-values-child.result c.combine-value.result s h c.index-values-child.is c.combine-value.ensures)

pub returns : goal.returns
returns g c F leaf l w = visit_end (here g (goal.at.returns g c).Start) c.next.ensures.steps c.loop-child.invariant c.in-None.is F l leaf w
