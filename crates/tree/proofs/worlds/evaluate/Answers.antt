use Rattle.std.proofs.Common.{◌∙◌, ap₂, rules}
use Rattle.tree.specs.Passes.{form_folded, pair_under}
use Rattle.tree.proofs.Filling.{pair_leaf, leaf_read, each_sums, form_sums}
use Rattle.tree.proofs.worlds.evaluate.Goals as goal

pub returns-clause-each : goal.returns-clause-each
returns-clause-each g c F l o =
    let s = g.S.Scale in
    let ins = c.args.ins.now in
    let outs = c.args.outs.now in
    let low = c.requires.placed in
    each_sums s.ring s.mean ins outs F o _
    (c.fold.ensures.worked F (pair_leaf s.ring s.mean ins outs) l (λ k r p h n q. leaf_read s.ring s.mean ins outs r p.0 p.1 (low.0 k r h n) (low.1 k r h n) (search rules) (search rules)))

pub returns-clause-answer : goal.returns-clause-answer
returns-clause-answer g c F l o =
    let s = g.S.Scale in
    let ins = c.args.ins.now in
    let outs = c.args.outs.now in
    let low = c.requires.placed in
    let leaf = pair_leaf s.ring s.mean ins outs in
    form_sums s.ring s.mean ins outs F o _ (
    c.fold.ensures.answer F leaf l (λ k r p h n q. leaf_read s.ring s.mean ins outs r p.0 p.1 (low.0 k r h n) (low.1 k r h n) (search rules) (search rules))
    ∙ ap₂ (λ x y. form_folded (x, y) leaf (pair_under s.ring) F) c.nought.ensures c.unit.ensures
    )
