use Rattle.std.proofs.Common.{◌+◌, ◌<◌, ◌≤◌, length, arith, rules}
use Rattle.tree.specs.declared.Node.TheVariants.{Vacant}
use Rattle.tree.proofs.Progress.{roomed, branch_at, within}
use Rattle.tree.proofs.layout.Layout.later_children.Goals as goal
use Rattle.tree.proofs.layout.Layout.later_children.Goals.{Start}

-- the first child and all below it, and the last child and all below it, are nodes
inside : (c : Start) → (c.args.at + 1 < length c.args.self.nodes.now) × (c.args.at + c.args.size ≤ length c.args.self.nodes.now)
inside c =
    let s = c.args.self in
    let (k, e) = c.requires.there in
    let r = roomed (branch_at s.lays c.requires.inside e) in
    (omega arith, r.0)

pub bounds-self-first : goal.bounds-self-first
bounds-self-first c = (inside (goal.at.bounds-self-first c).Start).0

pub overflow_add-result : goal.overflow_add-result
overflow_add-result c =
    let s = c.args.self in
    let i = inside (goal.at.overflow_add-result c).Start in
    let w = within s.nodes.now s.lays (c.args.at + 1) Vacant i.0 in
    let k : c.args.at + 1 + c.size.result ≤ length s.nodes.now = omega (arith, c.size.ensures) in
    search rules

pub overflow_add-result-2 : goal.overflow_add-result-2
overflow_add-result-2 c = let i = inside (goal.at.overflow_add-result-2 c).Start in search rules

pub invariant_of-result : goal.invariant_of-result
invariant_of-result c = let i = inside (goal.at.invariant_of-result c).Start in search rules
