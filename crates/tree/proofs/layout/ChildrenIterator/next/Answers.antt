use Rattle.std.proofs.Common.{◌+◌, ◌≤◌, length, arith, rules}
use Rattle.tree.specs.declared.Node.TheVariants.{Vacant}
use Rattle.tree.proofs.Progress.{within}
use Rattle.tree.proofs.layout.ChildrenIterator.next.Goals as goal

pub overflow_add-self : goal.overflow_add-self
overflow_add-self c =
    let s = c.args.self.now in
    let w = within s.layout.nodes.now s.layout.lays s.at Vacant (omega (arith, s.inside, c.if-self.false)) in
    let k : s.at + c.size.result ≤ length s.layout.nodes.now = omega (arith, c.size.ensures) in
    search rules

pub returns-clause-goes : goal.returns-clause-goes
returns-clause-goes c =
    let s = c.args.self.now in
    let w = within s.layout.nodes.now s.layout.lays s.at Vacant (omega (arith, s.inside, c.if-self.false)) in
    let k : s.at + 1 ≤ s.at + c.size.result = omega (arith, c.size.ensures) in
    search rules
