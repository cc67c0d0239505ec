use Rattle.std.proofs.Common.{◌/◌, ◌^◌, ◌<◌, get_or, rules}
use Rattle.graph.specs.Members.{member}
use Rattle.graph.proofs.Bits.{lowest_some, none_in}
use Rattle.graph.proofs.sets.MemberSet.lowest.Goals as goal

pub returns-then-word-ne0 : goal.returns-then-word-ne0
unfolding member
returns-then-word-ne0 c =
    let word = get_or c.args.self.words c.loop-i.i 0 in
    let small : word < 2 ^ 64 = search rules in
    let some : 0 < word = search rules in
    lowest_some c.args.self.words c.loop-i.i (search rules) some small c.loop-i.invariant

pub returns : goal.returns
unfolding member
returns c k = none_in c.args.self.words k (λ h. c.loop-i.invariant (k / 64) (search rules))
