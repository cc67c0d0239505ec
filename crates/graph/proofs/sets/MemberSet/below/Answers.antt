use Rattle.std.proofs.Common.{◌≡◌, ℕ, ◌-◌, ◌*◌, ◌<◌, ltb, get_or, arith, rules}
use Rattle.graph.specs.Members.{member}
use Rattle.graph.proofs.Bits.{has_bit, four, below_end}
use Rattle.graph.proofs.sets.MemberSet.below.Goals as goal

pub returns : goal.returns
unfolding member
returns c k =
    let end = c.args.end in
    let words = c.map.result in
    let at = c.map.ensures.items.at in
    below_end words end k (four (λ q. (j : ℕ) → j < 64 → has_bit (get_or words q 0) j ≡ ltb j (end - 64 * q))
    (λ j l. let w = at 0 0 0 (omega arith) in search rules) (λ j l. let w = at 1 0 0 (omega arith) in search rules)
    (λ j l. let w = at 2 0 0 (omega arith) in search rules) (λ j l. let w = at 3 0 0 (omega arith) in search rules))
