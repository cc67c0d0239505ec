use Rattle.std.proofs.Common.{◌*◌, ◌/◌, ◌%◌, ◌^◌, ◌||◌, get_or, ap, ◌∙◌, arith, rules}
use Rattle.graph.specs.Members.{member}
use Rattle.graph.proofs.Bits.{has_bit, changed, or_keeps, word_or, word_one}
use Rattle.graph.proofs.sets.MemberSet.insert.Goals as goal

pub returns : goal.returns
unfolding member
returns c j =
    let k = c.args.k in
    let word = get_or c.args.self.now.words (k / 64) 0 in
    changed (λ x y. x || y) or_keeps c.args.self.now.words k j _ (search rules) (search rules)
    (λ i l. word_or word ((1 * 2 ^ (k % 64)) % 18446744073709551616) i ∙ ap (λ z. has_bit word i || z) (word_one (k % 64) i (omega arith)))
