use Rattle.std.proofs.Common.{◌*◌, ◌/◌, ◌%◌, ◌^◌, not, ◌&&◌, get_or, ap, ◌∙◌, arith, rules}
use Rattle.graph.specs.Members.{member}
use Rattle.graph.proofs.Bits.{has_bit, changed, without_keeps, word_without, word_one}
use Rattle.graph.proofs.sets.MemberSet.remove.Goals as goal

pub returns : goal.returns
unfolding member
returns c j =
    let k = c.args.k in
    let word = get_or c.args.self.now.words (k / 64) 0 in
    let one = (1 * 2 ^ (k % 64)) % 18446744073709551616 in
    changed (λ x y. x && not y) without_keeps c.args.self.now.words k j _ (search rules) (search rules)
    (λ i l. word_without word one i (omega arith) l ∙ ap (λ z. has_bit word i && not z) (word_one (k % 64) i (omega arith)))
