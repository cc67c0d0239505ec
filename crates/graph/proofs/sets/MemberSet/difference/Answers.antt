use Rattle.std.proofs.Common.{◌≡◌, ◌-◌, not, ◌&&◌, get_or, refl, arith, rules}
use Rattle.std.specs.Int.RustNames.{bit_and}
use Rattle.graph.specs.Members.{member}
use Rattle.graph.proofs.Bits.{by_words, four, word_without}
use Rattle.graph.proofs.sets.MemberSet.difference.Goals as goal

pub returns : goal.returns
unfolding member
returns c =
    let a = c.args.self.words in
    let b = c.args.other.words in
    let made = c.by_words.ensures in
    by_words (λ x y. x && not y) (λ x y. bit_and x (18446744073709551615 - y)) refl word_without a b _ (λ i l. search rules)
    (four (λ i. get_or _ i 0 ≡ bit_and (get_or a i 0) (18446744073709551615 - get_or b i 0)) (let w = made 0 (omega arith) in search rules)
    (let w = made 1 (omega arith) in search rules) (let w = made 2 (omega arith) in search rules) (let w = made 3 (omega arith) in search rules))
