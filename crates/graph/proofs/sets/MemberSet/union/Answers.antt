use Rattle.std.proofs.Common.{◌≡◌, ◌||◌, get_or, refl, arith, rules}
use Rattle.std.specs.Int.RustNames.{bit_or}
use Rattle.graph.specs.Members.{member}
use Rattle.graph.proofs.Bits.{by_words, four, word_or}
use Rattle.graph.proofs.sets.MemberSet.union.Goals as goal

pub returns : goal.returns
unfolding member
returns c =
    let a = c.args.self.words in
    let b = c.args.other.words in
    let made = c.by_words.ensures in
    by_words (λ x y. x || y) bit_or refl (λ x y j _ _. word_or x y j) a b _ (λ i l. search rules)
    (four (λ i. get_or _ i 0 ≡ bit_or (get_or a i 0) (get_or b i 0)) (let w = made 0 (omega arith) in search rules)
    (let w = made 1 (omega arith) in search rules) (let w = made 2 (omega arith) in search rules) (let w = made 3 (omega arith) in search rules))
