use Rattle.std.proofs.Common.{◌-◌, sym, ap, ◌∙◌, rules}
use Rattle.std.proofs.lemmas.Nat.{one_shl}
use Rattle.std.proofs.lemmas.Bool.{lt-ltb}
use Rattle.graph.proofs.Bits.{has_bit, word_low}
use Rattle.graph.proofs.sets.low_bits.Goals as goal

pub returns-then-n-lt64 : goal.returns-then-n-lt64
returns-then-n-lt64 c j l = ap (λ n. has_bit (n - 1) j) (one_shl c.args.n 64 (search rules)) ∙ word_low c.args.n j

pub returns-else-n-lt64 : goal.returns-else-n-lt64
returns-else-n-lt64 c j l = word_low 64 j ∙ lt-ltb j 64 l ∙ sym (lt-ltb j c.args.n (search rules))
