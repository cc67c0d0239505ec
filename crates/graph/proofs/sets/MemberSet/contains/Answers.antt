use Rattle.std.proofs.Common.{◌/◌, ◌%◌, ◌^◌, eqb, get_or, ap, rules}
use lib.Bits.{and_mask}
use Rattle.std.proofs.lemmas.Bool.{lt-ltb}
use Rattle.graph.specs.Members.{member}
use Rattle.graph.proofs.sets.MemberSet.contains.Goals as goal

pub returns : goal.returns
unfolding member
returns c =
    let k = c.args.k in
    rw (lt-ltb k 256 (search rules)) (ap (λ n. eqb n 1) (and_mask (get_or c.args.self.words (k / 64) 0 / 2 ^ (k % 64)) 1))
