use Rattle.std.proofs.Common.{◌≡◌, ◌<◌, ◌≤◌, ℕ, count_ones, get_or, arith, rules}
use Rattle.std.specs.List.{sum_by}
use Rattle.graph.specs.Members.{member}
use Rattle.graph.proofs.Tallies.{tally_words, sum_four, ones_few}
use Rattle.graph.proofs.sets.MemberSet.count.Goals as goal

pub sum-requires-clause-fits : goal.sum-requires-clause-fits
sum-requires-clause-fits c =
    let words = c.args.self.words in
    let items = c.iter.result.rest.now in
    let all = sum_four count_ones items (search rules) in
    let sum = rw c.iter.ensures.rest at all in
    let few : (i : ℕ) → i < 4 → count_ones (get_or words i 0) ≤ 64 = λ i l. ones_few (get_or words i 0) (search rules) in
    let a = few 0 (omega arith) in
    let b = few 1 (omega arith) in
    let d = few 2 (omega arith) in
    let e = few 3 (omega arith) in
    let fits : sum_by count_ones items < 4294967296 = rw c.iter.ensures.rest (omega arith) in
    search rules

pub returns : goal.returns
unfolding member
returns c =
    let words = c.args.self.words in
    let items = c.iter.result.rest.now in
    let is : c.sum.result ≡ sum_by count_ones items = search rules in
    let all = sum_four count_ones items (search rules) in
    let sum = rw c.iter.ensures.rest at all in
    let same = rw c.iter.ensures.rest at is in
    let members = tally_words words (λ i l. search rules) in
    omega arith
