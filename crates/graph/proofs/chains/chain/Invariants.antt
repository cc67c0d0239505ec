use Rattle.std.proofs.Common.{◌≡◌, ℕ, true, false}
use Rattle.graph.specs.Graphs.{ChainIn}
use Rattle.graph.specs.Members.{member, tally}
use Rattle.graph.proofs.Searching.{Untried}
use Rattle.graph.proofs.chains.chain.Given as goal

abbrev pub invariant-loop-b : goal.invariant-loop-b
invariant-loop-b g l =
    let set = member l.selected in
    Untried (λ b. set b ≡ true) (λ b. (a : ℕ) × ((c : ℕ) × ((d : ℕ) × ChainIn (g.G.Graph.joins l.graph) set a b c d))) (member l.left)

abbrev pub decreases-loop-b : goal.decreases-loop-b
decreases-loop-b g l = tally (member l.left) 256

abbrev pub invariant-loop-c : goal.invariant-loop-c
invariant-loop-c g l =
    let joined = g.G.Graph.joins l.graph in
    let set = member l.selected in
    let third = member l.initial.c-iterator.left in
    Untried (λ c. third c ≡ true) (λ c. (third c ≡ true) × ((a : ℕ) × ((d : ℕ) × ChainIn joined set a l.b c d))) (member l.c-iterator.left)

abbrev pub invariant-loop-a : goal.invariant-loop-a
invariant-loop-a g l =
    let first = member l.initial.a-iterator.left in
    Untried (λ a. first a ≡ true)
    (λ a. (first a ≡ true) × ((d : ℕ) × (member l.last d ≡ true) × (g.G.Graph.joins l.graph a d ≡ false))) (member l.a-iterator.left)
