use Rattle.std.proofs.Common.{sym, ap, ◌∙◌}
use Rattle.std.proofs.lemmas.Bool.{and_parts, and_from, ne_eqb, not-true, not_from_false, both_ways}
use Rattle.graph.specs.Members.{member}
use Rattle.graph.proofs.Searching.{untried_more, untried_none, end_fits, end_has, chain_made, chain_first, chain_last, chain_reversed}
use Rattle.graph.proofs.Tallies.{taken_less}
use Rattle.graph.proofs.chains.chain.Goals as goal

pub loop-b-smaller : goal.loop-b-smaller
loop-b-smaller g c = taken_less _ _ _ c.in-Some.ensures

-- no chain has b as its second and one of those left as its third
pub loop-b-preserved : goal.loop-b-preserved
loop-b-preserved g c =
    let G = g.met.G.Graph.laws c.args.graph.now in
    let b = c.in-Some.b in
    untried_more _ b c.in-Some.ensures.1
    (λ h. let x = h.1.0 in
    let chain = h.1.1.1 in
    let left = c.in-Some.ensures.1 x
    ∙ and_from _ _ (c.loop-b.invariant.hope x (h.1.1.0, (b, (h.0, chain_reversed G chain)))) (not_from_false _ (ne_eqb x b (λ e. both_ways _ (G.irreflexive x) (rw (← e) at chain.chain.bc)))) in
    untried_none c.in-None.ensures.steps.0 c.loop-c.invariant x (
      ap (λ s. member s x) c.into_iter-c-iterator.ensures.into_iter_gives ∙ c.intersection-c-items.ensures x ∙ and_from _ _ (c.neighbours-near_b.ensures x ∙ chain.chain.bc) left,
      (h.0, (h.1.1.0, chain)),
    ))
    c.loop-b.invariant

-- no chain has b and c in the middle
pub loop-c-preserved : goal.loop-c-preserved
loop-c-preserved g c =
    let G = g.met.G.Graph.laws c.args.graph.now in
    untried_more _ c.in-Some-c.c c.in-Some-c.ensures.steps.1
    (λ h. let a = h.1.0 in
    let d = h.1.1.0 in
    let chain = h.1.1.1 in
    untried_none c.in-None-a.ensures.steps.0 c.loop-a.invariant a (
      ap (λ s. member s a) c.into_iter-a-iterator.ensures.into_iter_gives
          ∙ end_has c.neighbours-near_b.ensures c.neighbours-near_c.ensures c.difference-in-loop-c.ensures c.intersection-a-items.ensures a (chain_first G chain),
      (d, end_has c.neighbours-near_c.ensures c.neighbours-near_b.ensures c.difference.ensures c.intersection-last.ensures d (chain_last G chain), chain.chain.ad),
    ))
    c.loop-c.invariant

pub returns-in-Some-lowest : goal.returns-in-Some-lowest
returns-in-Some-lowest g c =
    let a = c.in-Some-a.a in
    let b = c.in-Some.b in
    let x = c.in-Some-c.c in
    let d = c.in-Some-lowest.d in
    let first = ap (λ s. member s a) (sym c.into_iter-a-iterator.ensures.into_iter_gives) ∙ c.loop-a.invariant.fits a c.in-Some-a.ensures.steps.0.0 in
    let third = ap (λ s. member s x) (sym c.into_iter-c-iterator.ensures.into_iter_gives) ∙ c.loop-c.invariant.fits x c.in-Some-c.ensures.steps.0.0 in
    let p = and_parts _ _ (sym (c.intersection-c-items.ensures x) ∙ third) in
    let left = and_parts _ _ (sym (c.in-Some.ensures.1 x) ∙ p.1) in
    let q = and_parts _ _ (sym (c.difference-in-loop-a.ensures d) ∙ c.in-Some-lowest.ensures.0) in
    chain_made (g.met.G.Graph.laws c.args.graph.now) (c.loop-b.invariant.fits b c.in-Some.ensures.0.0) (c.loop-b.invariant.fits x left.0)
    (sym (c.neighbours-near_b.ensures x) ∙ p.0)
    (end_fits c.neighbours-near_b.ensures c.neighbours-near_c.ensures c.difference-in-loop-c.ensures c.intersection-a-items.ensures a first)
    (end_fits c.neighbours-near_c.ensures c.neighbours-near_b.ensures c.difference.ensures c.intersection-last.ensures d q.0)
    (sym (c.neighbours.ensures d) ∙ not-true _ q.1)
