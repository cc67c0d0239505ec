use Rattle.std.proofs.Common.{◌&&◌, eqb, ap, ◌∙◌, rules}
use Rattle.graph.specs.Members.{member}
use Rattle.graph.proofs.Bits.{or_keeps}
use Rattle.graph.proofs.Walking.{walk_start, walk_more, walk_less, walk_end}
use Rattle.graph.proofs.walks.part.Goals as goal

pub loop-x-init : goal.loop-x-init
loop-x-init g c =
    walk_start (member c.from.result) (member c.intersection-frontier.result) (member c.difference-rest.result)
    (λ y. c.from.ensures y ∙ or_keeps (eqb y c.args.start)) c.intersection-frontier.ensures c.difference-rest.ensures

pub loop-x-smaller : goal.loop-x-smaller
loop-x-smaller g c =
    walk_less c.in-Some.x (member c.pop_first.new.self) (member c.intersection-fresh.result) (member c.difference-rest-in-Some.result)
    (member c.union-frontier.result) c.in-Some.ensures.0.0 c.in-Some.ensures.1
    (λ y. c.intersection-fresh.ensures y ∙ ap (λ t. t && member c.loop-x.rest y) (c.neighbours.ensures y))
    c.difference-rest-in-Some.ensures c.union-frontier.ensures c.loop-x.invariant (search rules)

pub loop-x-preserved : goal.loop-x-preserved
loop-x-preserved g c =
    walk_more c.in-Some.x (member c.pop_first.new.self) (member c.intersection-fresh.result) (member c.difference-rest-in-Some.result)
    (member c.union-frontier.result) c.in-Some.ensures.0.0 c.in-Some.ensures.1
    (λ y. c.intersection-fresh.ensures y ∙ ap (λ t. t && member c.loop-x.rest y) (c.neighbours.ensures y))
    c.difference-rest-in-Some.ensures c.union-frontier.ensures c.loop-x.invariant

pub returns : goal.returns
returns g c = walk_end (member c.difference.result) c.difference.ensures c.in_default.ensures.0 c.loop-x.invariant
