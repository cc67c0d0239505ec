use Rattle.std.proofs.lemmas.Bool.{both_ways}
use Rattle.graph.specs.Members.{member}
use Rattle.graph.proofs.Apart.{coapart}
use Rattle.graph.proofs.Deciding.{two_members, finds}
use Rattle.graph.proofs.splits.split_members.Goals as goal

pub returns-in-Some-two_or_more-2 : goal.returns-in-Some-two_or_more-2
returns-in-Some-two_or_more-2 g c = coapart (g.met.G.Graph.laws c.args.graph.now) c.requires c.in-Some-two_or_more-2.ensures

pub unwrap-requires : goal.unwrap-requires
unwrap-requires g c =
    finds (g.met.G.Graph.laws c.args.graph.now) c.requires
    (two_members c.in-Some.first (member c.pop_first.new.self) c.in-Some.ensures.0.0 c.in-Some.ensures.1 (λ none. both_ways _ c.if-is_empty.false (c.is_empty.ensures.1 none)))
    c.in_default-two_or_more.ensures c.in_default-two_or_more-2.ensures c.chain.result c.chain.ensures
