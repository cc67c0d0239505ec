use Rattle.graph.specs.Members.{member}
use Rattle.graph.proofs.Deciding.{same_answer}
use Rattle.graph.proofs.Joining.{members_same}
use Rattle.graph.proofs.Theorem.{splits_iff_no_chain}
use Rattle.graph.proofs.splits.split.Goals as goal

pub returns : goal.returns
returns g c = record {
  answer = same_answer _ _ (members_same c.args.selected (member c.below.result) (member c.intersection.result) c.size.result c.size.ensures
      c.below.ensures c.intersection.ensures) c.split_members.result c.split_members.ensures;
  theorem = splits_iff_no_chain (g.met.G.Graph.laws c.args.graph.now);
}
