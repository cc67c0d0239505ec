use Rattle.std.proofs.Common.{ap, get_or-set_other, get_or-set_same, rules}
use Rattle.graph.specs.Members.{member, nothing}
use Rattle.graph.specs.Stored.{stored}
use Rattle.graph.proofs.Joining.{joining_start, joining_more, joining_end, joined_graph, members_only}
use Rattle.graph.proofs.stored.StoredGraph.join_all.Goals as goal

pub loop-a-init : goal.loop-a-init
loop-a-init c = record { long = search rules; joining = rw c.into_iter-a-iterator.ensures.into_iter_gives (joining_start _ _) }

pub loop-a-preserved : goal.loop-a-preserved
unfolding stored
loop-a-preserved c =
    let rows = c.loop-a.rows in
    let x = c.in-Some.a in
    let row = c.union.result in
    record {
      long = search rules;
      joining = joining_more _ (member c.remove.new.self) (member row) _ x c.in-Some.ensures.steps.0.0
          c.in-Some.ensures.steps.1 c.remove.ensures c.union.ensures
          (λ b. ap (λ s. member s b) (get_or-set_same rows x row nothing (search rules)))
          (λ a b n. ap (λ s. member s b) (get_or-set_other rows x a row nothing n)) c.loop-a.invariant.joining;
    }

pub invariant_of-self : goal.invariant_of-self
invariant_of-self c = record {
  lawful = joined_graph (member c.intersection-all.result) _ c.args.self.now.lawful
      (members_only c.args.set (member c.below.result) (member c.intersection-all.result) c.size.result c.size.ensures c.below.ensures c.intersection-all.ensures)
      (joining_end c.in-None.ensures.steps.0 c.loop-a.invariant.joining);
}
