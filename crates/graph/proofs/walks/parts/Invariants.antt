use Rattle.std.proofs.Common.{length}
use Rattle.lists.specs.Items.{items_of}
use Rattle.graph.specs.Listed.{part_in}
use Rattle.graph.specs.Members.{member, tally}
use Rattle.graph.proofs.Walking.{Listing}
use Rattle.graph.proofs.walks.parts.Given as goal

abbrev pub invariant-loop-x : goal.invariant-loop-x
invariant-loop-x g l =
    let sets = items_of l.sets in
    Listing (g.G.Graph.joins l.graph) (member l.initial.left) (member l.left) (length sets) (part_in sets)

abbrev pub decreases-loop-x : goal.decreases-loop-x
decreases-loop-x g l = tally (member l.left) 256
