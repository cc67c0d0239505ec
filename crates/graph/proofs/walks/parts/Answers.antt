use Rattle.std.proofs.Common.{[], ◌∷◌, ap, length-append, rules}
use Rattle.std.proofs.Math.ListN.{get_or-append}
use Rattle.std.proofs.Math.Seq.{get_or-append_seam}
use Rattle.lists.specs.Items.{items_of}
use Rattle.graph.specs.Members.{member, nothing}
use Rattle.graph.proofs.Walking.{listing_start, listing_more, listing_less, room_left}
use Rattle.graph.proofs.walks.parts.Goals as goal

pub loop-x-init : goal.loop-x-init
loop-x-init g c = rw c.over-sets.ensures.items (listing_start _ _ _)

pub push-requires : goal.push-requires
push-requires g c = let room = room_left c.loop-x.invariant c.in-Some.x (search rules) c.in-Some.ensures.0 in search rules

pub loop-x-smaller : goal.loop-x-smaller
loop-x-smaller g c =
    listing_less c.in-Some.x (member c.part-found.result) (member c.difference-left.result)
    (search rules) c.in-Some.ensures c.part-found.ensures c.difference-left.ensures

pub loop-x-preserved : goal.loop-x-preserved
loop-x-preserved g c =
    let sets = items_of c.loop-x.sets in
    let found = c.part-found.result in
    rw (c.push.ensures.items, length-append sets (found ∷ [])) (listing_more c.in-Some.x (member found) (member c.difference-left.result)
    (search rules) c.in-Some.ensures c.part-found.ensures c.difference-left.ensures (g.met.G.Graph.laws c.args.graph.now) _
    (ap member (get_or-append_seam sets found [] nothing)) (λ i l. ap member (get_or-append sets (found ∷ []) nothing i l)) c.loop-x.invariant)
