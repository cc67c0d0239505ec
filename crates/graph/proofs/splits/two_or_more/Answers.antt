use Rattle.std.proofs.Common.{rules}
use Rattle.graph.proofs.Apart.{one_part, falls_apart}
use Rattle.graph.proofs.splits.two_or_more.Goals as goal

pub returns-then-as_slice-lt2 : goal.returns-then-as_slice-lt2
returns-then-as_slice-lt2 g c = one_part (g.met.G.Graph.laws c.args.graph.now) c.parts-parts.ensures (search rules)

pub returns : goal.returns
returns g c = falls_apart (g.met.G.Graph.laws c.args.graph.now) c.parts-parts.ensures c.requires (search rules)
