use Rattle.std.proofs.Common.{arith}
use Rattle.graph.proofs.graphs.Graph.joined.Goals as goal

pub returns-in_default : goal.returns-in_default
returns-in_default g c = let G = g.met.Self.Graph.laws c.args.self.now in grind (arith, G.few, G.within c.args.a c.args.b)

pub returns-in_default-try_from : goal.returns-in_default-try_from
returns-in_default-try_from g c =
    let G = g.met.Self.Graph.laws c.args.self.now in
    grind (arith, G.few, G.within c.args.b c.args.a, G.symmetric c.args.a c.args.b)
