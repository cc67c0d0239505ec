use Rattle.std.proofs.Common.{refl, length-set}
use Rattle.tree.proofs.Building.{written_one}
use Rattle.tree.proofs.build.Builder.put_row.Goals as goal

pub returns : goal.returns
returns c = record { memory = refl; room = length-set c.args.self.now.nodes.now c.args.self.now.at _; nodes = written_one c.args.self.now.nodes.now c.args.self.now.at _ c.requires; place = refl }
