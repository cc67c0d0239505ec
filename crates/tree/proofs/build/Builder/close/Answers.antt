use Rattle.std.proofs.Common.{◌∙◌, rules}
use Rattle.tree.proofs.Building.{is_over, laid_over}
use Rattle.tree.proofs.build.Builder.close.Goals as goal

pub returns-clause-laid : goal.returns-clause-laid
returns-clause-laid c before cs ch h l =
    let s = c.args.self.now in (search rules ∙ laid_over c.args.kind s.nodes.now before c.args.place s.at cs ch h l, is_over c.args.kind cs ch)
