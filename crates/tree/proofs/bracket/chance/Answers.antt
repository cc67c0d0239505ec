use Rattle.std.proofs.Common.{◌≡◌, ◌∙◌, ap₂, rules}
use Rattle.tree.specs.Formulas.{Form}
use Rattle.tree.specs.Layout.{laid}
use Rattle.tree.specs.Chances.{form_bracket, sureness, bracket_under}
use Rattle.tree.specs.Passes.{form_folded}
use Rattle.tree.proofs.Filling.{sure_leaf, form_brackets}
use Rattle.tree.proofs.Nearness.{nears}
use Rattle.tree.proofs.bracket.chance.Goals as goal

pub returns : goal.returns
returns c =
    let sure = c.args.sure.now in
    let e : (F : Form) → c.args.layout.nodes.now ≡ laid F → (c.fold.result.low, c.fold.result.high) ≡ form_bracket (sureness sure) F =
    λ F l. c.fold.ensures.answer F (sure_leaf sure) l (λ k r b h n p. let q = c.requires.placed k r h n in search rules)
    ∙ ap₂ (λ x y. form_folded (x, y) (sure_leaf sure) bracket_under F) c.known.ensures.low c.known.ensures.high ∙ form_brackets sure F in
    record { bracket = e; near = nears sure c.args.layout.nodes.now _ e }
