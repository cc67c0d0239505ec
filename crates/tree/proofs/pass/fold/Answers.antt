use Rattle.std.proofs.Common.{◌-◌, sym, ◌∙◌, inl, inr, arith}
use Rattle.std.proofs.lemmas.Bool.{eqb-true, eqb-false}
use Rattle.tree.proofs.Nested.{inner_none}
use Rattle.tree.proofs.Folding.{folding_vacant, folding_all, answer_first, answer_none}
use Rattle.tree.proofs.pass.fold.Goals as goal

pub loop-at-preserved : goal.loop-at-preserved
loop-at-preserved g c =
    elim (inner_none _ (sym c.in_default-inner.is ∙ c.inner.ensures)) [
      | inl r ↦ absurd (c.in_default.not-Row r.0 r.1)
      | inr v ↦ folding_vacant g.V.Combine.mean g.V.Combine.op _ c.args.layout.nodes.now c.args.values.now c.loop-at.at (c.loop-at.at - 1) c.loop-at.values (omega arith) c.loop-at.invariant v
    ]

pub returns-then-is_empty-clause-answer : goal.returns-then-is_empty-clause-answer
returns-then-is_empty-clause-answer g c F leaf l rs = answer_none g.V.Combine.op c.args.layout.nodes.now _ (eqb-true _ 0 (sym c.if-is_empty.ensures)) F leaf l

pub returns-clause-answer : goal.returns-clause-answer
returns-clause-answer g c =
    answer_first g.V.Combine.mean g.V.Combine.op _ c.args.layout.nodes.now c.args.values.now c.loop-at.values c.index-values-0.result c.args.never c.index-values-0.is
    (omega (arith, eqb-false _ 0 (sym c.if-is_empty.ensures))) (folding_all g.V.Combine.mean g.V.Combine.op _ c.args.layout.nodes.now c.args.values.now _ _ (omega arith) c.loop-at.invariant)
