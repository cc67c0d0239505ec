use Rattle.std.proofs.Common.{replicate, rules}
use Rattle.tree.specs.declared.Kind.TheVariants.{Or}
use Rattle.tree.specs.declared.Node.TheVariants.{Vacant}
use Rattle.worked.proofs.Laying.{rows_first}
use Rattle.worked.proofs.tests.count_under_or.Goals as goal

pub invariant_of-layout : goal.invariant_of-layout
invariant_of-layout c =
    record { lays = ∣ (rows_first Or c.args.rows.now c.requires.two c.requires.order (replicate 32 Vacant) _ c.place-end.result 32 (search rules) (search rules) c.requires.small).0 ∣₁ }

pub evaluate-requires-clause-placed : goal.evaluate-requires-clause-placed
evaluate-requires-clause-placed c =
    let p = (rows_first Or c.args.rows.now c.requires.two c.requires.order (replicate 32 Vacant) _ c.place-end.result 32 (search rules) (search rules) c.requires.small).1 in
    (p, p)
