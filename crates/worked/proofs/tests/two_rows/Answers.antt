use Rattle.std.proofs.Common.{[], ◌∷◌, replicate, refl, arith, rules}
use Rattle.tree.specs.declared.Node.TheVariants.{Vacant}
use Rattle.worked.proofs.Laying.{rows_first, ascending}
use Rattle.worked.proofs.tests.two_rows.Goals as goal

pub invariant_of-layout : goal.invariant_of-layout
invariant_of-layout c =
    record { lays = ∣ (rows_first c.args.kind (0 ∷ 1 ∷ []) (omega arith) (ascending 0 (1 ∷ []) refl) (replicate 3 Vacant) _ c.place-end.result 2 (search rules) (search rules) (omega arith, (omega arith, tt))).0 ∣₁ }

pub chance-requires-clause-placed : goal.chance-requires-clause-placed
chance-requires-clause-placed c =
    (rows_first c.args.kind (0 ∷ 1 ∷ []) (omega arith) (ascending 0 (1 ∷ []) refl) (replicate 3 Vacant) _ c.place-end.result 2 (search rules) (search rules) (omega arith, (omega arith, tt))).1
