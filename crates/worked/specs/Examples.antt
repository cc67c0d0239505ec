-- The worked tree.
use Rattle.tree.specs.Formulas.{Formula, row, under}
use Rattle.tree.specs.declared.Kind.TheVariants.{And, Or}

-- (r0 r2 + r1 r3) r4
abbrev pub worked : Formula
worked = under And (under Or (under And (row 0) (row 2)) (under And (row 1) (row 3))) (row 4)
