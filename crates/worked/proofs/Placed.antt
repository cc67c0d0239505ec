-- What writing the worked tree's text requires.
use Rattle.std.proofs.Common.{◌≡◌, List, arith}
use Rattle.tree.specs.declared.Node.{Node}
use Rattle.tree.specs.Formulas.{form}
use Rattle.tree.specs.Layout.{nodes_of}
use Rattle.tree.specs.Texts.{TextRoom}
use Rattle.worked.specs.Examples.{worked}

pub worked_room : (ns : List Node) → ns ≡ nodes_of worked → TextRoom ns 64
worked_room ns e = (form worked, e, (omega arith, (omega arith, (omega arith, (omega arith, (omega arith, tt))))), omega arith)
