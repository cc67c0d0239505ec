use Rattle.std.proofs.Common.{rules}
use Rattle.std.proofs.Math.Seq.{take-set-lt}
use Rattle.lists.proofs.FixedList.set.Goals as goal

pub returns-clause-items : goal.returns-clause-items
returns-clause-items g c = take-set-lt _ _ _ _ (search rules)
