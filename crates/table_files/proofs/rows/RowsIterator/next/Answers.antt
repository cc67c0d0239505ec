use Rattle.std.proofs.Common.{subst, refl}
use Rattle.table_files.specs.Places.{RecordStep}
use Rattle.table_files.proofs.Through.{walked}
use Rattle.table_files.proofs.rows.RowsIterator.next.Goals as goal

pub returns-clause-steps : goal.returns-clause-steps
returns-clause-steps c = λ n rows h.
    rw c.ok.ensures.value
    (walked n c.args.self.now rows h _ c.next.new.self (subst (λ r. RecordStep c.args.self.now.records r c.next.new.self) c.in_ok-next.was c.next.ensures.steps) c.row.result (λ v r. c.row.ensures v _ r) _ refl)
