use Rattle.std.proofs.Common.{ℕ, ◌+◌, ◌≤◌, List}
use Rattle.table_files.specs.Places.{Passes}
use Rattle.table_files.specs.Tables.{Says, left_of, rest_of}
use Rattle.table_files.proofs.Through.{Through}
use Rattle.table_files.proofs.records.Records.judge.Given as goal

abbrev pub invariant-loop-record : goal.invariant-loop-record
invariant-loop-record g l =
    (goal.iterator-loop-record g).can_next l.record-iterator
    × (goal.iterator-loop-record g).is_finite l.record-iterator
    × (l.count + left_of l.record-iterator ≤ left_of l.fn.self)
    × ((rows : List (List (List ℕ))) → Says (rest_of l.fn.self) rows → Through (Passes (λ r o. g.F.Fn.post l.fn.test (r, tt) o)) (rest_of l.record-iterator) l.count rows)
