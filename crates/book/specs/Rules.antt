-- What each call makes of a ledger: a refusal, tried in the order of the lines, or an answer and the ledger afterwards.
use Rattle.std.specs.Prelude.{ℕ, Bool, true, false, not, ◌&&◌, List, [], ◌∷◌, ◌++◌, length, ◌==◌, nat_le, nat_lt, slice_set}
use Rattle.book.specs.declared.rows.Row.{Row}
use Rattle.book.specs.Rows.{billion, new_row, reweighed, struck_out}
use Rattle.book.specs.Ledgers.{Ledger, width_of, row_of}
use Rattle.book.specs.Refusals.{Told, at}

-- the verdict on a call: refused, or accepted with an answer and what there is afterwards (a ledger, or lent memory)
pub data Verdict (A S : Type 0) : Type 0 where
  refused : Told → Verdict A S
  accepted : A → S → Verdict A S

-- a test that has to pass, else the call is refused; then the tests after it
abbrev pub unless : {A S : Type 0} → Bool → Told → Verdict A S → Verdict A S
unless true t after = after
unless false t after = refused t

-- what a call leaves: a refused call changes nothing
abbrev pub left_by : {A S : Type 0} → S → Verdict A S → S
left_by before (refused t) = before
left_by before (accepted a after) = after

-- a ledger with one table more
abbrev pub with_table : Ledger → (width : ℕ) → Ledger
with_table l width = record { widths = l.widths ++ (width ∷ []); rows = l.rows }

-- a ledger with other rows
abbrev pub with_rows : Ledger → List Row → Ledger
with_rows l rows = record { widths = l.widths; rows = rows }

-- `table` opens the next table and answers its number
abbrev pub table_verdict : Ledger → (width : ℕ) → Verdict ℕ Ledger
table_verdict l width =
    unless (nat_le 1 width && nat_le width 4) (at 6 0 0)
    (unless (nat_lt (length l.widths) 8) (at 7 0 0)
    (accepted (length l.widths) (with_table l width)))

-- `row` adds a row to an open table and answers its number
abbrev pub row_verdict : Ledger → (table : ℕ) (cells : List ℕ) (sureness : ℕ) → Verdict ℕ Ledger
row_verdict l table cells sureness =
    unless (nat_lt table (length l.widths)) (at 8 0 0)
    (unless (length cells == width_of l table) (at 9 0 0)
    (unless (nat_le sureness billion) (at 12 0 0)
    (unless (nat_lt (length l.rows) 256) (at 13 0 0)
    (accepted (length l.rows) (with_rows l (l.rows ++ (new_row table cells sureness ∷ [])))))))

-- a row that may be changed: it has been given and is not struck
abbrev pub unless_gone : {A : Type 0} → Ledger → (row : ℕ) → Verdict A Ledger → Verdict A Ledger
unless_gone l row after =
    unless (nat_lt row (length l.rows)) (at 10 0 0)
    (unless (not (row_of l row).struck) (at 11 0 0) after)

-- `reweigh` gives a row a new sureness
abbrev pub reweigh_verdict : Ledger → (row sureness : ℕ) → Verdict (Unit {0}) Ledger
reweigh_verdict l row sureness =
    unless_gone l row
    (unless (nat_le sureness billion) (at 12 0 0)
    (accepted tt (with_rows l (slice_set l.rows row (reweighed (row_of l row) sureness)))))

-- `strike` takes a row out of all joins; its number is never given again
abbrev pub strike_verdict : Ledger → (row : ℕ) → Verdict (Unit {0}) Ledger
strike_verdict l row = unless_gone l row (accepted tt (with_rows l (slice_set l.rows row (struck_out (row_of l row)))))
