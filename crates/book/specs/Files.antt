-- Table files into a ledger and out of it.
use Rattle.std.specs.Prelude.{◌≡◌, ℕ, ◌+◌, ◌-◌, ◌<◌, ◌≤◌, Bool, not, ◌&&◌, ◌⊎◌, List, [], ◌∷◌, ◌++◌, map, length, filter, ◌==◌, nat_le, nat_lt}
use Rattle.table_files.specs.declared.fault.Fault.{Fault}
use Rattle.table_files.specs.declared.rows.Row.{Row as FileRow}
use Rattle.table_files.specs.Grammar.{Values}
use Rattle.table_files.specs.Written.{table_text}
use Rattle.table_files.specs.Tables.{Reads, Wrong, Table, row_of}
use Rattle.text.specs.Over.{over}
use Rattle.book.specs.declared.rows.Row.{Row}
use Rattle.book.specs.Rows.{billion, from_file}
use Rattle.book.specs.Ledgers.{Ledger, width_of}
use Rattle.book.specs.Refusals.{at, fault_told}
use Rattle.book.specs.Rules.{Verdict, refused, accepted, unless}

-- a ledger with one table more, which has these rows
abbrev pub with_file : Ledger → (width : ℕ) → List FileRow → Ledger
with_file l width rows =
    record { widths = l.widths ++ (width ∷ []); rows = l.rows ++ map (from_file (length l.widths)) rows }

-- the sureness of each row, the first of which is a record with a number, is at most a billion
abbrev pub unless_unsure : {A S : Type 0} → (number field : ℕ) → List FileRow → Verdict A S → Verdict A S
unless_unsure number field [] after = after
unless_unsure number field (r ∷ rs) after = unless (nat_le r.sureness billion) (at 12 number field) (unless_unsure (number + 1) field rs after)

-- `load`, once the file is known to be a table of a width with some rows: record 1 is the header, so the rows start at 2,
-- and the first record too many is 258 less the rows given before
abbrev pub table_file_verdict : Ledger → (width : ℕ) → List FileRow → Verdict ℕ Ledger
table_file_verdict l width rows =
    unless (nat_lt (length l.widths) 8) (at 7 0 0)
    (unless_unsure 2 (width + 1) rows
    (unless (nat_le (length l.rows + length rows) 256) (at 13 (258 - length l.rows) 1)
    (accepted (length l.widths) (with_file l width rows))))

-- the verdict that the rules give on `load`: by what is wrong with the file, or by the header and the rows that it reads as
abbrev pub LoadJudged : Ledger → (file : List ℕ) → Verdict ℕ Ledger → Type 0
LoadJudged l file v =
    ((fault : Fault) × Wrong file fault × (v ≡ refused (fault_told fault)))
    ⊎ ((header : Values) × (rows : List Values) × Reads file header rows × Table header rows
    × (v ≡ table_file_verdict l (length header - 1) (map row_of rows)))

-- a row takes part in what is written of a table: it is of that table, and not struck
abbrev pub written? : (table : ℕ) → Row → Bool
written? t r = r.table == t && not r.struck

-- a row of a table as a row of a file
abbrev pub to_file : Row → FileRow
to_file r = record { cells = r.cells; sureness = r.sureness }

-- the rows of a table that are not struck, in order, as rows of a file
abbrev pub rows_written : (table : ℕ) → List Row → List FileRow
rows_written t rows = map to_file (filter (written? t) rows)

-- the file of a table
abbrev pub file_of : Ledger → (table : ℕ) → List ℕ
file_of l t = table_text (width_of l t) (rows_written t l.rows)

-- a text written over the start of lent memory that has to have some bytes, and its length
abbrev pub written_verdict : (least : ℕ) (written memory : List ℕ) → Verdict ℕ (List ℕ)
written_verdict least written memory =
    unless (nat_le least (length memory)) (at 19 0 0) (accepted (length written) (over memory 0 written))

-- `write` gives the file of an open table
abbrev pub write_verdict : Ledger → (table : ℕ) → (memory : List ℕ) → Verdict ℕ (List ℕ)
write_verdict l t memory = unless (nat_lt t (length l.widths)) (at 8 0 0) (written_verdict 16384 (file_of l t) memory)

-- the file of a table, loaded into any ledger with a table number and enough row numbers left, adds a table of the same width
-- with the same rows in order
abbrev pub LoadsBack : Ledger → (table : ℕ) → Type 0
LoadsBack l t =
    (m : Ledger) → length m.widths < 8 → length m.rows + length (rows_written t l.rows) ≤ 256
    → LoadJudged m (file_of l t) (accepted (length m.widths) (with_file m (width_of l t) (rows_written t l.rows)))
