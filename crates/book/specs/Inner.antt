-- For inner contracts alone: nothing here needs to be believed.
use Rattle.std.specs.Prelude.{◌≡◌, ℕ, ◌+◌, ◌<◌, ◌≤◌, true, false, ◌⊎◌, List, map, length, Ok, Err, Result}
use Rattle.std.specs.List.{All}
use Rattle.table_files.specs.declared.rows.Row.{Row as FileRow}
use Rattle.table_files.specs.declared.rows.Rows.{Rows}
use Rattle.table_files.specs.Grammar.{Values}
use Rattle.table_files.specs.Tables.{Ahead, row_of}
use Rattle.book.specs.declared.refusals.Refusal.{Refusal}
use Rattle.book.specs.declared.refusals.Refusal.TheVariants.{NoSuchRow, RowStruck, TableNotOpen}
use Rattle.book.specs.declared.rows.Row.{Row}
use Rattle.book.specs.Files.{unless_unsure}
use Rattle.book.specs.Ledgers.{Ledger, LawfulRow, Wide, width_of, row_of as row_at}
use Rattle.book.specs.Refusals.{told}
use Rattle.book.specs.Rows.{billion}
use Rattle.book.specs.Rules.{Verdict, refused}

-- the width of a table where it is open; else why not
abbrev pub OpenWidth : Ledger → ℕ → Result ℕ Refusal → Type 0
OpenWidth l table (Ok width) = (table < length l.widths) × (width ≡ width_of l table) × Wide width
OpenWidth l table (Err f) = (length l.widths ≤ table) × (f ≡ TableNotOpen)

-- the row with a number, and that it is lawful, where it may be changed; else why not
abbrev pub Changeable : Ledger → ℕ → Result Row Refusal → Type 0
Changeable l number (Ok row) = (number < length l.rows) × (row ≡ row_at l number) × (row.struck ≡ false) × LawfulRow l.widths row
Changeable l number (Err f) = ((length l.rows ≤ number) × (f ≡ NoSuchRow)) ⊎ ((number < length l.rows) × ((row_at l number).struck ≡ true) × (f ≡ RowStruck))

-- a row of a file is sure enough
abbrev pub Sure : FileRow → Type 0
Sure r = r.sureness ≤ billion

-- whether each row is sure enough, as a result; a refusal is then the verdict, whatever tests follow
abbrev pub AllSure : (number field : ℕ) → List FileRow → Result (Unit {0}) Refusal → Type 0
AllSure number field rows (Ok u) = All Sure rows
AllSure number field rows (Err f) = (v : Verdict ℕ Ledger) → unless_unsure number field rows v ≡ refused (told f)

-- the file has a walk before it over rows of a table's width, all sure enough, and the ledger has room for them
pub record Fit (l : Ledger) (table : ℕ) (walk : Rows) : Type 0 where
  pub opened : table < length l.widths
  pub records : List Values
  pub ahead : Ahead (width_of l table + 1) walk records
  pub sure : All Sure (map row_of records)
  pub room : length l.rows + length records ≤ 256
