-- The ledger: what a book holds, as the calls' arguments make it.
use Rattle.std.specs.Prelude.{◌≡◌, ℕ, ◌-◌, ◌<◌, ◌≤◌, List, [], length, drop, replicate, slice_index, slice_index_or}
use Rattle.lists.specs.Items.{items_of, rest_of}
use Rattle.lists.specs.declared.FixedList.{FixedList}
use Rattle.book.specs.declared.rows.Row.{Row}
use Rattle.book.specs.Rows.{billion, vacant, absent}

-- the widths of the open tables, and the rows, both by number from 0
pub record Ledger : Type 0 where
  pub widths : List ℕ
  pub rows : List Row

-- no table and no row
abbrev pub empty : Ledger
empty = record { widths = []; rows = [] }

-- the width of a table; 0 where it is not open
abbrev pub width_of : Ledger → ℕ → ℕ
width_of l t = slice_index l.widths t

-- the row with a number
abbrev pub row_of : Ledger → ℕ → Row
row_of l r = slice_index_or l.rows r absent

-- a table has 1 to 4 columns
abbrev pub Wide : ℕ → Type 0
Wide w = (1 ≤ w) × (w ≤ 4)

-- a row of one of so many tables, with a sureness of at most a billion and four cell places
abbrev pub Within : (tables : ℕ) → Row → Type 0
Within tables r = (r.table < tables) × (r.sureness ≤ billion) × (length r.cells ≡ 4)

-- the row's cell places past its table's width hold 0
abbrev pub Padded : (widths : List ℕ) → Row → Type 0
Padded widths r = drop (slice_index widths r.table) r.cells ≡ replicate (4 - slice_index widths r.table) 0

-- a cell has 32 bits
abbrev pub Small : Row → Type 0
Small r = (k : ℕ) → slice_index r.cells k < 4294967296

-- a row as a ledger with tables of these widths may have it
abbrev pub LawfulRow : (widths : List ℕ) → Row → Type 0
LawfulRow widths r = Within (length widths) r × Padded widths r × Small r

-- the places past the open tables and past the rows given are vacant
abbrev pub VacantBeyond : FixedList ℕ 8 → FixedList Row 256 → Type 0
VacantBeyond widths rows =
    (rest_of widths ≡ replicate (8 - length (items_of widths)) 0) × (rest_of rows ≡ replicate (256 - length (items_of rows)) vacant)
