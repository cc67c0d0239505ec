-- What is written of a table, and that it reads back.
use Rattle.std.specs.Prelude.{◌≡◌, ℕ, zero, suc, ◌+◌, ◌*◌, ◌^◌, ◌<◌, ◌≤◌, List, [], ◌∷◌, ◌++◌, map, length, take, decimal, slice_index}
use Rattle.std.specs.List.{flat_map, AllByRecursion}
use Rattle.table_files.specs.declared.rows.Row.{Row}
use Rattle.table_files.specs.Grammar.{Bytes, Values, COMMA, CR, LF}
use Rattle.table_files.specs.Tables.{Reads, Table, row_of, sure}

-- a field with a comma behind it
abbrev pub piece : Bytes → Bytes
piece field = field ++ (COMMA ∷ [])

-- a record: some fields, each with a comma behind it, and a last one with a CRLF behind it
abbrev pub line : Values → Bytes → Bytes
line front last = flat_map piece front ++ (last ++ (CR ∷ LF ∷ []))

-- the name of cell k, from 1: c and the number
abbrev pub column : ℕ → Bytes
column k = 0x63 ∷ decimal k

-- the names of the cells: c1, c2 and on
abbrev pub columns : ℕ → Values
columns zero = []
columns (suc w) = columns w ++ (column (suc w) ∷ [])

-- the fields of the header of a table, and its text
abbrev pub names : ℕ → Values
names w = columns w ++ (sure ∷ [])

abbrev pub header_text : ℕ → Bytes
header_text w = line (columns w) sure

-- the cells of a row of a table in decimal
abbrev pub decimals : ℕ → Row → Values
decimals w row = map decimal (take w row.cells)

-- the fields of a row of a table, and its text
abbrev pub fields : ℕ → Row → Values
fields w row = decimals w row ++ (decimal row.sureness ∷ [])

abbrev pub row_text : ℕ → Row → Bytes
row_text w row = line (decimals w row) (decimal row.sureness)

-- the text of a table
abbrev pub table_text : ℕ → List Row → Bytes
table_text w rows = header_text w ++ flat_map (row_text w) rows

-- four cells and a sureness of 32 bits each; the cells past the width are 0
pub record RowOfWidth (w : ℕ) (row : Row) : Type 0 where
  pub four : length row.cells ≡ 4
  pub small : (k : ℕ) → slice_index row.cells k < 2 ^ 32
  pub beyond : (k : ℕ) → w ≤ k → slice_index row.cells k ≡ 0
  pub sure_small : row.sureness < 2 ^ 32

-- The text of a table has at most 18 bytes and 56 for each row. It is a table file, unless it is too long, of the same width
-- and whose rows have the numbers of the rows written, in order.
pub record ReadsBack (w : ℕ) (rows : List Row) : Type 0 where
  pub width : length (names w) ≡ w + 1
  pub short : length (table_text w rows) ≤ 18 + 56 * length rows
  pub reads : length (table_text w rows) ≤ 65536 → Reads (table_text w rows) (names w) (map (fields w) rows)
  pub table : Table (names w) (map (fields w) rows)
  pub same : map row_of (map (fields w) rows) ≡ rows

-- this of every table
abbrev pub WrittenReadsBack : Type 0
WrittenReadsBack = (w : ℕ) (rows : List Row) → 1 ≤ w → w ≤ 4 → AllByRecursion (RowOfWidth w) rows → ReadsBack w rows
