-- Table files: the rules for their records, and what may be wrong with a text, in the order in which it is looked for.
use Rattle.std.specs.Prelude.{◌≡◌, ℕ, ◌+◌, ◌-◌, ◌<◌, ◌≤◌, cond, ◌⊎◌, List, [], ◌∷◌, length, drop, Some, None, Ok, Err, Option, Result, nat_lt, slice_index_or}
use Rattle.std.specs.Str.Parse.{AllDigits, digits_value}
use Rattle.std.specs.List.{AllByRecursion}
use Rattle.table_files.specs.declared.fault.Fault.{Fault}
use Rattle.table_files.specs.declared.fault.Fault.TheVariants.{TooLong, Grammar, Header, FieldCount, Field}
use Rattle.table_files.specs.declared.fault.Place.{Place}
use Rattle.table_files.specs.declared.rows.Row.{Row}
use Rattle.table_files.specs.declared.records.Records.{Records}
use Rattle.table_files.specs.declared.rows.Rows.{Rows}
use Rattle.table_files.specs.declared.TableFile.{TableFile}
use Rattle.table_files.specs.Grammar.{Bytes, Values, File, Breaks}

-- the name of the last field of a header: `sure`
abbrev pub sure : Bytes
sure = 0x73 ∷ 0x75 ∷ 0x72 ∷ 0x65 ∷ []

-- 1 to 10 decimal digits that write at most 4294967295
abbrev pub Numeral : Bytes → Type 0
Numeral v = (0 < length v) × (length v ≤ 10) × AllDigits 10 v × (digits_value 10 v ≤ 4294967295)

-- the rule for field f, from 0, of a row: a numeral; or blank, where it is not the last
abbrev pub Rule : Values → ℕ → Type 0
Rule values f = Numeral (slice_index_or values f []) ⊎ ((slice_index_or values f [] ≡ []) × (f + 1 < length values))

-- 2 to 5 fields, of which the last is `sure`
abbrev pub LawfulHeader : Values → Type 0
LawfulHeader names = (2 ≤ length names) × (length names ≤ 5) × (slice_index_or names (length names - 1) [] ≡ sure)

-- every field of a row keeps its rule
abbrev pub Sound : Values → Type 0
Sound values = (f : ℕ) → f < length values → Rule values f

-- a row of n fields that keep their rules
abbrev pub LawfulRow : ℕ → Values → Type 0
LawfulRow n values = (length values ≡ n) × Sound values

-- the records of a table: a header, and rows of as many fields
abbrev pub Table : Values → List Values → Type 0
Table header rows = LawfulHeader header × AllByRecursion (LawfulRow (length header)) rows

-- row r, from 0, is the first that has not n fields
pub record FirstOdd (n : ℕ) (rows : List Values) (r : ℕ) : Type 0 where
  pub there : r < length rows
  pub odd : length (slice_index_or rows r []) ≡ n → ⊥
  pub first : (s : ℕ) → s < r → length (slice_index_or rows s []) ≡ n

-- field f, from 0, of row r is the first in file order that breaks its rule
pub record FirstBroken (rows : List Values) (r f : ℕ) : Type 0 where
  pub there : r < length rows
  pub inside : f < length (slice_index_or rows r [])
  pub broken : Rule (slice_index_or rows r []) f → ⊥
  pub first : (g : ℕ) → g < f → Rule (slice_index_or rows r []) g
  pub before : (s : ℕ) → s < r → Sound (slice_index_or rows s [])

-- a place, by record and field, both from 1
abbrev pub place : ℕ → ℕ → Place
place r f = record { «record» = r; field = f }

-- The text has at most 65,536 bytes, and is a file of this header and these rows.
abbrev pub Reads : Bytes → Values → List Values → Type 0
Reads text header rows = (length text ≤ 65536) × File text (header ∷ rows)

-- What is wrong with a text: its length, or else its grammar, or else its header, or else a row's number of fields, or
-- else a field.
abbrev pub Wrong : Bytes → Fault → Type 0
Wrong text TooLong = 65536 < length text
Wrong text (Grammar p) = (length text ≤ 65536) × Breaks text p.«record» p.field
Wrong text (Header p) =
    (header : Values) × (rows : List Values) × Reads text header rows
    × (LawfulHeader header → ⊥) × (p ≡ place 1 (length header))
Wrong text (FieldCount p) =
    (header : Values) × (rows : List Values) × Reads text header rows
    × LawfulHeader header × (r : ℕ) × FirstOdd (length header) rows r × (p ≡ place (r + 2) (length (slice_index_or rows r [])))
Wrong text (Field p) =
    (header : Values) × (rows : List Values) × Reads text header rows
    × LawfulHeader header × AllByRecursion (λ values. length values ≡ length header) rows
    × (r : ℕ) × (f : ℕ) × FirstBroken rows r f × (p ≡ place (r + 2) (f + 1))

-- the number in cell k of a row: 0 where it is blank, and past the last
abbrev pub cell : Values → ℕ → ℕ
cell values k = cond (nat_lt (k + 1) (length values)) (digits_value 10 (slice_index_or values k [])) 0

-- the numbers of a row
abbrev pub row_of : Values → Row
row_of values =
    record {
      cells = cell values 0 ∷ cell values 1 ∷ cell values 2 ∷ cell values 3 ∷ [];
      sureness = digits_value 10 (slice_index_or values (length values - 1) []);
    }

-- the records that a text says from some byte on: none at its end
abbrev pub Says : Bytes → List Values → Type 0
Says [] records = records ≡ []
Says (b ∷ rest) records = File (b ∷ rest) records

-- the bytes that a walk over records has before it, and how many there are
abbrev pub rest_of : Records → Bytes
rest_of walk = drop walk.at walk.text.now

abbrev pub left_of : Records → ℕ
left_of walk = length walk.text.now - walk.at

-- the rows that a walk has before it, all of n fields
abbrev pub Ahead : ℕ → Rows → List Values → Type 0
Ahead n walk rows = Says (rest_of walk.records) rows × (2 ≤ n) × (n ≤ 5) × AllByRecursion (LawfulRow n) rows

-- how many bytes a walk has before it
abbrev pub bytes_left : Rows → ℕ
bytes_left walk = left_of walk.records

-- what a step of a walk answers, and what it then has before it
abbrev pub Walked : ℕ → List Values → Option Row → Rows → Type 0
Walked n rows None walk = rows ≡ []
Walked n rows (Some row) walk =
    (values : Values) × (others : List Values) × (rows ≡ values ∷ others) × (row ≡ row_of values) × Ahead n walk others

-- an open table file: the width, the number of rows, and a walk that has them all before it
pub record Opened (header : Values) (rows : List Values) (file : TableFile) : Type 0 where
  pub table : Table header rows
  pub width : file.width + 1 ≡ length header
  pub count : file.count ≡ length rows
  pub ahead : Ahead (length header) file.rows rows

-- the answer to a text: an open table file, or what is wrong
abbrev pub Answer : Bytes → Result TableFile Fault → Type 0
Answer text (Ok file) = (header : Values) × (rows : List Values) × Reads text header rows × Opened header rows file
Answer text (Err fault) = Wrong text fault

-- The answer is right, and no other would be: what is wrong is what is answered, a table file is opened, and no text has two
-- lists of records.
pub record Answered (text : Bytes) (result : Result TableFile Fault) : Type 0 where
  pub answer : Answer text result
  pub refuses : (fault : Fault) → Wrong text fault → result ≡ Err fault
  pub opens : (header : Values) (rows : List Values) → Reads text header rows → Table header rows →
      (file : TableFile) × (result ≡ Ok file) × Opened header rows file
  pub one : (records others : List Values) → File text records → File text others → records ≡ others
