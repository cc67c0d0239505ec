-- Refusals, as a user reads them.
use Rattle.std.specs.Prelude.{ℕ, zero, suc, List, [], ◌∷◌, ◌++◌, map, codes, decimal}
use Rattle.book.specs.declared.refusals.Refusal.{Refusal}
use Rattle.book.specs.declared.refusals.Refusal.TheVariants.{FileTooLong, GrammarBroken, HeaderUnlawful, FieldsNotHeader, FieldUnlawful, WidthOutOfRange, TablesUsedUp, TableNotOpen, CellsNotWidth, NoSuchRow, RowStruck, SurenessTooLarge, RowsUsedUp, MemoryShort}
use Rattle.table_files.specs.declared.fault.Fault.{Fault}
use Rattle.table_files.specs.declared.fault.Fault.TheVariants.{TooLong, Grammar, Header, FieldCount, Field}

-- a refusal's number and its places
pub record Told : Type 0 where
  pub number : ℕ
  pub places : List ℕ

-- the refusal with a number, at two places
abbrev pub at : (number first second : ℕ) → Told
at n p q = record { number = n; places = p ∷ q ∷ [] }

-- what each refusal tells
abbrev pub told : Refusal → Told
told FileTooLong = at 1 0 0
told (GrammarBroken p) = at 2 p.«record» p.field
told (HeaderUnlawful p) = at 3 p.«record» p.field
told (FieldsNotHeader p) = at 4 p.«record» p.field
told (FieldUnlawful p) = at 5 p.«record» p.field
told WidthOutOfRange = at 6 0 0
told TablesUsedUp = at 7 0 0
told TableNotOpen = at 8 0 0
told CellsNotWidth = at 9 0 0
told NoSuchRow = at 10 0 0
told RowStruck = at 11 0 0
told (SurenessTooLarge p) = at 12 p.«record» p.field
told (RowsUsedUp p) = at 13 p.«record» p.field
told MemoryShort = at 19 0 0

-- what a fault of a table file tells
abbrev pub fault_told : Fault → Told
fault_told TooLong = at 1 0 0
fault_told (Grammar p) = at 2 p.«record» p.field
fault_told (Header p) = at 3 p.«record» p.field
fault_told (FieldCount p) = at 4 p.«record» p.field
fault_told (Field p) = at 5 p.«record» p.field

-- some fields with a space between two of them
abbrev pub spaced : List (List ℕ) → List ℕ
spaced [] = []
spaced (f ∷ []) = f
spaced (f ∷ g ∷ fs) = f ++ (32 ∷ spaced (g ∷ fs))

-- the record of a refusal below its header: the number, and the places with spaces between them; lines end with CR LF
abbrev pub refusal_text : Told → List ℕ
refusal_text t = codes "refusal,places" ++ (13 ∷ 10 ∷ (decimal t.number ++ (44 ∷ (spaced (map decimal t.places) ++ (13 ∷ 10 ∷ [])))))

-- why a call is refused, in words
abbrev pub reason : Refusal → List ℕ
reason FileTooLong = codes "the file passes 65536 bytes"
reason (GrammarBroken p) = codes "the grammar of a table file is broken"
reason (HeaderUnlawful p) = codes "the header has not 2 to 5 fields of which the last is sure"
reason (FieldsNotHeader p) = codes "the number of fields is not the header's"
reason (FieldUnlawful p) = codes "the field is no cell and no sureness"
reason WidthOutOfRange = codes "the width is not 1 to 4"
reason TablesUsedUp = codes "eight tables are open"
reason TableNotOpen = codes "the table is not open"
reason CellsNotWidth = codes "the number of cells is not the table's width"
reason NoSuchRow = codes "no row has the number"
reason RowStruck = codes "the row is struck"
reason (SurenessTooLarge p) = codes "the sureness passes 1000000000"
reason (RowsUsedUp p) = codes "256 row numbers would not be enough"
reason MemoryShort = codes "the memory handed over is short"

-- a place in words, where there is one
abbrev pub place_words : List ℕ → List ℕ
place_words (zero ∷ f ∷ []) = []
place_words (suc r ∷ f ∷ []) = codes ": record " ++ decimal (suc r) ++ codes ", field " ++ decimal f
place_words ps = []

-- a refusal in words, with its place
abbrev pub message : Refusal → List ℕ
message refusal = reason refusal ++ place_words (told refusal).places
