-- Where the fields of a record stand in a text: for the contracts of the walk's own functions.
use Rattle.std.specs.Prelude.{◌≡◌, ℕ, ◌+◌, ◌<◌, ◌≤◌, Bool, false, cond, ◌⊎◌, List, [], ◌∷◌, length, Some, None, Ok, Err, Option, Result, nat_lt, slice_index, slice_index_or, slice_set}
use Rattle.std.specs.Str.Parse.{digits_value}
use Rattle.std.specs.List.{AllByRecursion}
use Rattle.table_files.specs.declared.fields.FieldPlace.{FieldPlace}
use Rattle.table_files.specs.declared.fault.Place.{Place}
use Rattle.table_files.specs.declared.records.RecordPlaces.{RecordPlaces}
use Rattle.table_files.specs.declared.records.Records.{Records}
use Rattle.table_files.specs.declared.rows.Row.{Row}
use Rattle.table_files.specs.Fields.{Holds, nowhere}
use Rattle.table_files.specs.Grammar.{Bytes, File, Values}
use Rattle.table_files.specs.Tables.{LawfulHeader, Numeral, Rule, Says, Sound, FirstOdd, FirstBroken, place, rest_of, row_of}

-- one more field: its place is kept where there is room, and it is counted
pub record Pushed (before after : RecordPlaces) (p : FieldPlace) : Type 0 where
  pub text : after.text ≡ before.text
  pub places : after.places ≡ cond (nat_lt before.fields 5) (slice_set before.places before.fields p) before.places
  pub fields : after.fields ≡ before.fields + 1

-- The fields of a record with these values, before these records: their number, where the first five stand, and that the
-- text behind them says the other records.
pub record Found (values : Values) (records : List Values) (r : RecordPlaces) (after : Bytes) : Type 0 where
  pub fields : r.fields ≡ length values
  pub stand : (k : ℕ) → k < length values → k < 5 → Holds r.text.now (slice_index_or r.places k nowhere) (slice_index_or values k [])
  pub rest : Says after records

-- a step of a walk over records: none at the end of the text, or the record there
abbrev pub RecordStep : Records → Option RecordPlaces → Records → Type 0
RecordStep from None to = rest_of from ≡ []
RecordStep from (Some r) to =
    (0 < length (rest_of from))
    × ((values : Values) (records : List Values) → File (rest_of from) (values ∷ records) → Found values records r (rest_of to))

-- the number of a field that keeps its rule, or none
abbrev pub Number : Bool → Bytes → Option ℕ → Type 0
Number last v (Some n) = (Numeral v ⊎ ((v ≡ []) × (last ≡ false))) × (n ≡ digits_value 10 v)
Number last v None = Numeral v ⊎ ((v ≡ []) × (last ≡ false)) → ⊥

-- field f, from 0, is the first of a row that breaks its rule
abbrev pub FirstWrong : Values → ℕ → Type 0
FirstWrong values f = (f < length values) × (Rule values f → ⊥) × ((g : ℕ) → g < f → Rule values g)

-- the numbers of a row's fields, 0 past them; or the first field, from 1, that breaks its rule
abbrev pub Numbers : Values → Result (List ℕ) ℕ → Type 0
Numbers values (Ok ns) =
    (length ns ≡ 5) × Sound values × ((k : ℕ) → k < length values → slice_index ns k ≡ digits_value 10 (slice_index_or values k []))
    × ((k : ℕ) → length values ≤ k → slice_index ns k ≡ 0)
Numbers values (Err f) = (g : ℕ) × (f ≡ g + 1) × FirstWrong values g

-- the numbers of a row; or the first field, from 1, that breaks its rule
abbrev pub RowRead : Values → Result Row ℕ → Type 0
RowRead values (Ok row) = Sound values × (row ≡ row_of values)
RowRead values (Err f) = (g : ℕ) × (f ≡ g + 1) × FirstWrong values g

-- whether the fields of a row keep their rules; or the first, from 1, that does not
abbrev pub RowTested : RecordPlaces → Result (Unit {0}) ℕ → Type 0
RowTested r (Ok u) = (values : Values) (rest : Bytes) (records : List Values) → Found values records r rest → length values ≤ 5 → Sound values
RowTested r (Err f) =
    (values : Values) (rest : Bytes) (records : List Values) → Found values records r rest → length values ≤ 5 → (g : ℕ) × (f ≡ g + 1) × FirstWrong values g

-- the width of a table by its header; none where the header is not lawful
abbrev pub Width : Values → Option ℕ → Type 0
Width names (Some w) = LawfulHeader names × (w + 1 ≡ length names)
Width names None = LawfulHeader names → ⊥

-- a record of these values stood before the test, which it passed
abbrev pub Passes : (RecordPlaces → Result (Unit {0}) ℕ → Type 0) → Values → Type 0
Passes Post values = (records : List Values) × (r : RecordPlaces) × (rest : Bytes) × Found values records r rest × Post r (Ok tt)

-- the number of rows, which all passed a test; or the place of the first that did not, with the field that the test answered
abbrev pub Judgement : (RecordPlaces → Result (Unit {0}) ℕ → Type 0) → List Values → Result ℕ Place → Type 0
Judgement Post rows (Ok count) = (count ≡ length rows) × ((k : ℕ) → k < length rows → Passes Post (slice_index_or rows k []))
Judgement Post rows (Err p) =
    (k : ℕ) × (k < length rows) × ((j : ℕ) → j < k → Passes Post (slice_index_or rows j []))
    × (records : List Values) × (r : RecordPlaces) × (rest : Bytes) × Found (slice_index_or rows k []) records r rest × (f : ℕ) × Post r (Err f)
    × (p ≡ place (k + 2) f)

pub record Judged (Post : RecordPlaces → Result (Unit {0}) ℕ → Type 0) (rows : List Values) (result : Result ℕ Place) : Type 0 where
  pub answer : Judgement Post rows result

-- the number of rows, each of n fields; or the place of the first of another number
abbrev pub RowCount : ℕ → List Values → Result ℕ Place → Type 0
RowCount n rows (Ok count) = (count ≡ length rows) × AllByRecursion (λ values. length values ≡ n) rows
RowCount n rows (Err p) = (r : ℕ) × FirstOdd n rows r × (p ≡ place (r + 2) (length (slice_index_or rows r [])))

-- rows whose fields keep their rules; or the place of the first field that breaks its rule
abbrev pub RowsChecked : List Values → Result ℕ Place → Type 0
RowsChecked rows (Ok count) = AllByRecursion Sound rows
RowsChecked rows (Err p) = (r : ℕ) × (f : ℕ) × FirstBroken rows r f × (p ≡ place (r + 2) (f + 1))
