-- RFC 4180's grammar as relations between bytes (`raw`) and what they say, and the place where a text breaks it.
use Rattle.std.specs.Prelude.{◌≡◌, ℕ, ◌+◌, ◌<◌, ◌≤◌, ◌⊎◌, List, [], ◌∷◌, ◌++◌, length, take}

-- a text, a part of one, or the value of a field
abbrev pub Bytes : Type 0
Bytes = List ℕ

-- the values of a record's fields
abbrev pub Values : Type 0
Values = List Bytes

-- TEXTDATA = %x20-21 / %x23-2B / %x2D-7E
abbrev pub TextData : ℕ → Type 0
TextData b = ((0x20 ≤ b) × (b ≤ 0x21)) ⊎ (((0x23 ≤ b) × (b ≤ 0x2B)) ⊎ ((0x2D ≤ b) × (b ≤ 0x7E)))

-- COMMA = %x2C
abbrev pub COMMA : ℕ
COMMA = 0x2C

-- CR = %x0D
abbrev pub CR : ℕ
CR = 0x0D

-- LF = %x0A
abbrev pub LF : ℕ
LF = 0x0A

-- DQUOTE = %x22
abbrev pub DQUOTE : ℕ
DQUOTE = 0x22

-- non-escaped = *TEXTDATA
pub data NonEscaped : Bytes → Bytes → Type 0 where
  none : NonEscaped [] []
  more : {b : ℕ} {raw value : Bytes} → TextData b → NonEscaped raw value → NonEscaped (b ∷ raw) (b ∷ value)

-- what stands between the quotes: *(TEXTDATA / COMMA / CR / LF / 2DQUOTE)
pub data Inside : Bytes → Bytes → Type 0 where
  none : Inside [] []
  one : {b : ℕ} {raw value : Bytes} →
      TextData b ⊎ ((b ≡ COMMA) ⊎ ((b ≡ CR) ⊎ (b ≡ LF))) → Inside raw value → Inside (b ∷ raw) (b ∷ value)
  two : {raw value : Bytes} → Inside raw value → Inside (DQUOTE ∷ DQUOTE ∷ raw) (DQUOTE ∷ value)

-- field = escaped / non-escaped; escaped = DQUOTE *(..) DQUOTE
pub data Field : Bytes → Bytes → Type 0 where
  escaped : {raw value : Bytes} → Inside raw value → Field (DQUOTE ∷ (raw ++ (DQUOTE ∷ []))) value
  plain : {raw value : Bytes} → NonEscaped raw value → Field raw value

-- record = field *(COMMA field)
pub data Record : Bytes → Values → Type 0 where
  last : {raw value : Bytes} → Field raw value → Record raw (value ∷ [])
  more : {raw value rest : Bytes} {values : Values} →
      Field raw value → Record rest values → Record (raw ++ (COMMA ∷ rest)) (value ∷ values)

-- file = record *(CRLF record) [CRLF]; a CRLF at the very end begins no further record
pub data File : Bytes → List Values → Type 0 where
  last : {raw : Bytes} {values : Values} → Record raw values → File raw (values ∷ [])
  ended : {raw : Bytes} {values : Values} → Record raw values → File (raw ++ (CR ∷ LF ∷ [])) (values ∷ [])
  more : {raw : Bytes} {values : Values} {b : ℕ} {rest : Bytes} {records : List Values} →
      Record raw values → File (b ∷ rest) records → File (raw ++ (CR ∷ LF ∷ b ∷ rest)) (values ∷ records)

-- a text is lawful when it is a file of some records
abbrev pub Lawful : Bytes → Type 0
Lawful raw = (records : List Values) × File raw records

-- some bytes behind these make them a lawful file
abbrev pub Continues : Bytes → Type 0
Continues raw = (rest : Bytes) × Lawful (raw ++ rest)

-- n fields, each with a comma behind it
pub data Fields : Bytes → ℕ → Type 0 where
  none : Fields [] 0
  more : {before raw value : Bytes} {n : ℕ} →
      Fields before n → Field raw value → Fields (before ++ (raw ++ (COMMA ∷ []))) (n + 1)

-- n records, each with a CRLF behind it
pub data Records : Bytes → ℕ → Type 0 where
  none : Records [] 0
  more : {before raw : Bytes} {values : Values} {n : ℕ} →
      Records before n → Record raw values → Records (before ++ (raw ++ (CR ∷ LF ∷ []))) (n + 1)

-- what has begun of a field: the front of one, or a field and a CR
pub data Begun : Bytes → Type 0 where
  front : {raw value : Bytes} (rest : Bytes) → Field (raw ++ rest) value → Begun raw
  return : {raw value : Bytes} → Field raw value → Begun (raw ++ (CR ∷ []))

-- The byte behind `raw` stands in record r and field f, both from 1: `raw` is r - 1 records, then f - 1 fields, then what
-- has begun of one more.
pub data StandsIn : Bytes → ℕ → ℕ → Type 0 where
  place : {records fields begun : Bytes} {r f : ℕ} →
      Records records r → Fields fields f → Begun begun → StandsIn (records ++ (fields ++ begun)) (r + 1) (f + 1)

-- `raw` breaks the grammar at byte i: the first i bytes can be continued, and the first i + 1 cannot, or there are
-- no more and `raw` is not lawful.
abbrev pub BreaksAt : Bytes → ℕ → Type 0
BreaksAt raw i =
    Continues (take i raw)
    × (((i < length raw) × (Continues (take (i + 1) raw) → ⊥)) ⊎ ((i ≡ length raw) × (Lawful raw → ⊥)))

-- `raw` breaks the grammar in record r and field f
abbrev pub Breaks : Bytes → ℕ → ℕ → Type 0
Breaks raw r f = (i : ℕ) × BreaksAt raw i × StandsIn (take i raw) r f
