-- Where a field stands in a text, and what it says: for the contracts of inner functions alone.
use Rattle.std.specs.Prelude.{◌≡◌, ℕ, ◌-◌, ◌≤◌, ◌⊎◌, [], ◌∷◌, ◌++◌, length, take, drop}
use Rattle.table_files.specs.declared.fields.FieldPlace.{FieldPlace}
use Rattle.table_files.specs.Grammar.{Bytes, COMMA, CR, Field, Inside, NonEscaped}

-- what may stand behind a field: nothing, a comma, or a CR
pub data Ends : Bytes → Type 0 where
  all : Ends []
  comma : {rest : Bytes} → Ends (COMMA ∷ rest)
  line : {rest : Bytes} → Ends (CR ∷ rest)

-- the field that a text begins with ends at byte e
abbrev pub EndsAt : Bytes → ℕ → Type 0
EndsAt text e = (raw value rest : Bytes) → text ≡ raw ++ rest → Field raw value → Ends rest → e ≡ length raw

-- no bytes, at the start
abbrev pub nowhere : FieldPlace
nowhere = record { start = 0; end = 0 }

-- the place lies within the text
abbrev pub Within : Bytes → FieldPlace → Type 0
Within text p = (p.start ≤ p.end) × (p.end ≤ length text)

-- the bytes at the place are a field of this value
abbrev pub Holds : Bytes → FieldPlace → Bytes → Type 0
Holds text p value = Field (take (p.end - p.start) (drop p.start text)) value

-- what stands in a field without the quotes around it
abbrev pub Content : Bytes → Bytes → Type 0
Content raw value = NonEscaped raw value ⊎ Inside raw value
