-- A file has one reading: `read` finds the records of any lawful file.
use Rattle.std.proofs.Common.{◌≡◌, ℕ, List, [], ◌∷◌, ◌++◌, sym, refl, ap, ◌∙◌, inl, inr, append_assoc, append-nil}
use Rattle.table_files.specs.declared.reader.Class.TheVariants.{Comma, Quote, Cr, Lf, Text, Other}
use Rattle.table_files.specs.Steps.{class_of}
use Rattle.table_files.specs.Grammar.{COMMA, CR, LF, DQUOTE, NonEscaped, Inside, Field, Record, File}
use Rattle.table_files.proofs.Runs.{text_class}

abbrev pub Rows : Type 0
Rows = List (List (List ℕ))

-- one more byte in the first field; one more field in the first record
abbrev pub push : ℕ → Rows → Rows
push b [] = []
push b ([] ∷ rs) = []
push b ((v ∷ vs) ∷ rs) = ((b ∷ v) ∷ vs) ∷ rs

abbrev pub cut : Rows → Rows
cut [] = ([] ∷ []) ∷ []
cut (vs ∷ rs) = ([] ∷ vs) ∷ rs

-- outside quotes, inside, and after a quote inside; after a CR
pub data Mode : Type 0 where
  out within half return : Mode

abbrev pub read : Mode → List ℕ → Rows
read out [] = ([] ∷ []) ∷ []
read out (b ∷ s) =
    elim (class_of b) [
      | Comma ↦ cut (read out s)
      | Quote ↦ read within s
      | Cr ↦ ([] ∷ []) ∷ read return s
      | Lf ↦ []
      | Text ↦ push b (read out s)
      | Other ↦ []
    ]
read within [] = []
read within (b ∷ s) =
    elim (class_of b) [
      | Comma ↦ push b (read within s)
      | Quote ↦ read half s
      | Cr ↦ push b (read within s)
      | Lf ↦ push b (read within s)
      | Text ↦ push b (read within s)
      | Other ↦ []
    ]
read half [] = ([] ∷ []) ∷ []
read half (b ∷ s) =
    elim (class_of b) [
      | Comma ↦ cut (read out s)
      | Quote ↦ push b (read within s)
      | Cr ↦ ([] ∷ []) ∷ read return s
      | Lf ↦ []
      | Text ↦ []
      | Other ↦ []
    ]
read return [] = []
read return (b ∷ []) = []
read return (b ∷ c ∷ s) = read out (c ∷ s)

-- what is left after a field: no more of it, and then these
pub record Left (t : List ℕ) (vs : List (List ℕ)) (rs : Rows) : Type 0 where
  pub plain : read out t ≡ ([] ∷ vs) ∷ rs
  pub quoted : read half t ≡ ([] ∷ vs) ∷ rs

module _ (t : List ℕ) (vs : List (List ℕ)) (rs : Rows) where
  plain_read : {raw v : List ℕ} → NonEscaped raw v → read out t ≡ ([] ∷ vs) ∷ rs → read out (raw ++ t) ≡ (v ∷ vs) ∷ rs
  plain_read NonEscaped.none e = e
  plain_read (NonEscaped.more {b} x n) e = rw (text_class b x, read) (ap (push b) (plain_read n e))

  inside_read : {raw v : List ℕ} → Inside raw v → read half t ≡ ([] ∷ vs) ∷ rs → read within (raw ++ (DQUOTE ∷ t)) ≡ (v ∷ vs) ∷ rs
  inside_read Inside.none e = e
  inside_read (Inside.one {b} (inl x) n) e = rw (text_class b x, read) (ap (push b) (inside_read n e))
  inside_read (Inside.one {b} (inr (inl x)) n) e = rw x (ap (push COMMA) (inside_read n e))
  inside_read (Inside.one {b} (inr (inr (inl x))) n) e = rw x (ap (push CR) (inside_read n e))
  inside_read (Inside.one {b} (inr (inr (inr x))) n) e = rw x (ap (push LF) (inside_read n e))
  inside_read (Inside.two n) e = ap (push DQUOTE) (inside_read n e)

  field_read : {raw v : List ℕ} → Field raw v → Left t vs rs → read out (raw ++ t) ≡ (v ∷ vs) ∷ rs
  field_read (Field.escaped i) l = rw append_assoc (inside_read i l.quoted)
  field_read (Field.plain n) l = plain_read n l.plain

left_comma : (t : List ℕ) (vs : List (List ℕ)) (rs : Rows) → read out t ≡ vs ∷ rs → Left (COMMA ∷ t) vs rs
left_comma t vs rs e = record { plain = ap cut e; quoted = ap cut e }

record_read : (t : List ℕ) (rs : Rows) {raw : List ℕ} {vs : List (List ℕ)} → Record raw vs → Left t [] rs → read out (raw ++ t) ≡ vs ∷ rs
record_read t rs (Record.last fd) l = field_read t [] rs fd l
record_read t rs (Record.more {rest = rest} {values = vs} fd rc) l =
    rw append_assoc (field_read (COMMA ∷ (rest ++ t)) vs rs fd (left_comma (rest ++ t) vs rs (record_read t rs rc l)))

file_read : {raw : List ℕ} {rs : Rows} → File raw rs → read out raw ≡ rs
file_read (File.last {raw} rc) =
    ap (read out) (sym (append-nil raw)) ∙ record_read [] [] rc (record { plain = refl; quoted = refl })
file_read (File.ended rc) = record_read (CR ∷ LF ∷ []) [] rc (record { plain = refl; quoted = refl })
file_read (File.more {b = b} {rest = rest} {records = rs} rc fl) =
    let e = file_read fl in
    record_read (CR ∷ LF ∷ b ∷ rest) rs rc (record { plain = ap (λ k. ([] ∷ []) ∷ k) e; quoted = ap (λ k. ([] ∷ []) ∷ k) e })

pub one_reading : (raw : List ℕ) (rs qs : Rows) → File raw rs → File raw qs → rs ≡ qs
one_reading raw rs qs f g = sym (file_read f) ∙ file_read g
