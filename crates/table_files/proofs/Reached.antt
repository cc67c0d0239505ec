-- What a state says of the bytes before it, one lemma for each kind of move; and what follows at the end.
use Rattle.std.proofs.Common.{◌≡◌, ℕ, ◌+◌, ◌≤◌, true, ◌&&◌, eqb, leb, ◌⊎◌, List, [], ◌∷◌, ◌++◌, length, Some, None, Option, sym, refl, ap, ◌∙◌, subst, inl, inr, append_assoc, append-nil, arith, length-append}
use Rattle.std.proofs.lemmas.Bool.{false≢true, cond_both, eqb-true, eqb-false, leb-true, and_parts, cases_lt}
use Rattle.table_files.specs.declared.reader.Class.{Class}
use Rattle.table_files.specs.declared.reader.Class.TheVariants.{Comma, Quote, Cr, Lf, Text, Other}
use Rattle.table_files.specs.declared.reader.State.{State}
use Rattle.table_files.specs.declared.reader.State.TheVariants.{Before, Plain, Quoted, AfterQuote, AfterCr}
use Rattle.table_files.specs.declared.reader.Reader.{Reader}
use Rattle.table_files.specs.Steps.{class_of, at, moved, next, done}
use Rattle.table_files.specs.Grammar.{TextData, COMMA, CR, LF, DQUOTE, NonEscaped, Inside, Field, Record, File, Fields, Records, Begun, StandsIn, Lawful, Continues}

-- what a class says of its byte
abbrev pub Kind : Class → ℕ → Type 0
Kind Comma b = b ≡ COMMA
Kind Quote b = b ≡ DQUOTE
Kind Cr b = b ≡ CR
Kind Lf b = b ≡ LF
Kind Text b = TextData b
Kind Other b = Unit {0}

text_data : (b : ℕ) → 32 ≤ b → b ≤ 126 → (b ≡ 44 → ⊥) → (b ≡ 34 → ⊥) → TextData b
text_data b lo hi c q =
    elim (cases_lt b 34) [
      | inl h ↦ inl (lo, omega arith)
      | inr h ↦ elim (cases_lt b 44) [ inl k ↦ inr (inl (omega arith, omega arith)) | inr k ↦ inr (inr (omega arith, hi)) ]
    ]

kind : (b : ℕ) → Kind (class_of b) b
kind b =
    let P : Class → Type 0 = λ c. Kind c b in
    cond_both (eqb b 44) _ _ P (eqb-true b 44) λ c.
    cond_both (eqb b 34) _ _ P (eqb-true b 34) λ q.
    cond_both (eqb b 13) _ _ P (eqb-true b 13) λ _.
    cond_both (eqb b 10) _ _ P (eqb-true b 10) λ _.
    cond_both (leb 32 b && leb b 126) _ _ P
    (λ e.
    let h = and_parts (leb 32 b) (leb b 126) e in
    text_data b (leb-true 32 b h.0) (leb-true b 126 h.1) (eqb-false b 44 c) (eqb-false b 34 q))
    (λ _. tt)

plain_append : {r s v w : List ℕ} → NonEscaped r v → NonEscaped s w → NonEscaped (r ++ s) (v ++ w)
plain_append NonEscaped.none m = m
plain_append (NonEscaped.more x n) m = NonEscaped.more x (plain_append n m)

inside_append : {r s v w : List ℕ} → Inside r v → Inside s w → Inside (r ++ s) (v ++ w)
inside_append Inside.none m = m
inside_append (Inside.one x n) m = Inside.one x (inside_append n m)
inside_append (Inside.two n) m = Inside.two (inside_append n m)

abbrev pub NonEmpty : List ℕ → Type 0
NonEmpty [] = ⊥
NonEmpty (b ∷ s) = Unit {0}

pub non_empty : (s : List ℕ) (b : ℕ) (t : List ℕ) → NonEmpty (s ++ (b ∷ t))
non_empty [] b t = tt
non_empty (c ∷ s) b t = tt

-- what a state says of the bytes of its field so far
abbrev pub Part : State → List ℕ → Type 0
Part Before c = c ≡ []
Part Plain c = (v : List ℕ) × NonEscaped c v
Part Quoted c = (d : List ℕ) × (v : List ℕ) × (c ≡ DQUOTE ∷ d) × Inside d v
Part AfterQuote c = (d : List ℕ) × (v : List ℕ) × (c ≡ DQUOTE ∷ (d ++ (DQUOTE ∷ []))) × Inside d v
Part AfterCr c = (d : List ℕ) × (v : List ℕ) × (c ≡ d ++ (CR ∷ [])) × Field d v

part_field : (q : State) (c : List ℕ) → done q ≡ true → Part q c → (v : List ℕ) × Field c v
part_field Before c _ e = ([], rw e (Field.plain NonEscaped.none))
part_field Plain c _ p = (p.0, Field.plain p.1)
part_field Quoted c d p = absurd (false≢true d)
part_field AfterQuote c _ p = (p.1, rw p.2 (Field.escaped p.3))
part_field AfterCr c d p = absurd (false≢true d)

whole : (c : List ℕ) {v : List ℕ} → Field c v → Begun c
whole c {v} fd = Begun.front [] (subst (λ k. Field k v) (sym (append-nil c)) fd)

part_begun : (q : State) (c : List ℕ) → Part q c → Begun c
part_begun Before c p = whole c (part_field Before c refl p).1
part_begun Plain c p = whole c (part_field Plain c refl p).1
part_begun Quoted c p = rw p.2 (Begun.front (DQUOTE ∷ []) (Field.escaped p.3))
part_begun AfterQuote c p = whole c (part_field AfterQuote c refl p).1
part_begun AfterCr c p = rw p.2 (Begun.return p.3)

-- the bytes p lead to x
pub record Reached (p : List ℕ) (x : Reader) : Type 0 where
  pub front : List ℕ
  pub row : List ℕ
  pub part : List ℕ
  pub n : ℕ
  pub m : ℕ
  pub whole : p ≡ front ++ (row ++ part)
  pub records : Records front n
  pub fields : Fields row m
  pub begun : Part x.state part
  pub n_is : x.place.«record» ≡ n + 1
  pub m_is : x.place.field ≡ m + 1

record_glue : {b : List ℕ} {m : ℕ} → Fields b m → (s : List ℕ) (vs : List (List ℕ)) → Record s vs → (ws : List (List ℕ)) × Record (b ++ s) ws
record_glue Fields.none s vs rc = (vs, rc)
record_glue (Fields.more {before} {raw} {value} fs fd) s vs rc =
    simp append_assoc (record_glue fs (raw ++ (COMMA ∷ s)) (value ∷ vs) (Record.more fd rc))

-- the record that a state in which a field may end has read
row_of : {p : List ℕ} {x : Reader} (h : Reached p x) (d v : List ℕ) → Field d v → (ws : List (List ℕ)) × Record (h.row ++ d) ws
row_of h d v fd = record_glue h.fields d (v ∷ []) (Record.last fd)

module _ {p : List ℕ} {r f : ℕ} where
  same : (q q' : State) (b : ℕ) → Reached p (at q r f) → ((c : List ℕ) → Part q c → Part q' (c ++ (b ∷ []))) →
      Reached (p ++ (b ∷ [])) (at q' r f)
  same q q' b h g =
      record {
        front = h.front;
        row = h.row;
        part = h.part ++ (b ∷ []);
        n = h.n;
        m = h.m;
        whole = rw h.whole (simp append_assoc);
        records = h.records;
        fields = h.fields;
        begun = g h.part h.begun;
        n_is = h.n_is;
        m_is = h.m_is;
      }

  comma : (q : State) → done q ≡ true → Reached p (at q r f) → Reached (p ++ (COMMA ∷ [])) (at Before r (f + 1))
  comma q d h =
      record {
        front = h.front;
        row = h.row ++ (h.part ++ (COMMA ∷ []));
        part = [];
        n = h.n;
        m = h.m + 1;
        whole = rw h.whole (simp (append_assoc, append-nil));
        records = h.records;
        fields = Fields.more h.fields (part_field q h.part d h.begun).1;
        begun = refl;
        n_is = h.n_is;
        m_is = ap (λ k. k + 1) h.m_is;
      }

  newline : Reached p (at AfterCr r f) → Reached (p ++ (LF ∷ [])) (at Before (r + 1) 1)
  newline h =
      let d = h.begun.0 in
      record {
        front = h.front ++ ((h.row ++ d) ++ (CR ∷ LF ∷ []));
        row = [];
        part = [];
        n = h.n + 1;
        m = 0;
        whole = rw (h.whole, h.begun.2) (simp (append_assoc, append-nil));
        records = Records.more h.records (row_of h d h.begun.1 h.begun.3).1;
        fields = Fields.none;
        begun = refl;
        n_is = ap (λ k. k + 1) h.n_is;
        m_is = refl;
      }

  return : (q : State) → done q ≡ true → Reached p (at q r f) → Reached (p ++ (CR ∷ [])) (at AfterCr r f)
  return q d h = same q AfterCr CR h (λ c k. let g = part_field q c d k in (c, g.0, refl, g.1))

  more : (b : ℕ) → TextData b ⊎ ((b ≡ COMMA) ⊎ ((b ≡ CR) ⊎ (b ≡ LF))) → Reached p (at Quoted r f) → Reached (p ++ (b ∷ [])) (at Quoted r f)
  more b x h =
      same Quoted Quoted b h (λ c k. (k.0 ++ (b ∷ []), k.1 ++ (b ∷ []), ap (λ l. l ++ (b ∷ [])) k.2, inside_append k.3 (Inside.one x Inside.none)))

abbrev Good : List ℕ → Option Reader → Type 0
Good p None = Unit {0}
Good p (Some x) = Reached p x

move : (p : List ℕ) (q : State) (c : Class) (b r f : ℕ) → Kind c b → Reached p (at q r f) → Good (p ++ (b ∷ [])) (next q c r f)
move p Before Comma b r f k h = rw k (comma Before refl h)
move p Before Quote b r f k h = same Before Quoted b h (λ c e. ([], [], rw (e, k), Inside.none))
move p Before Cr b r f k h = rw k (return Before refl h)
move p Before Lf b r f k h = tt
move p Before Text b r f k h = same Before Plain b h (λ c e. (b ∷ [], rw e (NonEscaped.more k NonEscaped.none)))
move p Before Other b r f k h = tt
move p Plain Comma b r f k h = rw k (comma Plain refl h)
move p Plain Quote b r f k h = tt
move p Plain Cr b r f k h = rw k (return Plain refl h)
move p Plain Lf b r f k h = tt
move p Plain Text b r f k h =
    same Plain Plain b h (λ c e. (e.0 ++ (b ∷ []), plain_append e.1 (NonEscaped.more k NonEscaped.none)))
move p Plain Other b r f k h = tt
move p Quoted Comma b r f k h = more b (inr (inl k)) h
move p Quoted Quote b r f k h = same Quoted AfterQuote b h (λ c e. (e.0, e.1, rw (e.2, k), e.3))
move p Quoted Cr b r f k h = more b (inr (inr (inl k))) h
move p Quoted Lf b r f k h = more b (inr (inr (inr k))) h
move p Quoted Text b r f k h = more b (inl k) h
move p Quoted Other b r f k h = tt
move p AfterQuote Comma b r f k h = rw k (comma AfterQuote refl h)
move p AfterQuote Quote b r f k h =
    same AfterQuote Quoted b h (λ c e.
    (e.0 ++ (DQUOTE ∷ DQUOTE ∷ []), e.1 ++ (DQUOTE ∷ []), rw (e.2, k) (ap (λ l. DQUOTE ∷ l) (append_assoc e.0 (DQUOTE ∷ []) (DQUOTE ∷ []))), inside_append e.3 (Inside.two Inside.none)))
move p AfterQuote Cr b r f k h = rw k (return AfterQuote refl h)
move p AfterQuote Lf b r f k h = tt
move p AfterQuote Text b r f k h = tt
move p AfterQuote Other b r f k h = tt
move p AfterCr Comma b r f k h = tt
move p AfterCr Quote b r f k h = tt
move p AfterCr Cr b r f k h = tt
move p AfterCr Lf b r f k h = rw k (newline h)
move p AfterCr Text b r f k h = tt
move p AfterCr Other b r f k h = tt

pub reached_start : Reached [] (at Before 1 1)
reached_start =
    record {
      front = [];
      row = [];
      part = [];
      n = 0;
      m = 0;
      whole = refl;
      records = Records.none;
      fields = Fields.none;
      begun = refl;
      n_is = refl;
      m_is = refl;
    }

pub reached_more : (p : List ℕ) (b : ℕ) (x y : Reader) → Reached p x → moved x (class_of b) ≡ Some y →
    Reached (p ++ (b ∷ [])) y
reached_more p b x y h e =
    subst (Good (p ++ (b ∷ []))) e (move p x.state (class_of b) b x.place.«record» x.place.field (kind b) h)

-- At the end: a lawful file, or some bytes that make one.

file_glue : {a : List ℕ} {n : ℕ} → Records a n → (s : List ℕ) → NonEmpty s → Lawful s → Lawful (a ++ s)
file_glue Records.none s o l = l
file_glue (Records.more rs rc) [] o l = absurd o
file_glue (Records.more {before} {raw} {values} rs rc) (b ∷ s) o l =
    simp append_assoc
    (file_glue rs (raw ++ (CR ∷ LF ∷ b ∷ s)) (non_empty raw CR (LF ∷ b ∷ s)) (values ∷ l.0, File.more rc l.1))

file_end : {a : List ℕ} {n : ℕ} → Records a n → (s : List ℕ) (vs : List (List ℕ)) → Record s vs → Lawful (a ++ s)
file_end Records.none s vs rc = (vs ∷ [], File.last rc)
file_end (Records.more {before} {raw} {values} rs r) [] vs rc =
    simp (append_assoc, append-nil) (file_glue rs (raw ++ (CR ∷ LF ∷ [])) (non_empty raw CR (LF ∷ [])) (values ∷ [], File.ended r))
file_end (Records.more rs r) (b ∷ s) vs rc = file_glue (Records.more rs r) (b ∷ s) tt (vs ∷ [], File.last rc)

pub accept : (p : List ℕ) (x : Reader) → Reached p x → done x.state ≡ true → Lawful p
accept p x h d =
    let fd = part_field x.state h.part d h.begun in
    let rc = row_of h h.part fd.0 fd.1 in
    rw h.whole (file_end h.records (h.row ++ h.part) rc.0 rc.1)

go_on : (p : List ℕ) (q : State) (r f : ℕ) → Reached p (at q r f) → Continues p
go_on p Before r f h = ([], rw append-nil (accept p (at Before r f) h refl))
go_on p Plain r f h = ([], rw append-nil (accept p (at Plain r f) h refl))
go_on p Quoted r f h = (DQUOTE ∷ [], accept (p ++ (DQUOTE ∷ [])) (at AfterQuote r f) (move p Quoted Quote DQUOTE r f refl h) refl)
go_on p AfterQuote r f h = ([], rw append-nil (accept p (at AfterQuote r f) h refl))
go_on p AfterCr r f h =
    (LF ∷ [], accept (p ++ (LF ∷ [])) (at Before (r + 1) 1) (move p AfterCr Lf LF r f refl h) refl)

pub continues : (p : List ℕ) (x : Reader) → Reached p x → Continues p
continues p x h = go_on p x.state x.place.«record» x.place.field h

pub placed : (p : List ℕ) (x : Reader) → Reached p x → StandsIn p x.place.«record» x.place.field
placed p x h =
    rw (h.whole, h.n_is, h.m_is) (StandsIn.place h.records h.fields (part_begun x.state h.part h.begun))

-- there are no more records and fields than bytes

fields_few : {b : List ℕ} {m : ℕ} → Fields b m → m ≤ length b
fields_few Fields.none = omega arith
fields_few (Fields.more fs fd) = let h = fields_few fs in simp length-append (omega arith)

records_few : {a : List ℕ} {n : ℕ} → Records a n → n ≤ length a
records_few Records.none = omega arith
records_few (Records.more rs rc) = let h = records_few rs in simp length-append (omega arith)

pub few : (p : List ℕ) (x : Reader) → Reached p x → (x.place.«record» ≤ length p + 1) × (x.place.field ≤ length p + 1)
few p x h =
    let l : length p ≡ length h.front + (length h.row + length h.part) = ap length h.whole ∙ simp length-append in
    let n = records_few h.records in
    let m = fields_few h.fields in
    (omega (arith, h.n_is), omega (arith, h.m_is))
