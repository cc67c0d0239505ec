-- The table run over bytes, and what it does on what the grammar allows.
use Rattle.std.proofs.Common.{◌≡◌, ℕ, ◌+◌, ◌≤◌, true, ◌⊎◌, List, [], ◌∷◌, ◌++◌, Some, None, Option, sym, refl, ap, ◌∙◌, inl, inr, append_assoc, append-nil, arith}
use Rattle.std.proofs.lemmas.Bool.{false≢true, ne_eqb, le-leb}
use Rattle.table_files.specs.declared.reader.Class.TheVariants.{Comma, Cr, Text}
use Rattle.table_files.specs.declared.reader.State.{State}
use Rattle.table_files.specs.declared.reader.State.TheVariants.{Before, Plain, Quoted, AfterQuote, AfterCr}
use Rattle.table_files.specs.declared.reader.Reader.{Reader}
use Rattle.table_files.specs.Steps.{class_of, at, moved, next, done}
use Rattle.table_files.specs.Grammar.{TextData, COMMA, CR, LF, DQUOTE, NonEscaped, Inside, Field, Record, File, Fields, Records, Begun, StandsIn, Continues}

abbrev pub step : Option Reader → ℕ → Option Reader
step None b = None
step (Some x) b = moved x (class_of b)

abbrev pub run : Option Reader → List ℕ → Option Reader
run o [] = o
run o (b ∷ s) = run (step o b) s

abbrev pub start : Option Reader
start = Some (at Before 1 1)

pub run_append : (o : Option Reader) (p s : List ℕ) → run o (p ++ s) ≡ run (run o p) s
run_append o [] s = refl
run_append o (b ∷ p) s = run_append (step o b) p s

run_none : (s : List ℕ) → run None s ≡ None
run_none [] = refl
run_none (b ∷ s) = run_none s

pub text_class : (b : ℕ) → TextData b → class_of b ≡ Text
text_class b t =
    let lo : 32 ≤ b = omega arith in
    let hi : b ≤ 126 = omega arith in
    rw (ne_eqb b 44 (omega arith), ne_eqb b 34 (omega arith), ne_eqb b 13 (omega arith), ne_eqb b 10 (omega arith), le-leb 32 b lo, le-leb b 126 hi)

done_comma : (q : State) (r f : ℕ) → done q ≡ true → next q Comma r f ≡ Some (at Before r (f + 1))
done_comma Before r f d = refl
done_comma Plain r f d = refl
done_comma Quoted r f d = absurd (false≢true d)
done_comma AfterQuote r f d = refl
done_comma AfterCr r f d = absurd (false≢true d)

done_cr : (q : State) (r f : ℕ) → done q ≡ true → next q Cr r f ≡ Some (at AfterCr r f)
done_cr Before r f d = refl
done_cr Plain r f d = refl
done_cr Quoted r f d = absurd (false≢true d)
done_cr AfterQuote r f d = refl
done_cr AfterCr r f d = absurd (false≢true d)

plain_runs : {raw value : List ℕ} → NonEscaped raw value → (r f : ℕ) (t : List ℕ) →
    run (Some (at Plain r f)) (raw ++ t) ≡ run (Some (at Plain r f)) t
plain_runs NonEscaped.none r f t = refl
plain_runs (NonEscaped.more {b} {raw} x n) r f t =
    ap (λ c. run (next Plain c r f) (raw ++ t)) (text_class b x) ∙ plain_runs n r f t

pub inner_stays : (b r f : ℕ) → TextData b ⊎ ((b ≡ COMMA) ⊎ ((b ≡ CR) ⊎ (b ≡ LF))) → next Quoted (class_of b) r f ≡ Some (at Quoted r f)
inner_stays b r f (inl t) = ap (λ c. next Quoted c r f) (text_class b t)
inner_stays b r f (inr (inl e)) = ap (λ c. next Quoted (class_of c) r f) e
inner_stays b r f (inr (inr (inl e))) = ap (λ c. next Quoted (class_of c) r f) e
inner_stays b r f (inr (inr (inr e))) = ap (λ c. next Quoted (class_of c) r f) e

inside_runs : {raw value : List ℕ} → Inside raw value → (r f : ℕ) (t : List ℕ) →
    run (Some (at Quoted r f)) (raw ++ t) ≡ run (Some (at Quoted r f)) t
inside_runs Inside.none r f t = refl
inside_runs (Inside.one {b} {raw} x n) r f t = ap (λ o. run o (raw ++ t)) (inner_stays b r f x) ∙ inside_runs n r f t
inside_runs (Inside.two n) r f t = inside_runs n r f t

-- from before a field to where a field may end
abbrev Over : List ℕ → ℕ → ℕ → Type 0
Over raw r f =
    (q : State) × (done q ≡ true) × ((t : List ℕ) → run (Some (at Before r f)) (raw ++ t) ≡ run (Some (at q r f)) t)

field_runs : {raw value : List ℕ} → Field raw value → (r f : ℕ) → Over raw r f
field_runs (Field.escaped i) r f = (AfterQuote, refl, λ t. rw append_assoc (inside_runs i r f (DQUOTE ∷ t)))
field_runs (Field.plain NonEscaped.none) r f = (Before, refl, λ t. refl)
field_runs (Field.plain (NonEscaped.more {b} {raw} x n)) r f =
    (Plain, refl, λ t. ap (λ c. run (next Before c r f) (raw ++ t)) (text_class b x) ∙ plain_runs n r f t)

field_comma : {raw value : List ℕ} → Field raw value → (r f : ℕ) (t : List ℕ) →
    run (Some (at Before r f)) (raw ++ (COMMA ∷ t)) ≡ run (Some (at Before r (f + 1))) t
field_comma fd r f t = let h = field_runs fd r f in h.2 (COMMA ∷ t) ∙ ap (λ o. run o t) (done_comma h.0 r f h.1)

fields_run : {raw : List ℕ} {n : ℕ} → Fields raw n → (r : ℕ) (t : List ℕ) →
    run (Some (at Before r 1)) (raw ++ t) ≡ run (Some (at Before r (n + 1))) t
fields_run Fields.none r t = refl
fields_run (Fields.more {before} {raw} {value} {n} fs fd) r t =
    simp append_assoc (fields_run fs r (raw ++ (COMMA ∷ t)) ∙ field_comma fd r (n + 1) t)

record_runs : {raw : List ℕ} {values : List (List ℕ)} → Record raw values → (r f : ℕ) → (g : ℕ) × (q : State) × (done q ≡ true)
    × ((t : List ℕ) → run (Some (at Before r f)) (raw ++ t) ≡ run (Some (at q r g)) t)
record_runs (Record.last fd) r f = let h = field_runs fd r f in (f, h.0, h.1, h.2)
record_runs (Record.more {raw} {value} {rest} fd rc) r f =
    let h = record_runs rc r (f + 1) in
    (h.0, h.1, h.2, λ t. rw append_assoc (field_comma fd r f (rest ++ t) ∙ h.3 t))

record_crlf : {raw : List ℕ} {values : List (List ℕ)} → Record raw values → (r f : ℕ) (t : List ℕ) →
    run (Some (at Before r f)) (raw ++ (CR ∷ LF ∷ t)) ≡ run (Some (at Before (r + 1) 1)) t
record_crlf rc r f t =
    let h = record_runs rc r f in h.3 (CR ∷ LF ∷ t) ∙ ap (λ o. run o (LF ∷ t)) (done_cr h.1 r h.0 h.2)

records_run : {raw : List ℕ} {n : ℕ} → Records raw n → (t : List ℕ) → run start (raw ++ t) ≡ run (Some (at Before (n + 1) 1)) t
records_run Records.none t = refl
records_run (Records.more {before} {raw} {values} {n} rs rc) t =
    simp append_assoc (records_run rs (raw ++ (CR ∷ LF ∷ t)) ∙ record_crlf rc (n + 1) 1 t)

pub file_runs : {raw : List ℕ} {records : List (List (List ℕ))} → File raw records → (r : ℕ) →
    (x : Reader) × (run (Some (at Before r 1)) raw ≡ Some x) × (done x.state ≡ true)
file_runs (File.last {raw} rc) r =
    let h = record_runs rc r 1 in (at h.1 r h.0, ap (run (Some (at Before r 1))) (sym (append-nil raw)) ∙ h.3 [], h.2)
file_runs (File.ended rc) r = (at Before (r + 1) 1, record_crlf rc r 1 [], refl)
file_runs (File.more {raw} {values} {b} {rest} rc fl) r =
    let h = file_runs fl (r + 1) in (h.0, record_crlf rc r 1 (b ∷ rest) ∙ h.1, h.2)

-- a field's front leads to no other field

never : {A : Type 0} (b : ℕ) (s : List ℕ) → b ∷ s ≡ [] → A
never b s e = let z : ◌≡◌ {A = ℕ} 0 1 = cc in absurd (omega arith)

abbrev Within : State → List ℕ → ℕ → ℕ → Type 0
Within p raw r f = (q : State) × (run (Some (at p r f)) raw ≡ Some (at q r f))

plain_front : {whole v : List ℕ} → NonEscaped whole v → (raw rest : List ℕ) → raw ++ rest ≡ whole → (r f : ℕ) → Within Plain raw r f
plain_front NonEscaped.none [] rest e r f = (Plain, refl)
plain_front NonEscaped.none (b ∷ raw) rest e r f = never b (raw ++ rest) e
plain_front (NonEscaped.more x n) [] rest e r f = (Plain, refl)
plain_front (NonEscaped.more {b = c} {raw = w} x n) (b ∷ raw) rest e r f =
    let h : b ≡ c = cc in
    let t : raw ++ rest ≡ w = cc in
    let k = plain_front n raw rest t r f in
    (k.0, ap (λ o. run (next Plain o r f) raw) (ap class_of h ∙ text_class c x) ∙ k.1)

inside_front : {w v : List ℕ} → Inside w v → (raw rest : List ℕ) → raw ++ rest ≡ w ++ (DQUOTE ∷ []) → (r f : ℕ) → Within Quoted raw r f
inside_front Inside.none [] rest e r f = (Quoted, refl)
inside_front Inside.none (b ∷ []) rest e r f = let h : b ≡ DQUOTE = cc in (AfterQuote, ap (λ c. next Quoted (class_of c) r f) h)
inside_front Inside.none (b ∷ c ∷ raw) rest e r f = let t : c ∷ (raw ++ rest) ≡ [] = cc in never c (raw ++ rest) t
inside_front (Inside.one x n) [] rest e r f = (Quoted, refl)
inside_front (Inside.one {b = c} {raw = w} x n) (b ∷ raw) rest e r f =
    let h : b ≡ c = cc in
    let t : raw ++ rest ≡ w ++ (DQUOTE ∷ []) = cc in
    let k = inside_front n raw rest t r f in
    (k.0, ap (λ o. run o raw) (ap (λ d. next Quoted (class_of d) r f) h ∙ inner_stays c r f x) ∙ k.1)
inside_front (Inside.two n) [] rest e r f = (Quoted, refl)
inside_front (Inside.two n) (b ∷ []) rest e r f = let h : b ≡ DQUOTE = cc in (AfterQuote, ap (λ c. next Quoted (class_of c) r f) h)
inside_front (Inside.two {raw = w} n) (b ∷ c ∷ raw) rest e r f =
    let h : b ≡ DQUOTE = cc in
    let g : c ≡ DQUOTE = cc in
    let t : raw ++ rest ≡ w ++ (DQUOTE ∷ []) = cc in
    let k = inside_front n raw rest t r f in
    (k.0, ap (λ d. run (step (next Quoted (class_of d) r f) c) raw) h ∙ (ap (λ d. run (next AfterQuote (class_of d) r f) raw) g ∙ k.1))

field_front : {whole v : List ℕ} → Field whole v → (raw rest : List ℕ) → raw ++ rest ≡ whole → (r f : ℕ) → Within Before raw r f
field_front (Field.escaped i) [] rest e r f = (Before, refl)
field_front (Field.escaped {raw = w} i) (b ∷ raw) rest e r f =
    let h : b ≡ DQUOTE = cc in
    let t : raw ++ rest ≡ w ++ (DQUOTE ∷ []) = cc in
    let k = inside_front i raw rest t r f in
    (k.0, ap (λ d. run (next Before (class_of d) r f) raw) h ∙ k.1)
field_front (Field.plain n) [] rest e r f = (Before, refl)
field_front (Field.plain NonEscaped.none) (b ∷ raw) rest e r f = never b (raw ++ rest) e
field_front (Field.plain (NonEscaped.more {b = c} {raw = w} x n)) (b ∷ raw) rest e r f =
    let h : b ≡ c = cc in
    let t : raw ++ rest ≡ w = cc in
    let k = plain_front n raw rest t r f in
    (k.0, ap (λ o. run (next Before o r f) raw) (ap class_of h ∙ text_class c x) ∙ k.1)

begun_runs : {raw : List ℕ} → Begun raw → (r f : ℕ) → Within Before raw r f
begun_runs (Begun.front {raw} rest fd) r f = field_front fd raw rest refl r f
begun_runs (Begun.return fd) r f =
    let h = field_runs fd r f in (AfterCr, h.2 (CR ∷ []) ∙ done_cr h.0 r f h.1)

-- the table counts as `StandsIn` does
pub place_runs : {raw : List ℕ} {r f : ℕ} → StandsIn raw r f → (q : State) × (run start raw ≡ Some (at q r f))
place_runs (StandsIn.place {records} {fields} {begun} {r} {f} rs fs bg) =
    let h = begun_runs bg (r + 1) (f + 1) in
    (h.0, records_run rs (fields ++ begun) ∙ (fields_run fs (r + 1) begun ∙ h.1))

-- where the table stops, no lawful file goes on
pub dead : (p : List ℕ) → run start p ≡ None → Continues p → ⊥
dead p e c =
    let h = file_runs c.1.1 1 in
    let n : run start (p ++ c.0) ≡ None = run_append start p c.0 ∙ (ap (λ o. run o c.0) e ∙ run_none c.0) in
    let z : ◌≡◌ {A = ℕ} 0 1 = cc h.1 in
    omega arith
