-- Where the reader finds the end of a field.
use Rattle.std.proofs.Common.{◌≡◌, ℕ, suc, ◌+◌, ◌<◌, ◌≤◌, Bool, true, false, ◌&&◌, ◌⊎◌, List, [], ◌∷◌, ◌++◌, length, get_or, drop, Some, None, Option, sym, refl, ap, ◌∙◌, subst, inl, inr, append_assoc, arith, length-append}
use Rattle.std.proofs.lemmas.List.{drop_more, drop_all}
use Rattle.std.proofs.lemmas.Bool.{false≢true}
use Rattle.table_files.specs.declared.reader.Class.{Class}
use Rattle.table_files.specs.declared.reader.Class.TheVariants.{Comma, Quote, Cr, Lf, Text, Other}
use Rattle.table_files.specs.declared.reader.State.{State}
use Rattle.table_files.specs.declared.reader.State.TheVariants.{Before, Plain, Quoted, AfterQuote, AfterCr}
use Rattle.table_files.specs.declared.reader.Reader.{Reader}
use Rattle.table_files.specs.Steps.{class_of, at, moved, next, done, parts}
use Rattle.table_files.specs.Grammar.{DQUOTE, NonEscaped, Inside, Field}
use Rattle.table_files.specs.Fields.{Ends, all, comma, line, EndsAt}
use Rattle.table_files.proofs.Runs.{text_class, inner_stays}

abbrev passed : Bool → Option Reader → (Reader → ℕ) → ℕ
passed true o k = 0
passed false None k = 0
passed false (Some y) k = suc (k y)

-- how many bytes the reader passes before one that ends the field, or that it refuses
abbrev pub span : Reader → List ℕ → ℕ
span x [] = 0
span x (b ∷ s) =
    passed (done x.state && parts (class_of b)) (moved x (class_of b)) (λ y. span y s)

abbrev first : Reader
first = at Before 1 1

ends_here : (q : State) {t : List ℕ} → done q ≡ true → Ends t → span (at q 1 1) t ≡ 0
ends_here Before d all = refl
ends_here Before d comma = refl
ends_here Before d line = refl
ends_here Plain d all = refl
ends_here Plain d comma = refl
ends_here Plain d line = refl
ends_here Quoted d e = absurd (false≢true d)
ends_here AfterQuote d all = refl
ends_here AfterQuote d comma = refl
ends_here AfterQuote d line = refl
ends_here AfterCr d e = absurd (false≢true d)

module _ {t : List ℕ} (e : Ends t) where
  plain_span : {raw value : List ℕ} → NonEscaped raw value → span (at Plain 1 1) (raw ++ t) ≡ length raw
  plain_span NonEscaped.none = ends_here Plain refl e
  plain_span (NonEscaped.more {b} {raw} x n) =
      ap (λ c. passed (done Plain && parts c) (next Plain c 1 1) (λ y. span y (raw ++ t))) (text_class b x) ∙ ap suc (plain_span n)

  inside_span : {raw value : List ℕ} → Inside raw value → span (at Quoted 1 1) (raw ++ (DQUOTE ∷ t)) ≡ length raw + 1
  inside_span Inside.none = ap suc (ends_here AfterQuote refl e)
  inside_span (Inside.one {b} {raw} x n) =
      ap (λ o. passed false o (λ y. span y (raw ++ (DQUOTE ∷ t)))) (inner_stays b 1 1 x) ∙ omega (arith, inside_span n)
  inside_span (Inside.two n) = omega (arith, inside_span n)

  field_span : {raw value : List ℕ} → Field raw value → span first (raw ++ t) ≡ length raw
  field_span (Field.escaped {raw} i) =
      let l = length-append raw (DQUOTE ∷ []) in
      ap (λ s. suc (span (at Quoted 1 1) s)) (append_assoc raw (DQUOTE ∷ []) t) ∙ omega (arith, inside_span i)
  field_span (Field.plain NonEscaped.none) = ends_here Before refl e
  field_span (Field.plain (NonEscaped.more {b} {raw} x n)) =
      ap (λ c. passed (done Before && parts c) (next Before c 1 1) (λ y. span y (raw ++ t))) (text_class b x) ∙ ap suc (plain_span n)

pub span_ends : (text : List ℕ) (i : ℕ) → i ≡ span first text → EndsAt text i
span_ends text i h raw value rest e fd en = h ∙ (ap (span first) e ∙ field_span en fd)

-- within a field the reader stays in its record and field

abbrev pub Stayed : Option Reader → Type 0
Stayed None = Unit {0}
Stayed (Some y) = (y.place.«record» ≡ 1) × (y.place.field ≡ 1) × (y.state ≡ AfterCr → ⊥)

not_cr : (q : State) → (q ≡ Plain) ⊎ ((q ≡ Quoted) ⊎ (q ≡ AfterQuote)) → q ≡ AfterCr → ⊥
not_cr q (inl e) h = let z : ◌≡◌ {A = ℕ} 0 1 = cc in omega arith
not_cr q (inr (inl e)) h = let z : ◌≡◌ {A = ℕ} 0 1 = cc in omega arith
not_cr q (inr (inr e)) h = let z : ◌≡◌ {A = ℕ} 0 1 = cc in omega arith

in_plain : Stayed (Some (at Plain 1 1))
in_plain = (refl, refl, not_cr Plain (inl refl))

in_quoted : Stayed (Some (at Quoted 1 1))
in_quoted = (refl, refl, not_cr Quoted (inr (inl refl)))

after_quote : Stayed (Some (at AfterQuote 1 1))
after_quote = (refl, refl, not_cr AfterQuote (inr (inr refl)))

stay : (q : State) (c : Class) → (q ≡ AfterCr → ⊥) → (done q && parts c) ≡ false → Stayed (next q c 1 1)
stay Before Comma a p = absurd (false≢true (sym p))
stay Before Quote a p = in_quoted
stay Before Cr a p = absurd (false≢true (sym p))
stay Before Lf a p = tt
stay Before Text a p = in_plain
stay Before Other a p = tt
stay Plain Comma a p = absurd (false≢true (sym p))
stay Plain Quote a p = tt
stay Plain Cr a p = absurd (false≢true (sym p))
stay Plain Lf a p = tt
stay Plain Text a p = in_plain
stay Plain Other a p = tt
stay Quoted Comma a p = in_quoted
stay Quoted Quote a p = after_quote
stay Quoted Cr a p = in_quoted
stay Quoted Lf a p = in_quoted
stay Quoted Text a p = in_quoted
stay Quoted Other a p = tt
stay AfterQuote Comma a p = absurd (false≢true (sym p))
stay AfterQuote Quote a p = in_quoted
stay AfterQuote Cr a p = absurd (false≢true (sym p))
stay AfterQuote Lf a p = tt
stay AfterQuote Text a p = tt
stay AfterQuote Other a p = tt
stay AfterCr c a p = absurd (a refl)

-- the reader x at byte i of the field that a text begins with
pub record InsideField (text : List ℕ) (i : ℕ) (x : Reader) : Type 0 where
  pub stayed : Stayed (Some x)
  pub left : i + span x (drop i text) ≡ span first text

module _ (text : List ℕ) (i : ℕ) (x : Reader) (h : InsideField text i x) where
  pub inside_all : length text ≤ i → i ≡ span first text
  inside_all l = omega (arith, h.left, ap (span x) (drop_all i text l))

  module _ (lt : i < length text) where
    abbrev b : ℕ
    b = get_or text i 0

    here : (p : Bool) (o : Option Reader) → (done x.state && parts (class_of b)) ≡ p → moved x (class_of b) ≡ o →
        i + passed p o (λ y. span y (drop (i + 1) text)) ≡ span first text
    here p o e f =
        subst (λ q. i + passed q o (λ y. span y (drop (i + 1) text)) ≡ span first text) e
        (subst (λ q. i + passed (done x.state && parts (class_of b)) q (λ y. span y (drop (i + 1) text)) ≡ span first text) f
        (ap (λ s. i + span x s) (sym (drop_more text i 0 lt)) ∙ h.left))

    pub inside_ended : (done x.state && parts (class_of b)) ≡ true → i ≡ span first text
    inside_ended e = omega (arith, here true _ e refl)

    pub inside_stuck : (done x.state && parts (class_of b)) ≡ false → moved x (class_of b) ≡ None →
        i ≡ span first text
    inside_stuck e f = omega (arith, here false None e f)

    pub inside_more : (y : Reader) → (done x.state && parts (class_of b)) ≡ false → moved x (class_of b) ≡ Some y →
        InsideField text (i + 1) y
    inside_more y e f =
        let s = stay x.state (class_of b) h.stayed.2 e in
        let f' : next x.state (class_of b) 1 1 ≡ Some y =
        ap (λ n. next x.state (class_of b) n 1) (sym h.stayed.0) ∙ (ap (next x.state (class_of b) x.place.«record») (sym h.stayed.1) ∙ f) in
        record { stayed = subst Stayed f' s; left = omega (arith, here false (Some y) e f) }
