-- The reader finds the atoms of every lawful text.
use Rattle.std.proofs.Common.{◌≡◌, ℕ, ◌+◌, ◌-◌, ◌<◌, ◌≤◌, List, [], ◌∷◌, ◌++◌, map, length, Some, Ok, sym, refl, ap, ◌∙◌, subst, append_assoc, append-nil, arith, length-append}
use mathlib.Core.List.{map-append}
use Rattle.std.specs.List.{AllByRecursion}
use Rattle.std.specs.Str.Parse.{AllDigits, digits_value}
use Rattle.std.specs.Char.{digit_value}
use Rattle.std.specs.Int.Digits.{number_from_digits, number_from_digits_after}
use Rattle.std.proofs.lemmas.Int.Digits.{digits_value_is, number_after_append, number_after_ge}
use Rattle.std.proofs.lemmas.Str.Parse.{digit_from_value}
use Rattle.std.proofs.lemmas.Bool.{le-leb}
use Rattle.rule.specs.declared.tokens.Class.TheVariants.{Blank, Digit}
use Rattle.rule.specs.declared.rules.Term.{Term}
use Rattle.rule.specs.declared.rules.Term.TheVariants as terms
use Rattle.rule.specs.Classes.{class}
use Rattle.rule.specs.Grammar.{Said, Symbol, Writes, Spells, Says, Numeral, OneOrMore, further, term_symbols, atom_symbols}
use Rattle.rule.specs.Scanning.{State, grown, next, scan}
use Rattle.rule.proofs.Classing.{table_class, variable_class, digit_class}

-- on these bytes the reader, standing at q, finds these atoms
abbrev pub Leads : State → List ℕ → List Said → Type 0
Leads q raw all = (n : ℕ) → scan q n raw ≡ Ok all

-- the reader, standing at q, finds these atoms on whatever spells these tokens
abbrev Then : State → List Symbol → List Said → Type 0
Then q ss all = (raw : List ℕ) → Spells raw ss → Leads q raw all

-- over spaces to a token
over : {raw : List ℕ} {s : Symbol} {ss : List Symbol} → Spells raw (s ∷ ss) → (q : State) (all : List Said) → next q Blank 32 ≡ Some q
    → ((w rest : List ℕ) → Writes w s → Spells rest ss → Leads q (w ++ rest) all) → Leads q raw all
over (Spells.space h) q all skip go n = rw skip (over h q all skip go (n + 1))
over (Spells.token {raw} {rest} w h) q all skip go n = go raw rest w h n

-- what bytes a mark has
is_name : (w : List ℕ) → Writes w Symbol.name → w ≡ 81 ∷ []
is_name w Writes.writes_name = refl

is_left : (w : List ℕ) → Writes w Symbol.left → w ≡ 40 ∷ []
is_left w Writes.writes_left = refl

is_right : (w : List ℕ) → Writes w Symbol.right → w ≡ 41 ∷ []
is_right w Writes.writes_right = refl

is_comma : (w : List ℕ) → Writes w Symbol.comma → w ≡ 44 ∷ []
is_comma w Writes.writes_comma = refl

-- over spaces and a mark of one byte
over_mark : {raw : List ℕ} {s : Symbol} {ss : List Symbol} → Spells raw (s ∷ ss) → (b : ℕ) → ((w : List ℕ) → Writes w s → w ≡ b ∷ [])
    → (q p : State) (all : List Said) → next q Blank 32 ≡ Some q → next q (class b) b ≡ Some p → Then p ss all → Leads q raw all
over_mark h b is q p all skip step go =
    over h q all skip λ w rest x s n.
    rw (is w x, step) (go rest s (n + 1))

-- within the limits of a constant
abbrev Fits : List ℕ → Type 0
Fits ds = (length ds ≤ 10) × (digits_value 10 ds ≤ 4294967295)

value_grows : (xs ys : List ℕ) → digits_value 10 xs ≤ digits_value 10 (xs ++ ys)
value_grows xs ys =
    let a = digits_value_is 10 xs in
    let b = digits_value_is 10 (xs ++ ys) in
    let m : number_from_digits 10 (map digit_value (xs ++ ys)) ≡ number_from_digits_after 10 (number_from_digits 10 (map digit_value xs)) (map digit_value ys) =
    ap (number_from_digits 10) (map-append digit_value xs ys) ∙ number_after_append 10 0 (map digit_value xs) (map digit_value ys) in
    omega (arith, number_after_ge 10 (number_from_digits 10 (map digit_value xs)) (map digit_value ys) (omega arith))

fits_less : (xs ys : List ℕ) → Fits (xs ++ ys) → Fits xs
fits_less xs ys f = (omega (arith, length-append xs ys), omega (arith, value_grows xs ys))

grown_fits : (d : List Said) (k : ℕ) (ts : List Term) (ds : List ℕ) → Fits ds → grown d k ts ds ≡ Some (State.digits d k ts ds)
grown_fits d k ts ds f = rw (le-leb (length ds) 10 f.0, le-leb (digits_value 10 ds) 4294967295 f.1)

digit_byte : (b : ℕ) → digit_value b < 10 → class b ≡ Digit
digit_byte b h = let i = digit_from_value b h in digit_class b (omega arith) (omega arith)

-- over further digits of a constant
digits_lead : (more : List ℕ) → AllDigits 10 more → (ds : List ℕ) → Fits (ds ++ more) → (d : List Said) (k : ℕ) (ts : List Term) (rest : List ℕ) (all : List Said)
    → Leads (State.digits d k ts (ds ++ more)) rest all → Leads (State.digits d k ts ds) (more ++ rest) all
digits_lead [] _ ds f d k ts rest all go n = rw append-nil at (go n)
digits_lead (b ∷ more) g ds f d k ts rest all go n =
    let e = append_assoc ds (b ∷ []) more in
    let f' : Fits ((ds ++ (b ∷ [])) ++ more) = rw e f in
    rw (digit_byte b g.0, grown_fits d k ts (ds ++ (b ∷ [])) (fits_less (ds ++ (b ∷ [])) more f'))
    (digits_lead more g.1 (ds ++ (b ∷ [])) f' d k ts rest all (rw e go) (n + 1))

-- over a whole constant
constant_leads : (raw : List ℕ) → Numeral raw → (d : List Said) (k : ℕ) (ts : List Term) (rest : List ℕ) (all : List Said)
    → Leads (State.digits d k ts raw) rest all → Leads (State.term d k ts) (raw ++ rest) all
constant_leads [] (_, l, _, _) d k ts rest all go n = absurd (let z : ⊥ = omega arith in z)
constant_leads (b ∷ more) (g, l, m, v) d k ts rest all go n =
    let f : Fits (b ∷ more) = (m, v) in
    rw (digit_byte b g.0, grown_fits d k ts (b ∷ []) (fits_less (b ∷ []) more f)) (digits_lead more g.1 (b ∷ []) f d k ts rest all go (n + 1))

-- a comma or a bracket is next
data Ends : List Symbol → Type 0 where
  by_comma : {ss : List Symbol} → Ends (Symbol.comma ∷ ss)
  by_right : {ss : List Symbol} → Ends (Symbol.right ∷ ss)

further_ends : (ts : List Term) (ss : List Symbol) → Ends (further term_symbols ts (Symbol.right ∷ ss))
further_ends [] ss = by_right
further_ends (t ∷ ts) ss = by_comma

-- there a constant has ended
digits_end : {raw : List ℕ} {ss : List Symbol} → Ends ss → Spells raw ss → (d : List Said) (k : ℕ) (ts : List Term) (ds : List ℕ) (n : ℕ)
    → scan (State.digits d k ts ds) n raw ≡ scan (State.said d k (ts ++ (terms.Constant (digits_value 10 ds) ∷ []))) n raw
digits_end by_comma (Spells.space h) d k ts ds n = refl
digits_end by_comma (Spells.token Writes.writes_comma h) d k ts ds n = refl
digits_end by_right (Spells.space h) d k ts ds n = refl
digits_end by_right (Spells.token Writes.writes_right h) d k ts ds n = refl

module _ (d : List Said) (k : ℕ) (all : List Said) where
  variable_leads : (b v : ℕ) → b ≡ 97 + v → v < 26 → (ts : List Term) (rest : List ℕ)
      → Leads (State.said d k (ts ++ (terms.Variable v ∷ []))) rest all → Leads (State.term d k ts) (b ∷ rest) all
  variable_leads b v e l ts rest go n =
      let x : b - 97 ≡ v = omega arith in rw (variable_class b (omega arith) (omega arith), x) (go (n + 1))

  step_term : (t : Term) (ss : List Symbol) → Ends ss → (ts : List Term) → Then (State.said d k (ts ++ (t ∷ []))) ss all
      → (w rest : List ℕ) → Writes w (Symbol.term t) → Spells rest ss → Leads (State.term d k ts) (w ++ rest) all
  step_term t ss e ts go w rest (Writes.writes_variable {b} {k = v} f l) s = variable_leads b v f l ts rest (go rest s)
  step_term t ss e ts go w rest (Writes.writes_constant f) s =
      constant_leads w f d k ts rest all λ n. digits_end e s d k ts w n ∙ go rest s n

  term_leads : (t : Term) (ss : List Symbol) → Ends ss → (ts : List Term) → Then (State.said d k (ts ++ (t ∷ []))) ss all
      → Then (State.term d k ts) (Symbol.term t ∷ ss) all
  term_leads t ss e ts go raw h = over h (State.term d k ts) all refl (step_term t ss e ts go)

  abbrev closed : List Term → State
  closed ts = State.end (d ++ (record { table = k; terms = ts } ∷ []))

  terms_lead : (ts : List Term) (ss : List Symbol) (before : List Term) → Then (closed (before ++ ts)) ss all
      → Then (State.said d k before) (further term_symbols ts (Symbol.right ∷ ss)) all
  terms_lead [] ss before go raw h =
      over_mark h 41 is_right (State.said d k before) (closed before) all refl refl
      (rw append-nil at go)
  terms_lead (t ∷ ts) ss before go raw h =
      over_mark h 44 is_comma (State.said d k before) (State.term d k before) all refl refl
      (term_leads t (further term_symbols ts (Symbol.right ∷ ss)) (further_ends ts ss) before
      (terms_lead ts ss (before ++ (t ∷ [])) (subst (λ l. Then (closed l) ss all) (sym (append_assoc before (t ∷ []) ts)) go)))

  letter_leads : (w rest : List ℕ) → Writes w (Symbol.table k) → Leads (State.table d k) rest all → Leads (State.atom d) (w ++ rest) all
  letter_leads w rest (Writes.writes_table {b} e l) go n =
      let letter : b - 65 ≡ k = omega arith in rw (table_class b (omega arith) (omega arith), letter) (go (n + 1))

  atom_leads : (ts : List Term) (ss : List Symbol) → OneOrMore ts → Then (closed ts) ss all
      → Then (State.atom d) (atom_symbols (record { table = k; terms = ts }) ss) all
  atom_leads [] ss none go raw h = absurd none
  atom_leads (t ∷ ts) ss _ go raw h =
      over h (State.atom d) all refl λ w rest x s.
      letter_leads w rest x (over_mark s 40 is_left (State.table d k) (State.term d k []) all refl refl
      (term_leads t (further term_symbols ts (Symbol.right ∷ ss)) (further_ends ts ss) [] (terms_lead ts ss (t ∷ []) go)))

ends_lead : {raw : List ℕ} → Spells raw [] → (d : List Said) → Leads (State.end d) raw d
ends_lead Spells.none d n = refl
ends_lead (Spells.space h) d n = ends_lead h d (n + 1)

atoms_lead : (new : List Said) → AllByRecursion (λ a. OneOrMore a.terms) new → (d : List Said)
    → Then (State.end d) (further atom_symbols new []) (d ++ new)
atoms_lead [] _ d raw h = rw append-nil (ends_lead h d)
atoms_lead (a ∷ new) each d raw h =
    over_mark h 44 is_comma (State.end d) (State.atom d) (d ++ (a ∷ new)) refl refl
    (atom_leads d a.table (d ++ (a ∷ new)) a.terms (further atom_symbols new []) each.0
    (subst (Then (State.end (d ++ (a ∷ []))) (further atom_symbols new [])) (append_assoc d (a ∷ []) new) (atoms_lead new each.1 (d ++ (a ∷ [])))))

turnstile_leads : (w rest : List ℕ) (all : List Said) → Writes w Symbol.turnstile → Leads (State.atom []) rest all → Leads State.closed (w ++ rest) all
turnstile_leads w rest all Writes.writes_turnstile go n = go (n + 1 + 1)

pub complete : (raw : List ℕ) (all : List Said) → Says raw all → Leads State.start raw all
complete raw [] h = absurd h.some
complete raw (a ∷ new) h =
    over_mark h.spells 81 is_name State.start State.named (a ∷ new) refl refl
    λ _ s. over_mark s 40 is_left State.named State.opened (a ∷ new) refl refl
    λ _ s. over_mark s 41 is_right State.opened State.closed (a ∷ new) refl refl
    λ _ s. over s State.closed (a ∷ new) refl
    λ w rest x s.
    turnstile_leads w rest (a ∷ new) x (atom_leads [] a.table (a ∷ new) a.terms (further atom_symbols new []) h.each.0 (atoms_lead new h.each.1 (a ∷ [])) rest s)
