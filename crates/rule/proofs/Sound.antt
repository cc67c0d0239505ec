-- What the reader finds, the text says: for each state, what the bytes ahead of it must spell.
use Rattle.std.proofs.Common.{◌≡◌, ℕ, ◌+◌, ◌-◌, Bool, true, false, cond, ◌&&◌, eqb, leb, List, [], ◌∷◌, ◌++◌, length, Some, None, Ok, Option, sym, refl, ap, ◌∙◌, subst, append_assoc, append-nil, arith, length-append}
use Rattle.std.specs.List.{AllByRecursion}
use Rattle.std.specs.Str.Parse.{AllDigits, digits_value}
use Rattle.std.proofs.lemmas.Int.Digits.{digits_push}
use Rattle.std.proofs.lemmas.Str.{digit_value_digit}
use Rattle.std.proofs.lemmas.Bool.{cond_both, and_parts, leb-true, eqb-true}
use Rattle.rule.specs.declared.tokens.Class.{Class}
use Rattle.rule.specs.declared.tokens.Class.TheVariants.{Blank, Name, Open, Close, Colon, Comma, Table, Variable, Digit}
use Rattle.rule.specs.declared.rules.Term.{Term}
use Rattle.rule.specs.declared.rules.Term.TheVariants as terms
use Rattle.rule.specs.Classes.{class, is}
use Rattle.rule.specs.Grammar.{Said, Symbol, Writes, Spells, Says, Numeral, OneOrMore, further, parted, term_symbols, atom_symbols, rule_symbols}
use Rattle.rule.specs.Scanning.{State, only, grown, behind_term, next, ended, finish, scan, onward}
use Rattle.rule.proofs.Classing.{Kind, kind_of}

abbrev Each : List Said → Type 0
Each new = AllByRecursion (λ a. OneOrMore a.terms) new

-- the tokens ahead, where these terms and then these atoms are still to come
abbrev ahead : State → List Term → List Said → List Symbol
ahead State.start ts new = rule_symbols new
ahead State.named ts new = Symbol.left ∷ Symbol.right ∷ Symbol.turnstile ∷ parted atom_symbols new []
ahead State.opened ts new = Symbol.right ∷ Symbol.turnstile ∷ parted atom_symbols new []
ahead State.closed ts new = Symbol.turnstile ∷ parted atom_symbols new []
ahead State.colon ts new = []
ahead (State.atom d) ts new = parted atom_symbols new []
ahead (State.table d k) ts new = Symbol.left ∷ parted term_symbols ts (Symbol.right ∷ further atom_symbols new [])
ahead (State.term d k before) ts new = parted term_symbols ts (Symbol.right ∷ further atom_symbols new [])
ahead (State.digits d k before ds) ts new = []
ahead (State.said d k before) ts new = further term_symbols ts (Symbol.right ∷ further atom_symbols new [])
ahead (State.end d) ts new = further atom_symbols new []

abbrev Atoms : List Said → List Said → List Said → Type 0
Atoms d new all = (all ≡ d ++ new) × OneOrMore new × Each new

abbrev Terms : List Said → ℕ → List Term → List Term → List Said → List Said → Type 0
Terms d k before ts new all = (all ≡ d ++ (record { table = k; terms = before ++ ts } ∷ new)) × Each new

-- with those before they are all the atoms
abbrev Makes : State → List Term → List Said → List Said → Type 0
Makes State.colon ts new all = ⊥
Makes (State.atom d) ts new all = Atoms d new all
Makes (State.table d k) ts new all = Terms d k [] ts new all × OneOrMore ts
Makes (State.term d k before) ts new all = Terms d k before ts new all × OneOrMore ts
Makes (State.digits d k before ds) ts new all = ⊥
Makes (State.said d k before) ts new all = Terms d k before ts new all
Makes (State.end d) ts new all = (all ≡ d ++ new) × Each new
Makes _ ts new all = Atoms [] new all

pub record Between (q : State) (raw : List ℕ) (all : List Said) : Type 0 where
  ts : List Term
  new : List Said
  makes : Makes q ts new all
  spells : Spells raw (ahead q ts new)

-- the bytes ahead, where a token may be begun
abbrev Rest : State → List ℕ → List Said → Type 0
Rest State.colon raw all = Between State.closed (58 ∷ raw) all
Rest (State.digits d k ts ds) raw all = Numeral ds → Between (State.term d k ts) (ds ++ raw) all
Rest q raw all = Between q raw all

abbrev After : Option State → List ℕ → List Said → Type 0
After (Some q) raw all = Rest q raw all
After None raw all = ⊥

-- a token put before what is ahead
put : (q p : State) (raw w : List ℕ) (all : List Said) (s : Symbol) → Writes w s → (r : Between p raw all)
    → (ts : List Term) (new : List Said) → ahead q ts new ≡ s ∷ ahead p r.ts r.new → Makes q ts new all → Between q (w ++ raw) all
put q p raw w all s x r ts new e m = record { ts = ts; new = new; makes = m; spells = subst (Spells (w ++ raw)) (sym e) (Spells.token x r.spells) }

-- a term
put_term : (d : List Said) (k : ℕ) (before : List Term) (t : Term) (raw w : List ℕ) (all : List Said) → Writes w (Symbol.term t)
    → Between (State.said d k (before ++ (t ∷ []))) raw all → Between (State.term d k before) (w ++ raw) all
put_term d k before t raw w all x r =
    let e : all ≡ d ++ (record { table = k; terms = before ++ (t ∷ r.ts) } ∷ r.new) =
    r.makes.0 ∙ ap (λ l. d ++ (record { table = k; terms = l } ∷ r.new)) (append_assoc before (t ∷ []) r.ts) in
    put (State.term d k before) (State.said d k (before ++ (t ∷ []))) raw w all (Symbol.term t) x r (t ∷ r.ts) r.new refl ((e, r.makes.1), tt)

-- a comma before further terms, and before further atoms
comma_terms : (d : List Said) (k : ℕ) (before : List Term) (raw : List ℕ) (all : List Said)
    → Between (State.term d k before) raw all → Between (State.said d k before) (44 ∷ raw) all
comma_terms d k before raw all r = go r.ts r.makes r.spells
  where
    go : (ts : List Term) → Makes (State.term d k before) ts r.new all → Spells raw (ahead (State.term d k before) ts r.new)
        → Between (State.said d k before) (44 ∷ raw) all
    go [] m h = absurd m.1
    go (t ∷ ts) m h = record { ts = t ∷ ts; new = r.new; makes = m.0; spells = Spells.token Writes.writes_comma h }

comma_atoms : (d : List Said) (raw : List ℕ) (all : List Said) → Between (State.atom d) raw all → Between (State.end d) (44 ∷ raw) all
comma_atoms d raw all r = go r.new r.makes r.spells
  where
    go : (new : List Said) → Atoms d new all → Spells raw (parted atom_symbols new []) → Between (State.end d) (44 ∷ raw) all
    go [] m h = absurd m.1
    go (a ∷ new) m h = record { ts = []; new = a ∷ new; makes = (m.0, m.2); spells = Spells.token Writes.writes_comma h }

numeral_more : (ds : List ℕ) (b : ℕ) → AllDigits 10 ds → Kind Digit b → (leb (length (ds ++ (b ∷ []))) 10 && leb (digits_value 10 (ds ++ (b ∷ []))) 4294967295) ≡ true
    → Numeral (ds ++ (b ∷ []))
numeral_more ds b g k e =
    let h = and_parts _ _ e in
    let v = digit_value_digit b k in (
      digits_push 10 ds b g (omega arith),
      omega (arith, length-append ds (b ∷ [])),
      leb-true (length (ds ++ (b ∷ []))) 10 h.0,
      leb-true (digits_value 10 (ds ++ (b ∷ []))) 4294967295 h.1,
    )

module _ (b : ℕ) (raw : List ℕ) (all : List Said) where
  -- a space ahead
  spaced : (q : State) → is (class b) Blank ≡ true → Between q raw all → Between q (b ∷ raw) all
  spaced q e r = rw (kind_of Blank b e) (record { ts = r.ts; new = r.new; makes = r.makes; spells = Spells.space r.spells })

  -- the step that a test chooses
  either : {X : Type 0} (t : Bool) (p q : Option State) → (t ≡ true → After p raw all → X) → (t ≡ false → After q raw all → X) → After (cond t p q) raw all → X
  either {X} t p q = cond_both t p q (λ o. After o raw all → X)

  -- the one class that may come
  only_back : (q p : State) (want : Class) → (Rest q raw all → Between q raw all) → (Kind want b → Rest p raw all → Between q (b ∷ raw) all)
      → After (only want p (class b) q) raw all → Between q (b ∷ raw) all
  only_back q p want from go =
      either (is (class b) Blank) _ _ (λ e r. spaced q e (from r)) λ _.
      either (is (class b) want) _ _ (λ e. go (kind_of want b e)) (λ _. absurd)

  behind_back : (d : List Said) (k : ℕ) (ts : List Term) → After (behind_term d k ts (class b)) raw all → Between (State.said d k ts) (b ∷ raw) all
  behind_back d k ts =
      either (is (class b) Blank) _ _ (spaced (State.said d k ts)) λ _.
      either (is (class b) Comma) _ _ (λ e r. rw (kind_of Comma b e) (comma_terms d k ts raw all r)) λ _.
      either (is (class b) Close) _ _
      (λ e r.
      let m : all ≡ d ++ (record { table = k; terms = ts ++ [] } ∷ r.new) =
      r.makes.0 ∙ (append_assoc d (record { table = k; terms = ts } ∷ []) r.new ∙ ap (λ l. d ++ (record { table = k; terms = l } ∷ r.new)) (sym (append-nil ts))) in
      rw (kind_of Close b e) (record { ts = []; new = r.new; makes = (m, r.makes.1); spells = Spells.token Writes.writes_right r.spells }))
      (λ _. absurd)

  grown_back : (d : List Said) (k : ℕ) (ts : List Term) (ds : List ℕ) → Kind Digit b → After (grown d k ts (ds ++ (b ∷ []))) raw all
      → AllDigits 10 ds → Between (State.term d k ts) (ds ++ (b ∷ raw)) all
  grown_back d k ts ds e =
      either (leb (length (ds ++ (b ∷ []))) 10 && leb (digits_value 10 (ds ++ (b ∷ []))) 4294967295) _ _
      (λ f r g. subst (λ l. Between (State.term d k ts) l all) (append_assoc ds (b ∷ []) raw) (r (numeral_more ds b g e f)))
      (λ _. absurd)

  back : (q : State) → After (next q (class b) b) raw all → Rest q (b ∷ raw) all
  back State.start = only_back State.start State.named Name (λ r. r) λ e r.
      rw e (put State.start State.named raw (81 ∷ []) all Symbol.name Writes.writes_name r r.ts r.new refl r.makes)
  back State.named = only_back State.named State.opened Open (λ r. r) λ e r.
      rw e (put State.named State.opened raw (40 ∷ []) all Symbol.left Writes.writes_left r r.ts r.new refl r.makes)
  back State.opened = only_back State.opened State.closed Close (λ r. r) λ e r.
      rw e (put State.opened State.closed raw (41 ∷ []) all Symbol.right Writes.writes_right r r.ts r.new refl r.makes)
  back State.closed = only_back State.closed State.colon Colon (λ r. r) λ e r. rw e r
  back State.colon =
      either (eqb b 45) _ _
      (λ e r. rw (eqb-true b 45 e) (put State.closed (State.atom []) raw (58 ∷ 45 ∷ []) all Symbol.turnstile Writes.writes_turnstile r r.ts r.new refl r.makes))
      (λ _. absurd)
  back (State.atom d) = only_back (State.atom d) (State.table d (b - 65)) Table (λ r. r) λ e r.
      put (State.atom d) (State.table d (b - 65)) raw (b ∷ []) all (Symbol.table (b - 65)) (Writes.writes_table (omega arith) (omega arith)) r
      [] (record { table = b - 65; terms = r.ts } ∷ r.new) refl (r.makes.0.0, tt, (r.makes.1, r.makes.0.1))
  back (State.table d k) = only_back (State.table d k) (State.term d k []) Open (λ r. r) λ e r.
      rw e (put (State.table d k) (State.term d k []) raw (40 ∷ []) all Symbol.left Writes.writes_left r r.ts r.new refl r.makes)
  back (State.term d k ts) =
      either (is (class b) Blank) _ _ (spaced (State.term d k ts)) λ _.
      either (is (class b) Variable) _ _
      (λ e r.
      let f = kind_of Variable b e in
      put_term d k ts (terms.Variable (b - 97)) raw (b ∷ []) all (Writes.writes_variable (omega arith) (omega arith)) r) λ _.
      either (is (class b) Digit) _ _ (λ e r. grown_back d k ts [] (kind_of Digit b e) r tt) (λ _. absurd)
  back (State.digits d k ts ds) =
      either (is (class b) Digit) _ _
      (λ e r n. grown_back d k ts ds (kind_of Digit b e) r n.0)
      (λ _ r n. put_term d k ts (terms.Constant (digits_value 10 ds)) (b ∷ raw) ds all (Writes.writes_constant n) (behind_back d k (ts ++ (terms.Constant (digits_value 10 ds) ∷ [])) r))
  back (State.said d k ts) = behind_back d k ts
  back (State.end d) = only_back (State.end d) (State.atom d) Comma (λ r. r) λ e r. rw e (comma_atoms d raw all r)

-- where a text may end
finished : (q : State) (n : ℕ) (all : List Said) → finish (ended q) n ≡ Ok all → Rest q [] all
finished (State.end d) n all e = let f : d ≡ all = cc in record { ts = []; new = []; makes = (sym f ∙ sym (append-nil d), tt); spells = Spells.none }
finished _ n all e = cc

behind_step : (o : Option State) (n : ℕ) (raw : List ℕ) (all : List Said)
    → ((q : State) → scan q (n + 1) raw ≡ Ok all → Rest q raw all) → onward o n raw ≡ Ok all → After o raw all
behind_step (Some q) n raw all rest e = rest q e
behind_step None n raw all rest e = cc

found : (raw : List ℕ) (q : State) (n : ℕ) (all : List Said) → scan q n raw ≡ Ok all → Rest q raw all
found [] q n all e = finished q n all e
found (b ∷ raw) q n all e = back b raw all q (behind_step (next q (class b) b) n raw all (λ p. found raw p (n + 1) all) e)

pub sound : (raw : List ℕ) (n : ℕ) (all : List Said) → scan State.start n raw ≡ Ok all → Says raw all
sound raw n all e =
    let r = found raw State.start n all e in
    rw r.makes.0 (record { some = r.makes.1; each = r.makes.2; spells = r.spells })
