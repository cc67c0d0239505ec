-- Rule texts: which bytes say which atoms, and where a text that says none breaks.
use Rattle.std.specs.Prelude.{◌≡◌, ℕ, ◌+◌, ◌<◌, ◌≤◌, ◌⊎◌, List, [], ◌∷◌, ◌++◌, length, take}
use Rattle.std.specs.List.{AllByRecursion}
use Rattle.std.specs.Str.Parse.{AllDigits, digits_value}
use Rattle.rule.specs.declared.rules.Term.{Term}
use Rattle.rule.specs.declared.rules.Term.TheVariants.{Variable, Constant}

-- an atom: its table and its terms, however many
pub record Said : Type 0 where
  pub table : ℕ
  pub terms : List Term

-- the tokens: Q, brackets, comma, `:-`, the letter of a table, and a term
pub data Symbol : Type 0 where
  name left right comma turnstile : Symbol
  table : ℕ → Symbol
  term : Term → Symbol

-- the tokens of further ones, each behind a comma, before the rest
abbrev pub further : {X : Type 0} → (X → List Symbol → List Symbol) → List X → List Symbol → List Symbol
further f [] rest = rest
further f (x ∷ xs) rest = comma ∷ f x (further f xs rest)

-- the tokens of one or more, parted by commas, before the rest
abbrev pub parted : {X : Type 0} → (X → List Symbol → List Symbol) → List X → List Symbol → List Symbol
parted f [] rest = rest
parted f (x ∷ xs) rest = f x (further f xs rest)

-- a term is one token
abbrev pub term_symbols : Term → List Symbol → List Symbol
term_symbols t rest = term t ∷ rest

-- an atom is a table's letter, and its terms in brackets
abbrev pub atom_symbols : Said → List Symbol → List Symbol
atom_symbols a rest = table a.table ∷ left ∷ parted term_symbols a.terms (right ∷ rest)

-- a rule is Q():- and its atoms
abbrev pub rule_symbols : List Said → List Symbol
rule_symbols atoms = name ∷ left ∷ right ∷ turnstile ∷ parted atom_symbols atoms []

-- 1 to 10 decimal digits that write a number of 32 bits
abbrev pub Numeral : List ℕ → Type 0
Numeral raw = AllDigits 10 raw × (0 < length raw) × (length raw ≤ 10) × (digits_value 10 raw ≤ 4294967295)

-- which bytes write a token: A to H the tables 0 to 7, a to z the variables 0 to 25
pub data Writes : List ℕ → Symbol → Type 0 where
  writes_name : Writes (0x51 ∷ []) name
  writes_left : Writes (0x28 ∷ []) left
  writes_right : Writes (0x29 ∷ []) right
  writes_comma : Writes (0x2C ∷ []) comma
  writes_turnstile : Writes (0x3A ∷ 0x2D ∷ []) turnstile
  writes_table : {b k : ℕ} → b ≡ 0x41 + k → k < 8 → Writes (b ∷ []) (table k)
  writes_variable : {b k : ℕ} → b ≡ 0x61 + k → k < 26 → Writes (b ∷ []) (term (Variable k))
  writes_constant : {raw : List ℕ} → Numeral raw → Writes raw (term (Constant (digits_value 10 raw)))

-- which bytes write the tokens, with spaces before, between and behind them
pub data Spells : List ℕ → List Symbol → Type 0 where
  none : Spells [] []
  space : {raw : List ℕ} {symbols : List Symbol} → Spells raw symbols → Spells (0x20 ∷ raw) symbols
  token : {raw rest : List ℕ} {symbol : Symbol} {symbols : List Symbol} →
      Writes raw symbol → Spells rest symbols → Spells (raw ++ rest) (symbol ∷ symbols)

-- the list is not empty
abbrev pub OneOrMore : {X : Type 0} → List X → Type 0
OneOrMore [] = ⊥
OneOrMore (x ∷ xs) = Unit {0}

-- the bytes say these atoms: one or more, each with one or more terms
pub record Says (raw : List ℕ) (atoms : List Said) : Type 0 where
  pub some : OneOrMore atoms
  pub each : AllByRecursion (λ a. OneOrMore a.terms) atoms
  pub spells : Spells raw (rule_symbols atoms)

-- a lawful rule text, of any length
abbrev pub Lawful : List ℕ → Type 0
Lawful raw = (atoms : List Said) × Says raw atoms

-- some bytes behind these make them lawful
abbrev pub Continues : List ℕ → Type 0
Continues raw = (rest : List ℕ) × Lawful (raw ++ rest)

-- The bytes break the grammar at byte i: the first i can be continued, and the first i + 1 cannot, or there are no more and they
-- are not lawful.
abbrev pub BreaksAt : List ℕ → ℕ → Type 0
BreaksAt raw i =
    Continues (take i raw)
    × (((i < length raw) × (Continues (take (i + 1) raw) → ⊥)) ⊎ ((i ≡ length raw) × (Lawful raw → ⊥)))
