-- The reader's steps, byte by byte: inner contracts cite them. That they find what Grammar says is proved in proofs/.
use Rattle.std.specs.Prelude.{ℕ, ◌+◌, ◌-◌, cond, ◌&&◌, List, [], ◌∷◌, ◌++◌, length, drop, Some, None, Ok, Err, Option, Result, ◌==◌, nat_le}
use Rattle.std.specs.Str.Parse.{digits_value}
use Rattle.rule.specs.declared.tokens.Class.{Class}
use Rattle.rule.specs.declared.tokens.Class.TheVariants.{Blank, Name, Open, Close, Colon, Comma, Table, Variable, Digit}
use Rattle.rule.specs.declared.rules.Term.{Term}
use Rattle.rule.specs.declared.rules.Term.TheVariants as terms
use Rattle.rule.specs.Classes.{class, is}
use Rattle.rule.specs.Grammar.{Said}

-- where the reader stands, with the atoms before, the table and the terms of the atom begun, and the digits of the constant begun
pub data State : Type 0 where
  start named opened closed colon : State
  atom : List Said → State
  table : List Said → ℕ → State
  term : List Said → ℕ → List Term → State
  digits : List Said → ℕ → List Term → List ℕ → State
  said : List Said → ℕ → List Term → State
  end : List Said → State

-- at the one class of bytes that may come, besides spaces
abbrev pub only : Class → State → Class → State → Option State
only want next c here = cond (is c Blank) (Some here) (cond (is c want) (Some next) None)

-- one digit more, if the constant stays within 10 digits and 32 bits
abbrev pub grown : List Said → ℕ → List Term → List ℕ → Option State
grown d k ts ds = cond (nat_le (length ds) 10 && nat_le (digits_value 10 ds) 4294967295) (Some (digits d k ts ds)) None

-- behind a term: spaces, a comma or a bracket
abbrev pub behind_term : List Said → ℕ → List Term → Class → Option State
behind_term d k ts c =
    cond (is c Blank) (Some (said d k ts))
    (cond (is c Comma) (Some (term d k ts))
    (cond (is c Close) (Some (end (d ++ (record { table = k; terms = ts } ∷ [])))) None))

-- where the reader goes at a byte b of class c; none where no lawful text goes on so
abbrev pub next : State → Class → ℕ → Option State
next start c b = only Name named c start
next named c b = only Open opened c named
next opened c b = only Close closed c opened
next closed c b = only Colon colon c closed
next colon c b = cond (b == 45) (Some (atom [])) None
next (atom d) c b = only Table (table d (b - 65)) c (atom d)
next (table d k) c b = only Open (term d k []) c (table d k)
next (term d k ts) c b =
    cond (is c Blank) (Some (term d k ts))
    (cond (is c Variable) (Some (said d k (ts ++ (terms.Variable (b - 97) ∷ []))))
    (cond (is c Digit) (grown d k ts (b ∷ [])) None))
next (digits d k ts ds) c b =
    cond (is c Digit) (grown d k ts (ds ++ (b ∷ []))) (behind_term d k (ts ++ (terms.Constant (digits_value 10 ds) ∷ [])) c)
next (said d k ts) c b = behind_term d k ts c
next (end d) c b = only Comma (atom d) c (end d)

-- where a text may end, with the atoms that it says then
abbrev pub ended : State → Option (List Said)
ended (end d) = Some d
ended _ = None

-- what the reader answers where the text ends: the atoms, or the place
abbrev pub finish : Option (List Said) → ℕ → Result (List Said) ℕ
finish (Some d) n = Ok d
finish None n = Err n

-- the answer of what comes behind a step, or the place where there is none
abbrev pub stepped : Option State → (State → Result (List Said) ℕ) → ℕ → Result (List Said) ℕ
stepped (Some q) answer n = answer q
stepped None answer n = Err n

-- the answer on the bytes from place n on
abbrev pub scan : State → ℕ → List ℕ → Result (List Said) ℕ
scan q n [] = finish (ended q) n
scan q n (b ∷ raw) = stepped (next q (class b) b) (λ p. scan p (n + 1) raw) n

-- the same behind a step at place n
abbrev pub onward : Option State → ℕ → List ℕ → Result (List Said) ℕ
onward o n raw = stepped o (λ p. scan p (n + 1) raw) n

-- the answer from a place of a text on
abbrev pub answer : List ℕ → State → ℕ → Result (List Said) ℕ
answer text q at = scan q at (drop at text)
