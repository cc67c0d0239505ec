-- What a token says of the bytes from a reader's place on. Inner contracts cite it.
use Rattle.std.specs.Prelude.{◌≡◌, ℕ, ◌+◌, ◌<◌, false, ◌⊎◌, [], ◌∷◌, length, take, drop, Ok, Err, Result, ◌≢◌, slice_index}
use Rattle.rule.specs.declared.reader.Reader.{Reader}
use Rattle.rule.specs.declared.refusal.Refusal.{Refusal}
use Rattle.rule.specs.declared.tokens.Class.{Class}
use Rattle.rule.specs.declared.tokens.Class.TheVariants as classes
use Rattle.rule.specs.declared.tokens.Token.{Token}
use Rattle.rule.specs.declared.tokens.Token.TheVariants.{Table, Variable, Constant, Open, Close, Comma, Other, End}
use Rattle.rule.specs.Classes.{class, is, run_of}
use Rattle.rule.specs.Tokens.{place_of, length_of}

-- the first place from the reader's on that holds no space
abbrev pub past_spaces : Reader → ℕ
past_spaces r = r.at + run_of classes.Blank (drop r.at r.text.now)

-- over spaces a byte of the class stands at the place
pub record Stands (r : Reader) (c : Class) (at : ℕ) : Type 0 where
  pub here : at ≡ past_spaces r
  pub inside : at < length r.text.now
  pub is : class (slice_index r.text.now at) ≡ c

-- over spaces the text ends at the place
pub record Ends (r : Reader) (at : ℕ) : Type 0 where
  pub here : at ≡ past_spaces r
  pub last : at ≡ length r.text.now

-- the reader has gone to the place in the same text
pub record Moved (before : Reader) (at : ℕ) (after : Reader) : Type 0 where
  pub text : after.text.now ≡ before.text.now
  pub place : after.at ≡ at

-- a class of bytes that begins no token of an atom
pub record Odd (c : Class) : Type 0 where
  pub blank : is c classes.Blank ≡ false
  pub open_bracket : is c classes.Open ≡ false
  pub close_bracket : is c classes.Close ≡ false
  pub comma : is c classes.Comma ≡ false
  pub table : is c classes.Table ≡ false
  pub variable : is c classes.Variable ≡ false
  pub digit : is c classes.Digit ≡ false

-- what a token says of the bytes, over spaces
abbrev pub Begins : Reader → Token → Type 0
Begins r (Table s at) = Stands r classes.Table at × (s.now ≡ slice_index r.text.now at ∷ [])
Begins r (Variable s at) = Stands r classes.Variable at × (s.now ≡ slice_index r.text.now at ∷ [])
Begins r (Constant s at) = Stands r classes.Digit at × (s.now ≡ take (run_of classes.Digit (drop at r.text.now)) (drop at r.text.now))
Begins r (Open at) = Stands r classes.Open at
Begins r (Close at) = Stands r classes.Close at
Begins r (Comma at) = Stands r classes.Comma at
Begins r (Other at) = (c : Class) × Odd c × Stands r c at
Begins r (End at) = Ends r at

-- the reader has gone over spaces and the token
pub record Lexed (before : Reader) (t : Token) (after : Reader) : Type 0 where
  pub begins : Begins before t
  pub moved : Moved before (place_of t + length_of t) after

-- the reader has gone over a mark of the class, or another byte or none stands there
abbrev pub Found : Reader → Class → Result (Unit {0}) Refusal → Reader → Type 0
Found before c (Ok _) after = (at : ℕ) × Stands before c at × Moved before (at + 1) after
Found before c (Err e) after = Ends before e.at ⊎ ((d : Class) × Stands before d e.at × (d ≢ c) × (d ≢ classes.Blank))
