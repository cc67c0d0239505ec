-- What the parts of the reader promise, by its steps. Inner contracts cite it.
use Rattle.std.specs.Prelude.{◌≡◌, ℕ, ◌+◌, ◌≤◌, true, List, [], ◌∷◌, ◌++◌, Ok, Err, Result}
use Rattle.rule.specs.declared.reader.Reader.{Reader}
use Rattle.rule.specs.declared.refusal.Refusal.{Refusal}
use Rattle.rule.specs.declared.rules.Atom.{Atom}
use Rattle.rule.specs.declared.rules.Term.{Term}
use Rattle.rule.specs.Grammar.{Said}
use Rattle.rule.specs.Kept.{kept, lettered, fits}
use Rattle.rule.specs.Scanning.{State, answer}

-- the answer from the reader's place on, where it stands at a state
abbrev pub answer_of : Reader → State → Result (List Said) ℕ
answer_of r q = answer r.text.now q r.at

-- the reader has gone so many bytes further at least in the same text
pub record Further (before : Reader) (least : ℕ) (after : Reader) : Type 0 where
  pub text : after.text.now ≡ before.text.now
  pub place : before.at + least ≤ after.at

-- behind `Q():-`
abbrev pub HeadRead : Reader → Result (Unit {0}) Refusal → Reader → Type 0
HeadRead before (Ok _) after = Further before 5 after × (answer_of before State.start ≡ answer_of after (State.atom []))
HeadRead before (Err e) after = answer_of before State.start ≡ Err e.at

-- a term was read, whatever stands before it
pub record ReadsTerm (before : Reader) (t : Term) (after : Reader) : Type 0 where
  pub further : Further before 1 after
  pub fit : lettered t ≡ true
  pub answers : (d : List Said) (k : ℕ) (ts : List Term) →
      answer_of before (State.term d k ts) ≡ answer_of after (State.said d k (ts ++ (t ∷ [])))

abbrev pub TermRead : Reader → Result Term Refusal → Reader → Type 0
TermRead before (Ok t) after = ReadsTerm before t after
TermRead before (Err e) after = (d : List Said) (k : ℕ) (ts : List Term) → answer_of before (State.term d k ts) ≡ Err e.at

-- an atom was read, as the text says it, whatever stands before it
pub record ReadsAtom (before : Reader) (a : Atom) (after : Reader) : Type 0 where
  pub further : Further before 4 after
  pub fit : fits a ≡ true
  pub said : Said
  pub keeps : a ≡ kept said
  pub answers : (d : List Said) → answer_of before (State.atom d) ≡ answer_of after (State.end (d ++ (said ∷ [])))

abbrev pub AtomRead : Reader → Result Atom Refusal → Reader → Type 0
AtomRead before (Ok a) after = ReadsAtom before a after
AtomRead before (Err e) after = (d : List Said) → answer_of before (State.atom d) ≡ Err e.at
