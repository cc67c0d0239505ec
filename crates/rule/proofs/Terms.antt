-- Terms, token by token.
use Rattle.std.proofs.Common.{◌≡◌, ℕ, ◌+◌, ◌-◌, ◌<◌, ◌≤◌, List, [], ◌∷◌, ◌++◌, length, get_or, drop, Ok, Err, sym, refl, ap, ◌∙◌, subst, inl, inr, arith, Bor}
use Rattle.std.specs.Str.Parse.{AllDigits, digits_value}
use Rattle.std.proofs.lemmas.List.{drop-drop, drop_more, drop_all, length-drop, take-append-drop}
use Rattle.std.proofs.lemmas.List.Sums.{prefix_len-le-length}
use Rattle.std.proofs.lemmas.List.Folds.{length-prefix_len}
use Rattle.std.proofs.lemmas.Bool.{cases_lt, lt-ltb}
use Rattle.rule.specs.declared.tokens.Class.TheVariants.{Variable, Digit}
use Rattle.rule.specs.declared.tokens.Token.{Token}
use Rattle.rule.specs.declared.tokens.Token.TheVariants as tokens
use Rattle.rule.specs.declared.rules.Term.{Term}
use Rattle.rule.specs.declared.rules.Term.TheVariants as terms
use Rattle.rule.specs.Classes.{class, is, run_of}
use Rattle.rule.specs.Grammar.{Said}
use Rattle.rule.specs.declared.reader.Reader.{Reader}
use Rattle.rule.specs.declared.refusal.Refusal.{Refusal}
use Rattle.rule.specs.Tokens.{place_of}
use Rattle.rule.specs.Lexing.{Lexed}
use Rattle.rule.specs.Numbers.{NumberRead}
use Rattle.rule.specs.Parsing.{answer_of, ReadsTerm, TermRead}
use Rattle.rule.specs.Scanning.{State, scan, answer}
use Rattle.rule.proofs.Classing.{kind_at, other_is, run_some, run_digits, run_stops}
use Rattle.rule.proofs.Walking.{at_byte, stands, steps, moved, Refuses, refused}

pub variable_read : {before : Reader} {s : Bor (List ℕ)} {at : ℕ} {after : Reader} → Lexed before (tokens.Variable s at) after
    → ReadsTerm before (terms.Variable (get_or s.now 0 0 - 97)) after
variable_read {before} {s} {at} {after} h =
    let stand = h.begins.0 in
    let b = get_or before.text.now at 0 in
    let first : get_or s.now 0 0 ≡ b = ap (λ l. get_or l 0 0) h.begins.1 in
    let k = kind_at Variable b stand.is in
    record {
      further = record { text = h.moved.text; place = omega (arith, stand.here, h.moved.place) };
      fit = lt-ltb (get_or s.now 0 0 - 97) 26 (omega arith);
      answers = λ d k ts.
          rw first (steps before (State.term d k ts) refl (State.said d k (ts ++ (terms.Variable (b - 97) ∷ []))) Variable at after stand h.moved refl);
    }

-- behind its last digit a constant has ended
digits_stop : (text : List ℕ) (at : ℕ) → (at < length text → class (get_or text at 0) ≡ Digit → ⊥) → (d : List Said) (k : ℕ) (ts : List Term) (ds : List ℕ)
    → answer text (State.digits d k ts ds) at ≡ answer text (State.said d k (ts ++ (terms.Constant (digits_value 10 ds) ∷ []))) at
digits_stop text at other d k ts ds =
    elim (cases_lt at (length text)) [
      | inl l ↦ rw (drop_more text at 0 l, other_is (class (get_or text at 0)) Digit (other l))
      | inr g ↦ rw (drop_all at text g)
    ]

module _ {before : Reader} {s : Bor (List ℕ)} {at : ℕ} {after : Reader} (h : Lexed before (tokens.Constant s at) after) where
  abbrev text : List ℕ
  text = before.text.now

  abbrev run : ℕ
  run = run_of Digit (drop at text)

  long : length s.now ≡ run
  long = ap length h.begins.1 ∙ length-prefix_len (λ b. is (class b) Digit) (drop at text)

  pub constant_digits : AllDigits 10 s.now
  constant_digits = subst (AllDigits 10) (sym h.begins.1) (run_digits (drop at text))

  pub constant_inside : (before.at < at + length s.now) × (at + length s.now ≤ length text)
  constant_inside = (
    omega (arith, h.begins.0.here, long, run_some Digit text at h.begins.0.inside h.begins.0.is),
    omega (arith, h.begins.0.inside, long, prefix_len-le-length (λ b. is (class b) Digit) (drop at text), length-drop at text),
  )

  abbrev rest : List ℕ
  rest = drop (at + length s.now) text

  begun : (d : List Said) (k : ℕ) (ts : List Term) → answer_of before (State.term d k ts) ≡ scan (State.digits d k ts []) at (s.now ++ rest)
  begun d k ts =
      let stand = h.begins.0 in
      let whole : drop at text ≡ s.now ++ rest = rw (long, h.begins.1, ← drop-drop run at text) (sym (take-append-drop run (drop at text))) in
      stands before (State.term d k ts) refl Digit at stand
      ∙ (sym (at_byte text (State.digits d k ts []) Digit at stand.inside stand.is) ∙ ap (scan (State.digits d k ts []) at) whole)

  pub constant_err : (e : Refusal) → NumberRead s.now at (Err e) → TermRead before (Err e) after
  constant_err e f d k ts = begun d k ts ∙ f d k ts rest

  pub constant_ok : (n : ℕ) → NumberRead s.now at (Ok n) → ReadsTerm before (terms.Constant n) after
  constant_ok n f =
      let end = at + length s.now in
      record {
        further = record { text = h.moved.text; place = omega (arith, h.moved.place, constant_inside.0) };
        fit = refl;
        answers = λ d k ts.
            rw f.0 (begun d k ts
            ∙ (f.1 d k ts rest
            ∙ (digits_stop text end (run_stops Digit text at (length s.now) long) d k ts s.now
            ∙ moved before end after h.moved (State.said d k (ts ++ (terms.Constant (digits_value 10 s.now) ∷ []))))));
      }

-- a token that is no term
not_term : (t : Token) → ((s : Bor (List ℕ)) (at : ℕ) → t ≡ tokens.Variable s at → ⊥) → ((s : Bor (List ℕ)) (at : ℕ) → t ≡ tokens.Constant s at → ⊥)
    → (d : List Said) (k : ℕ) (ts : List Term) → Refuses (State.term d k ts) t
not_term (tokens.Variable s at) v c d k ts = absurd (v s at refl)
not_term (tokens.Constant s at) v c d k ts = absurd (c s at refl)
not_term (tokens.Other at) v c d k ts = λ b k o. rw (o.blank, o.variable, o.digit)
not_term _ v c d k ts = λ b. refl

pub no_term : {before : Reader} {t : Token} {after : Reader} → Lexed before t after → ((s : Bor (List ℕ)) (at : ℕ) → t ≡ tokens.Variable s at → ⊥)
    → ((s : Bor (List ℕ)) (at : ℕ) → t ≡ tokens.Constant s at → ⊥) → TermRead before (Err (record { at = place_of t })) after
no_term {before} {t} h v c d k ts = refused before (State.term d k ts) refl t h.begins (not_term t v c d k ts)
