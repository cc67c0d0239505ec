-- The reader's answer from a place of a text on: over spaces, marks, digits and tokens.
use Rattle.std.proofs.Common.{◌≡◌, ℕ, zero, suc, ◌+◌, ◌-◌, ◌*◌, ◌<◌, ◌≤◌, Bool, true, false, cond, ◌&&◌, leb, eqb, List, [], ◌∷◌, ◌++◌, length, get_or, take, drop, Some, None, Ok, Err, Result, sym, refl, ap, ◌∙◌, inl, inr, add-zero, one-add, arith}
use Rattle.std.specs.Str.Parse.{AllDigits, digits_value}
use Rattle.std.proofs.lemmas.List.{drop-drop, drop_more, drop_all, take_more, length-take-le}
use Rattle.std.proofs.lemmas.Int.Digits.{digits_value_more}
use Rattle.std.proofs.lemmas.Str.Parse.{digit_at}
use Rattle.std.proofs.lemmas.Str.{digit_value_digit}
use Rattle.std.proofs.lemmas.Bool.{cond_both, eqb-true, leb-true, and_parts, true≢false}
use Rattle.rule.specs.declared.tokens.Class.{Class}
use Rattle.rule.specs.declared.tokens.Class.TheVariants.{Blank, Name, Open, Close, Colon, Comma, Table, Variable, Digit}
use Rattle.rule.specs.declared.tokens.Token.{Token}
use Rattle.rule.specs.declared.tokens.Token.TheVariants as tokens
use Rattle.rule.specs.Classes.{class, is, run_of}
use Rattle.rule.specs.declared.reader.Reader.{Reader}
use Rattle.rule.specs.declared.refusal.Refusal.{Refusal}
use Rattle.rule.specs.Tokens.{place_of}
use Rattle.rule.specs.Lexing.{past_spaces, Odd, Stands, Ends, Moved, Begins, Found}
use Rattle.rule.specs.Numbers.{NumberRead}
use Rattle.std.specs.List.{starts_with}
use Rattle.rule.specs.Parsing.{answer_of, Further, HeadRead}
use Rattle.rule.specs.Grammar.{Said}
use Rattle.rule.specs.declared.rules.Term.{Term}
use Rattle.rule.specs.Scanning.{State, only, next, ended, finish, scan, onward, answer}
use Rattle.rule.proofs.Classing.{kind_of, other_is, digit_class}

-- a state that spaces leave as it is
abbrev Rests : State → Type 0
Rests q = next q Blank 32 ≡ Some q

skip_list : (q : State) → Rests q → (xs : List ℕ) (n : ℕ) → scan q n xs ≡ scan q (n + run_of Blank xs) (drop (run_of Blank xs) xs)
skip_list q r [] n = ap (λ m. scan q m []) (sym (add-zero n))
skip_list q r (b ∷ s) n =
    let m = run_of Blank s in
    let p : n + 1 + m ≡ n + (1 + m) = omega arith in
    cond_both (is (class b) Blank) (1 + m) 0 (λ k. scan q n (b ∷ s) ≡ scan q (n + k) (drop k (b ∷ s)))
    (λ e. rw (kind_of Blank b e, r, one-add) (skip_list q r s (n + 1) ∙ ap (λ j. scan q j (drop m s)) (p ∙ ap (λ k. n + k) (one-add m))))
    (λ e. rw add-zero)

pub at_byte : (text : List ℕ) (q : State) (c : Class) (at : ℕ) → at < length text → class (get_or text at 0) ≡ c
    → answer text q at ≡ onward (next q c (get_or text at 0)) at (drop (at + 1) text)
at_byte text q c at l e = rw (drop_more text at 0 l, e)

-- a token that the state does not expect
abbrev pub Refuses : State → Token → Type 0
Refuses q (tokens.Table s at) = (b : ℕ) → next q Table b ≡ None
Refuses q (tokens.Variable s at) = (b : ℕ) → next q Variable b ≡ None
Refuses q (tokens.Constant s at) = (b : ℕ) → next q Digit b ≡ None
Refuses q (tokens.Open at) = (b : ℕ) → next q Open b ≡ None
Refuses q (tokens.Close at) = (b : ℕ) → next q Close b ≡ None
Refuses q (tokens.Comma at) = (b : ℕ) → next q Comma b ≡ None
Refuses q (tokens.Other at) = (b : ℕ) (c : Class) → Odd c → next q c b ≡ None
Refuses q (tokens.End at) = (b : ℕ) → ended q ≡ None

-- the answer at a place is the answer of a reader that has gone there
pub moved : (before : Reader) (at : ℕ) (after : Reader) → Moved before at after → (q : State) → answer before.text.now q at ≡ answer_of after q
moved before at after m q = rw (m.text, m.place)

module _ (r : Reader) (q : State) (rests : Rests q) where
  skipped : (at : ℕ) → at ≡ past_spaces r → answer_of r q ≡ answer r.text.now q at
  skipped at e =
      let text = r.text.now in
      rw (e, ← drop-drop (run_of Blank (drop r.at text)) r.at text) (skip_list q rests (drop r.at text) r.at)

  -- the step at a token's first byte
  pub stands : (c : Class) (at : ℕ) → Stands r c at → answer_of r q ≡ onward (next q c (get_or r.text.now at 0)) at (drop (at + 1) r.text.now)
  stands c at h = skipped at h.here ∙ at_byte r.text.now q c at h.inside h.is

  pub ends : (at : ℕ) → Ends r at → answer_of r q ≡ finish (ended q) at
  ends at h = skipped at h.here ∙ rw (drop_all at r.text.now (omega (arith, h.last)))

  -- over a token of one byte
  pub steps : (p : State) (c : Class) (at : ℕ) (after : Reader) → Stands r c at → Moved r (at + 1) after
      → next q c (get_or r.text.now at 0) ≡ Some p → answer_of r q ≡ answer_of after p
  steps p c at after h m e = stands c at h ∙ rw e (moved r (at + 1) after m p)

  -- no step at a byte
  odd_byte : (c : Class) (at : ℕ) → Stands r c at → ((b : ℕ) → next q c b ≡ None) → answer_of r q ≡ Err at
  odd_byte c at h n = stands c at h ∙ rw (n (get_or r.text.now at 0))

  pub refused : (t : Token) → Begins r t → Refuses q t → answer_of r q ≡ Err (place_of t)
  refused (tokens.Table s at) h n = odd_byte Table at h.0 n
  refused (tokens.Variable s at) h n = odd_byte Variable at h.0 n
  refused (tokens.Constant s at) h n = odd_byte Digit at h.0 n
  refused (tokens.Open at) h n = odd_byte Open at h n
  refused (tokens.Close at) h n = odd_byte Close at h n
  refused (tokens.Comma at) h n = odd_byte Comma at h n
  refused (tokens.Other at) h n = odd_byte h.0 at h.2 (λ b. n b h.0 h.1)
  refused (tokens.End at) h n = ends at h ∙ rw (n 0)

-- over a mark from one state to the next, or to the fault
abbrev pub Passes : Reader → State → State → Result (Unit {0}) Refusal → Reader → Type 0
Passes before q p (Ok _) after = Further before 1 after × (answer_of before q ≡ answer_of after p)
Passes before q p (Err e) after = answer_of before q ≡ Err e.at

pub passes : (q p : State) (want : Class) → ((c : Class) (b : ℕ) → next q c b ≡ only want p c q) → only want p want q ≡ Some p → ended q ≡ None
    → (before : Reader) (r : Result (Unit {0}) Refusal) (after : Reader) → Found before want r after → Passes before q p r after
passes q p want by go stop before (Ok _) after (at, h, m) =
    (record { text = m.text; place = omega (arith, h.here, m.place) }, steps before q (by Blank 32) p want at after h m (by want (get_or before.text.now at 0) ∙ go))
passes q p want by go stop before (Err e) after (inl h) = ends before q (by Blank 32) e.at h ∙ rw stop
passes q p want by go stop before (Err e) after (inr (d, h, ne, nb)) =
    let none : only want p d q ≡ None = rw (other_is d Blank nb, other_is d want ne) in
    odd_byte before q (by Blank 32) d e.at h (λ b. by d b ∙ none)

-- the marks of Q():- but the dash, and the states before and behind each
abbrev pub marks : List Class
marks = Name ∷ Open ∷ Close ∷ Colon ∷ []

abbrev pub state_at : ℕ → State
state_at i = get_or (State.start ∷ State.named ∷ State.opened ∷ State.closed ∷ []) i State.colon

pub past_mark : (i : ℕ) → i < 4 → (before : Reader) (r : Result (Unit {0}) Refusal) (after : Reader) → Found before (get_or marks i Blank) r after
    → Passes before (state_at i) (state_at (i + 1)) r after
past_mark zero l = passes State.start State.named Name (λ c b. refl) refl refl
past_mark (suc zero) l = passes State.named State.opened Open (λ c b. refl) refl refl
past_mark (suc (suc zero)) l = passes State.opened State.closed Close (λ c b. refl) refl refl
past_mark (suc (suc (suc zero))) l = passes State.closed State.colon Colon (λ c b. refl) refl refl
past_mark (suc (suc (suc (suc i)))) l = absurd (let z : ⊥ = omega arith in z)

-- behind the first i marks
pub record Marked (before : Reader) (i : ℕ) (now : Reader) : Type 0 where
  pub further : Further before i now
  pub answers : answer_of before State.start ≡ answer_of now (state_at i)

-- the dash, right behind the colon
pub past_dash : (xs : List ℕ) (n : ℕ) → starts_with eqb xs (45 ∷ []) ≡ true → scan State.colon n xs ≡ scan (State.atom []) (n + 1) (drop 1 xs)
past_dash [] n e = absurd (true≢false (sym e))
past_dash (b ∷ xs) n e = ap (λ c. onward (next State.colon (class c) c) n xs) (sym (eqb-true 45 b (and_parts (eqb 45 b) true e).0))

module _ {before : Reader} {i : ℕ} {now : Reader} (m : Marked before i now) (l : i < 4) where
  pub marked_more : (after : Reader) → Found now (get_or marks i Blank) (Ok tt) after → Marked before (i + 1) after
  marked_more after f =
      let p = past_mark i l now (Ok tt) after f in
      record {
        further = record { text = p.0.text ∙ m.further.text; place = omega (arith, m.further.place, p.0.place) };
        answers = m.answers ∙ p.1;
      }

  pub marked_stop : (e : Refusal) → Found now (get_or marks i Blank) (Err e) now → HeadRead before (Err e) now
  marked_stop e f = m.answers ∙ past_mark i l now (Err e) now f

module _ {before now : Reader} (m : Marked before 4 now) where
  pub head_read : (after : Reader) → starts_with eqb (drop now.at now.text.now) (45 ∷ []) ≡ true → Moved now (now.at + 1) after → HeadRead before (Ok tt) after
  head_read after e f = (
    record { text = f.text ∙ m.further.text; place = omega (arith, m.further.place, f.place) },
    m.answers
        ∙ (past_dash (drop now.at now.text.now) now.at e
        ∙ (ap (scan (State.atom []) (now.at + 1)) (drop-drop 1 now.at now.text.now) ∙ moved now (now.at + 1) after f (State.atom []))),
  )

-- after the first i digits of a constant, with their number
pub record Sofar (ds : List ℕ) (at i number : ℕ) : Type 0 where
  pub value : number ≡ digits_value 10 (take i ds)
  pub small : number ≤ 4294967295
  pub walks : (d : List Said) (k : ℕ) (ts : List Term) (rest : List ℕ)
      → scan (State.digits d k ts []) at (ds ++ rest) ≡ scan (State.digits d k ts (take i ds)) (at + i) (drop i ds ++ rest)

-- one digit more
module _ {ds : List ℕ} {at i number : ℕ} (so : Sofar ds at i number) (g : AllDigits 10 ds) (l : i < length ds) (longer : ℕ) (is : longer ≡ number * 10 + (get_or ds i 0 - 48)) where
  longer_value : digits_value 10 (take (i + 1) ds) ≡ longer
  longer_value = omega (arith, so.value, digits_value_more 10 ds i l, digit_value_digit (get_or ds i 0) (digit_at ds i g l))

  abbrev lawful : Bool
  lawful = leb (i + 1) 10 && leb longer 4294967295

  walks_more : (t : Bool) → t ≡ lawful → (d : List Said) (k : ℕ) (ts : List Term) (rest : List ℕ)
      → scan (State.digits d k ts []) at (ds ++ rest) ≡ onward (cond t (Some (State.digits d k ts (take (i + 1) ds))) None) (at + i) (drop (i + 1) ds ++ rest)
  walks_more t e d k ts rest =
      let h = digit_at ds i g l in
      let n : length (take (i + 1) ds) ≡ i + 1 = length-take-le (i + 1) ds (omega arith) in
      so.walks d k ts rest ∙ rw (drop_more ds i 0 l, digit_class (get_or ds i 0) h.0 h.1, ← take_more ds i 0 l, n, longer_value, ← e)

  pub sofar_more : true ≡ lawful → Sofar ds at (i + 1) longer
  sofar_more e =
      record {
        value = sym longer_value;
        small = leb-true longer 4294967295 (and_parts (leb (i + 1) 10) (leb longer 4294967295) (sym e)).1;
        walks = λ d k ts rest.
            let p : at + i + 1 ≡ at + (i + 1) = omega arith in
            walks_more true e d k ts rest ∙ ap (λ m. scan (State.digits d k ts (take (i + 1) ds)) m (drop (i + 1) ds ++ rest)) p;
      }

  pub sofar_stop : false ≡ lawful → NumberRead ds at (Err (record { at = at + i }))
  sofar_stop e = walks_more false e
