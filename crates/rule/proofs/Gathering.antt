-- Atoms, token by token, and the atoms gathered.
use Rattle.std.proofs.Common.{◌≡◌, ℕ, zero, suc, ◌+◌, ◌-◌, ◌*◌, ◌≤◌, Bool, true, false, ltb, List, [], ◌∷◌, ◌++◌, map, length, get_or, set, Ok, Err, Result, sym, refl, ap, ◌∙◌, arith, length-append, Bor}
use Rattle.std.proofs.lemmas.List.{map_push}
use Rattle.std.proofs.lemmas.Bool.Decides.{nat_tests}
use Rattle.std.proofs.lemmas.Bool.{le-ltb, lt-ltb, and_from}
use Rattle.rule.specs.declared.tokens.Class.TheVariants.{Open, Close, Comma, Table}
use Rattle.rule.specs.declared.tokens.Token.{Token}
use Rattle.rule.specs.declared.tokens.Token.TheVariants as tokens
use Rattle.rule.specs.declared.rules.Atom.{Atom}
use Rattle.rule.specs.declared.rules.Rule.{Rule}
use Rattle.rule.specs.declared.rules.Term.{Term}
use Rattle.rule.specs.Grammar.{Said}
use Rattle.std.specs.List.{list_all}
use Rattle.rule.specs.declared.reader.Reader.{Reader}
use Rattle.rule.specs.declared.refusal.Refusal.{Refusal}
use Rattle.rule.specs.Tokens.{place_of}
use Rattle.rule.specs.Lexing.{past_spaces, Moved, Lexed, Found}
use Rattle.rule.specs.Parsing.{answer_of, Further, ReadsTerm, ReadsAtom, AtomRead}
use Rattle.rule.specs.Kept.{empty, with_term, kept, lettered, fits}
use Rattle.rule.specs.Rules.{atoms_of}
use Rattle.rule.specs.Scanning.{State, scan}
use Rattle.rule.proofs.Classing.{kind_at}
use Rattle.rule.proofs.Walking.{steps, ends, Passes, passes, Refuses, refused}

abbrev atom : ℕ → List Term → Said
atom k ts = record { table = k; terms = ts }

-- one term more
kept_more : (k : ℕ) (ts : List Term) (t : Term) → with_term (kept (atom k ts)) t ≡ kept (atom k (ts ++ (t ∷ [])))
kept_more k [] t = refl
kept_more k (a ∷ []) t = refl
kept_more k (a ∷ b ∷ []) t = refl
kept_more k (a ∷ b ∷ c ∷ []) t = refl
kept_more k (a ∷ b ∷ c ∷ e ∷ more) t =
    let ts = a ∷ b ∷ c ∷ e ∷ more in
    let four = a ∷ b ∷ c ∷ e ∷ [] in
    let n : length ts + 1 ≡ length (ts ++ (t ∷ [])) = omega (arith, length-append ts (t ∷ [])) in
    let s : ltb (length ts) 4 ≡ false = le-ltb (length ts) 4 (omega arith) in
    rw (s, n)

all_set : {X : Type 0} (p : X → Bool) (xs : List X) (i : ℕ) (x : X) → p x ≡ true → list_all p xs ≡ true → list_all p (set xs i x) ≡ true
all_set p [] i x h a = refl
all_set p (y ∷ ys) zero x h a = grind (arith, nat_tests)
all_set p (y ∷ ys) (suc i) x h a = grind (arith, nat_tests, all_set p ys i x h)

fits_more : (a : Atom) (t : Term) → fits a ≡ true → lettered t ≡ true → fits (with_term a t) ≡ true
fits_more a t w l = grind (arith, nat_tests, all_set lettered a.terms a.count t l)

-- the atom begun at a reader, before a further term
pub record Begun (before : Reader) (a : Atom) (after : Reader) (ts : List Term) : Type 0 where
  pub keeps : a ≡ kept (atom a.table ts)
  pub fit : fits a ≡ true
  pub further : Further before (2 + length ts) after
  pub answers : (d : List Said) → answer_of before (State.atom d) ≡ answer_of after (State.term d a.table ts)

module _ {before : Reader} {s : Bor (List ℕ)} {at : ℕ} {mid : Reader} (h : Lexed before (tokens.Table s at) mid) where
  abbrev number : ℕ
  number = get_or s.now 0 0 - 65

  first : get_or s.now 0 0 ≡ get_or before.text.now at 0
  first = ap (λ l. get_or l 0 0) h.begins.1

  past_letter : (d : List Said) → answer_of before (State.atom d) ≡ answer_of mid (State.table d number)
  past_letter d =
      rw first (steps before (State.atom d) refl (State.table d (get_or before.text.now at 0 - 65)) Table at mid h.begins.0 h.moved refl)

  opened : (r : Result (Unit {0}) Refusal) (after : Reader) → Found mid Open r after → (d : List Said)
      → Passes mid (State.table d number) (State.term d number []) r after
  opened r after f d = passes (State.table d number) (State.term d number []) Open (λ c b. refl) refl refl mid r after f

  pub begun : (after : Reader) → Found mid Open (Ok tt) after → Begun before (empty number) after []
  begun after f =
      let p = (opened (Ok tt) after f []).0 in
      let k = kind_at Table (get_or before.text.now at 0) h.begins.0.is in
      let l = first in
      record {
        keeps = refl;
        fit = and_from (ltb number 8) true (lt-ltb number 8 (omega arith)) refl;
        further = record { text = p.text ∙ h.moved.text; place = omega (arith, h.begins.0.here, h.moved.place, p.place) };
        answers = λ d. past_letter d ∙ (opened (Ok tt) after f d).1;
      }

  pub not_begun : (e : Refusal) → Found mid Open (Err e) mid → AtomRead before (Err e) mid
  not_begun e f d = past_letter d ∙ opened (Err e) mid f d

module _ {before : Reader} {a : Atom} {now : Reader} {ts : List Term} (g : Begun before a now ts) where
  module _ {t : Term} {mid : Reader} (f : ReadsTerm now t mid) where
    abbrev more : Atom
    more = with_term a t

    abbrev all : List Term
    all = ts ++ (t ∷ [])

    keeps_more : more ≡ kept (atom a.table all)
    keeps_more = ap (λ x. with_term x t) g.keeps ∙ kept_more a.table ts t

    answers_more : (d : List Said) → answer_of before (State.atom d) ≡ answer_of mid (State.said d a.table all)
    answers_more d = g.answers d ∙ f.answers d a.table ts

    further_more : (least at : ℕ) (after : Reader) → at ≡ past_spaces mid → Moved mid (at + 1) after → least ≤ 4 + length ts → Further before least after
    further_more least at after e m l =
        record { text = m.text ∙ (f.further.text ∙ g.further.text); place = omega (arith, g.further.place, f.further.place, m.place) }

    pub begun_more : {at : ℕ} {after : Reader} → Lexed mid (tokens.Comma at) after → Begun before more after all
    begun_more {at} {after} h =
        record {
          keeps = keeps_more;
          fit = fits_more a t g.fit f.fit;
          further = further_more (2 + length all) at after h.begins.here h.moved (omega (arith, length-append ts (t ∷ [])));
          answers = λ d. answers_more d ∙ steps mid (State.said d a.table all) refl (State.term d a.table all) Comma at after h.begins h.moved refl;
        }

    pub whole : {at : ℕ} {after : Reader} → Lexed mid (tokens.Close at) after → ReadsAtom before more after
    whole {at} {after} h =
        let said = atom a.table all in
        record {
          further = further_more 4 at after h.begins.here h.moved (omega arith);
          fit = fits_more a t g.fit f.fit;
          said = said;
          keeps = keeps_more;
          answers = λ d. answers_more d ∙ steps mid (State.said d a.table all) refl (State.end (d ++ (said ∷ []))) Close at after h.begins h.moved refl;
        }

    not_part : (k : Token) → ((p : ℕ) → k ≡ tokens.Comma p → ⊥) → ((p : ℕ) → k ≡ tokens.Close p → ⊥)
        → (d : List Said) → Refuses (State.said d a.table all) k
    not_part (tokens.Close p) c e d = absurd (e p refl)
    not_part (tokens.Comma p) c e d = absurd (c p refl)
    not_part (tokens.Other p) c e d = λ b k o. rw (o.blank, o.comma, o.close_bracket)
    not_part _ c e d = λ b. refl

    pub no_part : {k : Token} {after : Reader} → Lexed mid k after → ((p : ℕ) → k ≡ tokens.Comma p → ⊥) → ((p : ℕ) → k ≡ tokens.Close p → ⊥)
        → AtomRead before (Err (record { at = place_of k })) after
    no_part {k} h c e d = answers_more d ∙ refused mid (State.said d a.table all) refl k h.begins (not_part k c e d)

-- a token that is no table
not_table : (k : Token) → ((s : Bor (List ℕ)) (p : ℕ) → k ≡ tokens.Table s p → ⊥) → (d : List Said) → Refuses (State.atom d) k
not_table (tokens.Table s p) c d = absurd (c s p refl)
not_table (tokens.Other p) c d = λ b k o. rw (o.blank, o.table)
not_table _ c d = λ b. refl

pub no_table : {before : Reader} {k : Token} {after : Reader} → Lexed before k after → ((s : Bor (List ℕ)) (p : ℕ) → k ≡ tokens.Table s p → ⊥)
    → AtomRead before (Err (record { at = place_of k })) after
no_table {before} {k} h c d = refused before (State.atom d) refl k h.begins (not_table k c d)

-- the atoms before the one that begins at the reader
pub record Gathered (text : List ℕ) (rule : Rule) (r : Reader) (before : List Said) : Type 0 where
  pub keeps : atoms_of rule ≡ map kept before
  pub same : r.text.now ≡ text
  pub moved : 5 * length (atoms_of rule) + 5 ≤ r.at
  pub answers : scan State.start 0 text ≡ answer_of r (State.atom before)

module _ {text : List ℕ} {rule : Rule} {now : Reader} {before : List Said} (g : Gathered text rule now before) where
  pub no_atom : (p : Refusal) → AtomRead now (Err p) now → scan State.start 0 text ≡ Err p.at
  no_atom p f = g.answers ∙ f before

  module _ {a : Atom} {mid : Reader} (f : ReadsAtom now a mid) where
    abbrev pub all_said : List Said
    all_said = before ++ (f.said ∷ [])

    answers_after : scan State.start 0 text ≡ answer_of mid (State.end all_said)
    answers_after = g.answers ∙ f.answers before

    module _ (next_rule : Rule) (m : atoms_of next_rule ≡ atoms_of rule ++ (a ∷ [])) where
      pub keeps_after : atoms_of next_rule ≡ map kept all_said
      keeps_after = rw (m, g.keeps, f.keeps) (sym (map_push kept before f.said))

      pub gathered_more : {at : ℕ} {after : Reader} → Lexed mid (tokens.Comma at) after → Gathered text next_rule after all_said
      gathered_more {at} {after} h =
          let more = ap length m ∙ length-append (atoms_of rule) (a ∷ []) in
          record {
            keeps = keeps_after;
            same = h.moved.text ∙ (f.further.text ∙ g.same);
            moved = omega (arith, g.moved, f.further.place, h.begins.here, h.moved.place);
            answers = answers_after ∙ steps mid (State.end all_said) refl (State.atom all_said) Comma at after h.begins h.moved refl;
          }

    pub ended_here : {at : ℕ} {after : Reader} → Lexed mid (tokens.End at) after → scan State.start 0 text ≡ Ok all_said
    ended_here {at} h = answers_after ∙ ends mid (State.end all_said) refl at h.begins

    not_end : (k : Token) → ((p : ℕ) → k ≡ tokens.Comma p → ⊥) → ((p : ℕ) → k ≡ tokens.End p → ⊥) → Refuses (State.end all_said) k
    not_end (tokens.Comma p) c e = absurd (c p refl)
    not_end (tokens.End p) c e = absurd (e p refl)
    not_end (tokens.Other p) c e = λ b k o. rw (o.blank, o.comma)
    not_end _ c e = λ b. refl

    pub no_end : {k : Token} {after : Reader} → Lexed mid k after → ((p : ℕ) → k ≡ tokens.Comma p → ⊥) → ((p : ℕ) → k ≡ tokens.End p → ⊥)
        → scan State.start 0 text ≡ Err (place_of k)
    no_end {k} h c e = answers_after ∙ refused mid (State.end all_said) refl k h.begins (not_end k c e)
