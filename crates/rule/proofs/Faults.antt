-- Where the reader stops, the grammar breaks; and what `read` promises follows.
use Rattle.std.proofs.Common.{◌≡◌, ℕ, suc, ◌+◌, ◌<◌, ◌≤◌, List, [], ◌∷◌, ◌++◌, map, length, take, drop, Some, None, Ok, Err, Option, sym, refl, ap, ◌∙◌, subst, inl, inr, append_assoc, add-one, arith}
use Rattle.std.proofs.lemmas.List.{take-take, take-append-drop}
use Rattle.std.proofs.lemmas.Bool.{cases_lt, cases_order}
use Rattle.rule.specs.declared.refusal.Refusal.{Refusal}
use Rattle.rule.specs.declared.rules.Rule.{Rule}
use Rattle.rule.specs.Classes.{class}
use Rattle.rule.specs.Grammar.{Said, Says, Lawful, Continues, BreaksAt}
use Rattle.rule.specs.Kept.{kept}
use Rattle.rule.specs.Rules.{atoms_of, Refused, Answered}
use Rattle.rule.specs.Scanning.{State, next, ended, finish, scan, onward}
use Rattle.rule.proofs.Complete.{Leads, complete}
use Rattle.rule.proofs.Sound.{sound}

-- Every state goes on to the end of some lawful text.
abbrev Completes : State → Type 0
Completes q = (tail : List ℕ) × (all : List Said) × Leads q tail all

completes : (q : State) → Completes q
completes State.start = (81 ∷ 40 ∷ 41 ∷ 58 ∷ 45 ∷ 65 ∷ 40 ∷ 97 ∷ 41 ∷ [], _, λ n. refl)
completes State.named = (40 ∷ 41 ∷ 58 ∷ 45 ∷ 65 ∷ 40 ∷ 97 ∷ 41 ∷ [], _, λ n. refl)
completes State.opened = (41 ∷ 58 ∷ 45 ∷ 65 ∷ 40 ∷ 97 ∷ 41 ∷ [], _, λ n. refl)
completes State.closed = (58 ∷ 45 ∷ 65 ∷ 40 ∷ 97 ∷ 41 ∷ [], _, λ n. refl)
completes State.colon = (45 ∷ 65 ∷ 40 ∷ 97 ∷ 41 ∷ [], _, λ n. refl)
completes (State.atom d) = (65 ∷ 40 ∷ 97 ∷ 41 ∷ [], _, λ n. refl)
completes (State.table d k) = (40 ∷ 97 ∷ 41 ∷ [], _, λ n. refl)
completes (State.term d k ts) = (97 ∷ 41 ∷ [], _, λ n. refl)
completes (State.digits d k ts ds) = (41 ∷ [], _, λ n. refl)
completes (State.said d k ts) = (41 ∷ [], _, λ n. refl)
completes (State.end d) = ([], _, λ n. refl)

-- From q the first i bytes can be continued, and no more.
record Stuck (q : State) (raw : List ℕ) (i : ℕ) : Type 0 where
  inside : i ≤ length raw
  tail : List ℕ
  all : List Said
  lives : Leads q (take i raw ++ tail) all
  dies : i < length raw → (rest : List ℕ) (m : ℕ) → (p : ℕ) × (scan q m (take (suc i) raw ++ rest) ≡ Err p)

stuck_end : (o : Option (List Said)) (n p : ℕ) → finish o n ≡ Err p → p ≡ n
stuck_end (Some d) n p e = cc
stuck_end None n p e = cc

-- a step and then stuck, or stuck at once
stuck_step : (q : State) (b : ℕ) (raw : List ℕ) (n p : ℕ) (o : Option State) → next q (class b) b ≡ o
    → ((r : State) → scan r (n + 1) raw ≡ Err p → (i : ℕ) × (p ≡ n + 1 + i) × Stuck r raw i)
    → onward o n raw ≡ Err p → (i : ℕ) × (p ≡ n + i) × Stuck q (b ∷ raw) i
stuck_step q b raw n p (Some r) step go e =
    let h = go r e in
    let s = h.2 in (
      suc h.0,
      omega (arith, h.1),
      record {
        inside = omega (arith, s.inside);
        tail = s.tail;
        all = s.all;
        lives = λ m. rw step (s.lives (m + 1));
        dies = λ l rest m.
            let k = s.dies (omega arith) rest (m + 1) in (k.0, rw step k.1);
      },
    )
stuck_step q b raw n p None step go e =
    let c = completes q in
    let f : p ≡ n = cc in (
      0,
      omega arith,
      record {
        inside = omega arith;
        tail = c.0;
        all = c.1;
        lives = c.2;
        dies = λ l rest m. (m, rw step);
      },
    )

stuck : (raw : List ℕ) (q : State) (n p : ℕ) → scan q n raw ≡ Err p → (i : ℕ) × (p ≡ n + i) × Stuck q raw i
stuck [] q n p e =
    let c = completes q in
    let f = stuck_end (ended q) n p e in
    (0, omega arith, record { inside = omega arith; tail = c.0; all = c.1; lives = c.2; dies = λ l. absurd (let z : ⊥ = omega arith in z) })
stuck (b ∷ raw) q n p e = stuck_step q b raw n p (next q (class b) b) refl (λ r. stuck raw r (n + 1) p) e

unlawful : (raw : List ℕ) (p : ℕ) → scan State.start 0 raw ≡ Err p → Lawful raw → ⊥
unlawful raw p e l = let c = complete raw l.0 l.1 0 in cc

breaks : (raw : List ℕ) (p : ℕ) → scan State.start 0 raw ≡ Err p → BreaksAt raw p
breaks raw p e =
    let h = stuck raw State.start 0 p e in
    let s = h.2 in
    let i = h.0 in
    let same : i ≡ p = omega (arith, h.1) in
    subst (BreaksAt raw) same (
      (s.tail, (s.all, sound (take i raw ++ s.tail) 0 s.all (s.lives 0))),
      elim (cases_lt i (length raw)) [
        | inl l ↦ inl (
          l,
          λ c.
              let k = s.dies l c.0 0 in
              unlawful (take (suc i) raw ++ c.0) k.0 k.1 (subst (λ j. Lawful (take j raw ++ c.0)) (add-one i) c.1),
        )
        | inr g ↦ inr (omega (arith, s.inside), unlawful raw p e)
      ],
    )

-- Where a text breaks is one place.
continues_less : (raw : List ℕ) (i j : ℕ) → i ≤ j → Continues (take j raw) → Continues (take i raw)
continues_less raw i j h c =
    let t = take j raw in
    (drop i t ++ c.0, rw (← take-take i j raw h, ← append_assoc (take i t) (drop i t) c.0, take-append-drop i t) c.1)

not_later : (raw : List ℕ) (i j : ℕ) → BreaksAt raw i → BreaksAt raw j → i < j → ⊥
not_later raw i j (c, inl b) (d, e) h = b.1 (continues_less raw (i + 1) j (omega arith) d)
not_later raw i j (c, inr b) (d, inl e) h = omega arith
not_later raw i j (c, inr b) (d, inr e) h = omega arith

pub one_place : (raw : List ℕ) (i j : ℕ) → Refused raw i → Refused raw j → i ≡ j
one_place raw i j (inl a) (inl b) = omega arith
one_place raw i j (inl a) (inr b) = omega arith
one_place raw i j (inr a) (inl b) = omega arith
one_place raw i j (inr a) (inr b) =
    elim (cases_order i j) [
      | inl e ↦ e
      | inr (inl h) ↦ absurd (not_later raw i j a.1 b.1 h)
      | inr (inr h) ↦ absurd (not_later raw j i b.1 a.1 h)
    ]

pub not_both : (raw : List ℕ) (at : ℕ) → length raw ≤ 512 → Lawful raw → Refused raw at → ⊥
not_both raw at l w (inl a) = omega arith
not_both raw at l w (inr (_, (c, inl b))) = b.1 (drop (at + 1) raw, rw take-append-drop w)
not_both raw at l w (inr (_, (c, inr b))) = b.1 w

pub one_reading : (raw : List ℕ) (all others : List Said) → Says raw all → Says raw others → all ≡ others
one_reading raw all others a b = let e = sym (complete raw all a 0) ∙ complete raw others b 0 in cc

some_atom : (raw : List ℕ) (all : List Said) → Says raw all → 0 < length all
some_atom raw [] h = absurd h.some
some_atom raw (a ∷ all) h = omega arith

pub err_answered : (raw : List ℕ) (at : ℕ) → Refused raw at → Answered raw (Err (record { at = at }))
err_answered raw at r =
    record {
      says = λ rule e. cc;
      ok = (λ h. (cc), λ h. absurd (not_both raw at h.0 h.1 r));
      err = λ i. (
        λ e. let same : ◌≡◌ {A = Refusal} (record { at = at }) (record { at = i }) = cc in subst (λ f. Refused raw f.at) same r,
        λ s. ap (λ j. Err (record { at = j })) (one_place raw at i r s),
      );
      one = one_reading raw;
      some = some_atom raw;
    }

pub ok_answered : (raw : List ℕ) (rule : Rule) (all : List Said) → length raw ≤ 512 → scan State.start 0 raw ≡ Ok all → atoms_of rule ≡ map kept all → Answered raw (Ok rule)
ok_answered raw rule all l e m =
    let w = sound raw 0 all e in
    record {
      says = λ other f. let same : rule ≡ other = cc in (all, w, subst (λ r. atoms_of r ≡ map kept all) same m);
      ok = (λ _. (l, (all, w)), λ _. (rule, refl));
      err = λ i. (λ f. (cc), λ r. absurd (not_both raw i l (all, w) r));
      one = one_reading raw;
      some = some_atom raw;
    }

pub refused_answered : (raw : List ℕ) (at : ℕ) → length raw ≤ 512 → scan State.start 0 raw ≡ Err at → Answered raw (Err (record { at = at }))
refused_answered raw at l e = err_answered raw at (inr (l, breaks raw at e))
