-- Paths and connected parts. Assumes nothing.
use Rattle.std.proofs.Common.{◌≡◌, ℕ, zero, suc, ◌<◌, ◌≤◌, Bool, true, false, not, ◌&&◌, ◌||◌, eqb, refl, ◌∙◌, ⊎_elim, arith}
use mathlib.Core.Bool.{Bool-discrete}
use Rattle.std.proofs.lemmas.Bool.{and_parts, and_from, or_cases, or_left, or_right, and_right, eqb-true, eq-eqb, not_from_false, both_ways, cases_Bool}
use Rattle.graph.specs.Members.{tally}
use Rattle.graph.specs.Graphs.{IsGraph, Chain}
use Rattle.graph.specs.Splitting.{Reaches, here, onward, PartOf}
use Rattle.graph.proofs.Finite.{listed, in_listed, listed_in, seek}
use Rattle.graph.proofs.Tallies.{tally_less}

module _ {joined : ℕ → ℕ → Bool} {set : ℕ → Bool} {x : ℕ} where
  -- what is reached is in the set
  pub reached_in : {y : ℕ} → Reaches joined set x y → set y ≡ true
  reached_in (here m) = m
  reached_in (onward r j m) = m

  -- a path does not leave what it cannot leave by one step
  pub stays : (P : ℕ → Type 0) → P x → ((y z : ℕ) → set y ≡ true → set z ≡ true → P y → joined y z ≡ true → P z) →
      {y : ℕ} → Reaches joined set x y → P y
  stays P start step (here m) = start
  stays P start step (onward {y = y} {z = z} r j m) = step y z (reached_in r) m (stays P start step r) j

  -- one path after another
  pub and_then : {y z : ℕ} → Reaches joined set x y → Reaches joined set y z → Reaches joined set x z
  and_then r (here m) = r
  and_then r (onward s j m) = onward (and_then r s) j m

  -- numbers around x that x reaches, and that no step leaves, are the connected part of x
  pub closed_is_part : (inside : ℕ → Bool) → (set x ≡ true → inside x ≡ true) → ((y : ℕ) → inside y ≡ true → Reaches joined set x y) →
      ((y z : ℕ) → inside y ≡ true → set z ≡ true → joined y z ≡ true → inside z ≡ true) → PartOf joined set x inside
  closed_is_part inside start sound closed y = (sound y, λ r. stays (λ z. inside z ≡ true) (start (begins r)) (λ y z _ mz my j. closed y z my mz j) r)
    where
      begins : {y : ℕ} → Reaches joined set x y → set x ≡ true
      begins (here m) = m
      begins (onward r j m) = begins r

-- the way back
pub back : {size : ℕ} {joined : ℕ → ℕ → Bool} {set : ℕ → Bool} {x y : ℕ} → IsGraph size joined → Reaches joined set x y → Reaches joined set y x
back G (here m) = here m
back G (onward {y = y} {z = z} r j m) = and_then (onward (here m) (G.symmetric z y ∙ j) (reached_in r)) (back G r)

-- a chain with its first member in a connected part has the others there too
pub chain_within : {joined : ℕ → ℕ → Bool} {set : ℕ → Bool} {x a b c d : ℕ} (part : ℕ → Bool) → PartOf joined set x part → part a ≡ true →
    set b ≡ true → set c ≡ true → set d ≡ true → Chain joined a b c d → (part b ≡ true) × (part c ≡ true) × (part d ≡ true)
chain_within {a = a} {b} {c} {d} part is ia mb mc md h =
    let rb = onward ((is a).0 ia) h.ab mb in
    let rc = onward rb h.bc mc in
    ((is b).1 rb, (is c).1 rc, (is d).1 (onward rc h.cd md))

still : (s i e : Bool) → (s && not (i || e)) ≡ true → (s && not i) ≡ true
still s i e h = grind arith

-- each of a finite set has a connected part: add what is joined to something already in, until nothing is
module _ (joined : ℕ → ℕ → Bool) (set : ℕ → Bool) (bound : ℕ) (below : (y : ℕ) → set y ≡ true → y < bound) (x : ℕ) where
  abbrev outside : (ℕ → Bool) → ℕ → Bool
  outside inside y = set y && not (inside y)

  -- the part, or something outside that is reached
  step : (inside : ℕ → Bool) → inside x ≡ true → ((y : ℕ) → inside y ≡ true → Reaches joined set x y) →
      ((z : ℕ) → outside inside z ≡ true → Reaches joined set x z → (part : ℕ → Bool) × PartOf joined set x part) →
      (part : ℕ → Bool) × PartOf joined set x part
  step inside start sound again =
      elim (seek _ (λ y. seek _ (λ z. Bool-discrete (joined y z) true) (listed (outside inside) bound)) (listed inside bound)) [
        | yes t ↦ (let z = t.2.0 in
            let o = listed_in (outside inside) z bound t.2.1 in
            again z o (onward (sound t.0 (listed_in inside t.0 bound t.1)) t.2.2 (and_parts _ _ o).0))
        | no n ↦ (
          inside,
          closed_is_part inside (λ _. start) sound (λ y z iy mz j. ⊎_elim (λ i. i)
              (λ f. absurd (n (
                y,
                in_listed inside y bound (below y (reached_in (sound y iy))) iy,
                (z, in_listed (outside inside) z bound (below z mz) (and_from _ _ mz (not_from_false _ f)), j),
              )))
              (cases_Bool (inside z))),
        )
      ]

  grown : (rounds : ℕ) (inside : ℕ → Bool) → tally (outside inside) bound ≤ rounds → inside x ≡ true →
      ((y : ℕ) → inside y ≡ true → Reaches joined set x y) → (part : ℕ → Bool) × PartOf joined set x part
  grown zero inside few start sound = step inside start sound (λ z o r.
      let some = tally_less (λ _. false) (outside inside) z bound (λ j e. absurd (both_ways _ refl e)) (below z (and_parts _ _ o).0) refl o in
      absurd (let no_room : ⊥ = omega arith in no_room))
  grown (suc rounds) inside few start sound = step inside start sound (λ z o r.
      let more : ℕ → Bool = λ u. inside u || eqb u z in
      let less = tally_less (outside more) (outside inside) z bound
      (λ j e. still (set j) (inside j) (eqb j z) e)
      (below z (and_parts _ _ o).0) (rw (or_right (inside z) (eqb z z) (eq-eqb z z refl)) (and_right (set z) false refl)) o in
      grown rounds more (omega arith) (or_left _ _ start)
      (λ y m. ⊎_elim (sound y) (λ e. rw (eqb-true y z e) r) (or_cases _ _ m)))

  pub has_part : set x ≡ true → (part : ℕ → Bool) × PartOf joined set x part
  has_part m = grown (tally (outside (λ y. eqb y x)) bound) (λ y. eqb y x) (omega arith) (eq-eqb x x refl) (λ y e. rw (eqb-true y x e) (here m))
