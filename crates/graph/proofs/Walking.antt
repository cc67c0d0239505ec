-- The walk to a connected part, and the list of all parts. Assumes nothing.
use Rattle.std.proofs.Common.{◌≡◌, ℕ, ◌+◌, ◌<◌, ◌≤◌, Bool, true, false, not, ◌&&◌, ◌||◌, eqb, ◌⊎◌, Some, sym, refl, ◌∙◌, subst, inl, inr, arith}
use Rattle.std.proofs.lemmas.Bool.Decides.{nat_tests}
use Rattle.std.proofs.lemmas.Bool.{false_from_ne_true, cases_eq, cases_Bool, both_ways}
use Rattle.graph.specs.Members.{Lowest, tally}
use Rattle.graph.specs.Graphs.{IsGraph}
use Rattle.graph.specs.Splitting.{Reaches, here, onward, PartOf}
use Rattle.graph.proofs.Paths.{reached_in, stays, closed_is_part}
use Rattle.graph.proofs.Tallies.{tally_le, tally_less}

-- the walk from x: what is not in the rest is reached; what is in the frontier is reached, and its neighbours are still to come
pub record Walk (joined : ℕ → ℕ → Bool) (set : ℕ → Bool) (x : ℕ) (rest frontier : ℕ → Bool) : Type 0 where
  pub starts : set x ≡ true → rest x ≡ false
  pub reached : (y : ℕ) → set y ≡ true → rest y ≡ false → Reaches joined set x y
  pub among : (y : ℕ) → frontier y ≡ true → set y ≡ true
  pub within : (y : ℕ) → rest y ≡ true → set y ≡ true
  pub apart : (y : ℕ) → frontier y ≡ true → rest y ≡ false
  pub closed : (y z : ℕ) → set y ≡ true → rest y ≡ false → frontier y ≡ false → joined y z ≡ true → rest z ≡ false

module _ {joined : ℕ → ℕ → Bool} {set : ℕ → Bool} {x : ℕ} where
  pub walk_start : (first frontier rest : ℕ → Bool) → ((y : ℕ) → first y ≡ eqb y x) → ((y : ℕ) → frontier y ≡ (first y && set y)) →
      ((y : ℕ) → rest y ≡ (set y && not (frontier y))) → Walk joined set x rest frontier
  walk_start first frontier rest is_first is_frontier is_rest = record {
    starts = λ m. grind (arith, nat_tests, is_first, is_frontier, is_rest);
    reached = λ y m r.
        let same : y ≡ x = grind (arith, nat_tests, is_first, is_frontier, is_rest) in
        subst (Reaches joined set x) (sym same) (here (rw same at m));
    among = λ y f. grind (arith, is_frontier);
    within = λ y r. grind (arith, is_rest);
    apart = λ y f. grind (arith, is_rest);
    closed = λ y z m r f j. grind (arith, is_rest);
  }

  -- one turn: v leaves the frontier, and its neighbours of the rest come in
  module _ {rest frontier : ℕ → Bool} (v : ℕ) (out fresh rest' frontier' : ℕ → Bool) (at_v : frontier v ≡ true)
      (is_out : (y : ℕ) → out y ≡ (frontier y && not (eqb y v))) (is_fresh : (y : ℕ) → fresh y ≡ (joined v y && rest y))
      (is_rest : (y : ℕ) → rest' y ≡ (rest y && not (fresh y))) (is_frontier : (y : ℕ) → frontier' y ≡ (out y || fresh y))
      (W : Walk joined set x rest frontier) where
    pub walk_more : Walk joined set x rest' frontier'
    walk_more = record {
      starts = λ m. let old = W.starts m in grind (arith, is_rest);
      reached = λ y m r. elim (cases_Bool (rest y)) [
        | inl new ↦ onward (W.reached v (W.among v at_v) (W.apart v at_v)) (grind (arith, is_fresh, is_rest)) m
        | inr old ↦ W.reached y m old
      ];
      among = λ y f. let a = W.among y in let b = W.within y in grind (arith, is_out, is_fresh, is_frontier);
      within = λ y r. let old = W.within y in grind (arith, is_rest);
      apart = λ y f. let old = W.apart y in grind (arith, is_out, is_fresh, is_rest, is_frontier);
      closed = λ y z m r f j. let old = W.closed y z in grind (arith, nat_tests, is_out, is_fresh, is_rest, is_frontier);
    }

    -- what is left to do falls by v
    pub walk_less : v < 256 → tally (λ y. rest' y || frontier' y) 256 < tally (λ y. rest y || frontier y) 256
    walk_less small =
        let gone = W.apart v at_v in
        tally_less _ _ v 256 (λ y t. grind (arith, is_out, is_fresh, is_rest, is_frontier)) small
        (grind (arith, nat_tests, is_out, is_fresh, is_rest, is_frontier)) (grind arith)

  -- the frontier is empty: what is not in the rest is the part
  pub walk_end : {rest frontier : ℕ → Bool} (part : ℕ → Bool) → ((y : ℕ) → part y ≡ (set y && not (rest y))) → ((y : ℕ) → frontier y ≡ false) →
      Walk joined set x rest frontier → PartOf joined set x part
  walk_end part is_part none W = closed_is_part part
      (λ m. let out = W.starts m in grind (arith, is_part)) (λ y p. W.reached y (grind (arith, is_part)) (grind (arith, is_part)))
      (λ y z p m j. let out = W.closed y z in let done = none y in grind (arith, is_part))

-- a connected part of what no step within the whole leaves is one of the whole
part_of_whole : {joined : ℕ → ℕ → Bool} {set : ℕ → Bool} (left : ℕ → Bool) → ((y : ℕ) → left y ≡ true → set y ≡ true) →
    ((y z : ℕ) → left y ≡ true → set z ≡ true → joined y z ≡ true → left z ≡ true) → (x : ℕ) (part : ℕ → Bool) →
    left x ≡ true → PartOf joined left x part → PartOf joined set x part
part_of_whole {joined} {set} left among closed x part mx is y = (
  λ m. stays (Reaches joined set x) (here (among x mx)) (λ u w _ mw r j. onward r j (among w mw)) ((is y).0 m),
  λ r. (is y).1 (stays (Reaches joined left x) (here mx) (λ u w _ mw p j. onward p j (closed u w (reached_in p) mw j)) r),
)

-- the parts found so far: no step leads out of what is left, and all of that is above their lowest numbers
pub record Listing (joined : ℕ → ℕ → Bool) (set left : ℕ → Bool) (count : ℕ) (part : ℕ → ℕ → Bool) : Type 0 where
  pub among : (y : ℕ) → left y ≡ true → set y ≡ true
  pub closed : (y z : ℕ) → left y ≡ true → set z ≡ true → joined y z ≡ true → left z ≡ true
  pub each : (i : ℕ) → i < count → (x : ℕ) × Lowest (part i) (Some x) × PartOf joined set x (part i)
  pub every : (x : ℕ) → set x ≡ true → (left x ≡ true) ⊎ ((i : ℕ) × (i < count) × (part i x ≡ true))
  pub order : (i j x y : ℕ) → i < j → j < count → Lowest (part i) (Some x) → part j y ≡ true → x < y
  pub ahead : (i x y : ℕ) → i < count → Lowest (part i) (Some x) → left y ≡ true → x < y
  pub room : count + tally left 256 ≤ 256

pub listing_start : (joined : ℕ → ℕ → Bool) (set : ℕ → Bool) (part : ℕ → ℕ → Bool) → Listing joined set set 0 part
listing_start joined set part = record {
  among = λ y m. m;
  closed = λ y z _ m _. m;
  each = λ i l. absurd (omega arith);
  every = λ x m. inl m;
  order = λ i j x y _ l. absurd (omega arith);
  ahead = λ i x y l. absurd (omega arith);
  room = omega (arith, tally_le set 256);
}

-- there is room for one more part while something is left
pub room_left : {joined : ℕ → ℕ → Bool} {set left : ℕ → Bool} {count : ℕ} {part : ℕ → ℕ → Bool} → Listing joined set left count part →
    (x : ℕ) → x < 256 → left x ≡ true → count < 256
room_left {left = left} L x small m =
    let r = L.room in
    let some = tally_less (λ _. false) left x 256 (λ j e. absurd (both_ways _ refl e)) small refl m in
    omega arith

-- one more part: that of the lowest number left
module _ {joined : ℕ → ℕ → Bool} {left : ℕ → Bool} (x : ℕ) (found left' : ℕ → Bool) (small : x < 256) (low : Lowest left (Some x))
    (is_found : PartOf joined left x found) (is_left : (y : ℕ) → left' y ≡ (left y && not (found y))) where
  has_x : found x ≡ true
  has_x = (is_found x).1 (here low.0)

  from_left : (y : ℕ) → found y ≡ true → left y ≡ true
  from_left y f = reached_in ((is_found y).0 f)

  still_left : (y : ℕ) → left' y ≡ true → (left y ≡ true) × (found y ≡ false)
  still_left y l = grind (arith, is_left)

  -- the new part's lowest number is below what is left then
  below_rest : (v y : ℕ) → Lowest found (Some v) → left' y ≡ true → v < y
  below_rest v y lv l =
      let s = still_left y l in
      let not_below = low.1 y in
      let lowest = lv.1 x in
      let has = has_x in
      elim (cases_eq x y) [ inl same ↦ absurd (both_ways _ s.1 (rw same at has)) | inr other ↦ grind arith ]

  pub listing_less : tally left' 256 < tally left 256
  listing_less = tally_less left' left x 256 (λ y l. (still_left y l).0) small (let has = has_x in grind (arith, is_left)) low.0

  module _ {size : ℕ} (G : IsGraph size joined) {set : ℕ → Bool} {count : ℕ} {part : ℕ → ℕ → Bool} (part' : ℕ → ℕ → Bool)
      (here_found : part' count ≡ found) (as_before : (i : ℕ) → i < count → part' i ≡ part i) (L : Listing joined set left count part) where
    new_or_old : (i : ℕ) → i < count + 1 → (i ≡ count) ⊎ (i < count)
    new_or_old i l = elim (cases_eq i count) [ inl e ↦ inl e | inr n ↦ inr (omega arith) ]

    pub listing_more : Listing joined set left' (count + 1) part'
    listing_more = record {
      among = λ y l. L.among y (still_left y l).0;
      closed = λ y z l m j.
          let s = still_left y l in
          let old = L.closed y z s.0 m j in
          let out : found z ≡ false = false_from_ne_true _ (λ f. both_ways _ s.1 ((is_found y).1 (onward ((is_found z).0 f) (G.symmetric z y ∙ j) s.0))) in
          grind (arith, is_left);
      each = λ i l. elim (new_or_old i l) [
        | inl e ↦ rw (e, here_found) (x, (has_x, λ y b. false_from_ne_true _ (λ f. both_ways _ (low.1 y b) (from_left y f))), part_of_whole left L.among L.closed x found low.0 is_found)
        | inr b ↦ rw (as_before i b) (L.each i b)
      ];
      every = λ v m. elim (L.every v m) [
        | inl l ↦ elim (cases_Bool (found v)) [ inl f ↦ inr (count, omega arith, rw here_found f) | inr f ↦ inl (grind (arith, is_left)) ]
        | inr t ↦ (let b = t.1 in inr (t.0, omega arith, rw (as_before t.0 t.1) t.2))
      ];
      order = λ i j v y b l lv p. elim (new_or_old j l) [
        | inl e ↦ (let bi : i < count = omega arith in L.ahead i v y bi (rw (as_before i bi) at lv) (from_left y (rw (e, here_found) at p)))
        | inr bj ↦ (let bi : i < count = omega arith in L.order i j v y b bj (rw (as_before i bi) at lv) (rw (as_before j bj) at p))
      ];
      ahead = λ i v y l lv m. elim (new_or_old i l) [
        | inl e ↦ below_rest v y (rw (e, here_found) at lv) m
        | inr b ↦ L.ahead i v y b (rw (as_before i b) at lv) (still_left y m).0
      ];
      room = let r = L.room in let s = listing_less in omega arith;
    }
