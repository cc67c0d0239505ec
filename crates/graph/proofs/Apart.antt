-- What a list of parts tells: one part is a connected set, and two or more fall apart. Assumes nothing.
use Rattle.std.proofs.Common.{◌≡◌, ℕ, ◌<◌, ◌≤◌, Bool, true, false, ◌≢◌, inl, inr, arith}
use Rattle.std.proofs.lemmas.Bool.{false_from_ne_true, cases_eq, cases_order, cases_Bool, both_ways}
use Rattle.graph.specs.Answers.{FallsCoapart}
use Rattle.graph.specs.Graphs.{IsGraph, complement}
use Rattle.graph.specs.Laws.{co_from, complement_graph}
use Rattle.graph.specs.Members.{tally}
use Rattle.graph.specs.Splitting.{Reaches, onward, Connected, ListsParts, FallsApart}
use Rattle.graph.proofs.Paths.{reached_in, and_then, back}
use Rattle.graph.proofs.Tallies.{tally_less}

module _ {size : ℕ} {joined : ℕ → ℕ → Bool} (G : IsGraph size joined) {set : ℕ → Bool} {count : ℕ} {part : ℕ → ℕ → Bool}
    (L : ListsParts joined set count part) where
  -- two of one part reach each other
  pub reach : (i x y : ℕ) → i < count → part i x ≡ true → part i y ≡ true → Reaches joined set x y
  reach i x y l px py = let t = L.each i l in and_then (back G ((t.2 x).0 px)) ((t.2 y).0 py)

  -- one part: the set is connected
  pub one_part : count ≤ 1 → Connected joined set
  one_part few x y mx my =
      let i = L.every x mx in
      let j = L.every y my in
      let li = i.1 in
      let lj = j.1 in
      let same : j.0 ≡ i.0 = omega arith in
      reach i.0 x y li i.2 (rw same at j.2)

  pub from_set : (i x : ℕ) → i < count → part i x ≡ true → set x ≡ true
  from_set i x l p = reached_in (((L.each i l).2 x).0 p)

  -- what a part reaches is its own
  pub reached_part : (i x y : ℕ) → i < count → part i x ≡ true → Reaches joined set x y → part i y ≡ true
  reached_part i x y l p r = let t = L.each i l in (t.2 y).1 (and_then ((t.2 x).0 p) r)

  later : (i j x : ℕ) → i < j → j < count → part i x ≡ true → part j x ≡ true → ⊥
  later i j x b l pi pj =
      let li : i < count = omega arith in
      let t = L.each i li in
      let low = t.0 in
      let back_low = reached_part j x low l pj (reach i x low li pi t.1.0) in
      let less = L.order i j low low b l t.1 back_low in
      omega arith

  pub once : (i j x : ℕ) → i < count → j < count → part i x ≡ true → part j x ≡ true → i ≡ j
  once i j x li lj pi pj = elim (cases_order i j) [
    | inl e ↦ e
    | inr (inl b) ↦ absurd (later i j x b lj pi pj)
    | inr (inr b) ↦ absurd (later j i x b li pj pi)
  ]

  across : (i j x y : ℕ) → i < count → j < count → i ≢ j → part i x ≡ true → part j y ≡ true → joined x y ≡ false
  across i j x y li lj n px py =
      false_from_ne_true _ (λ k. n (once i j y li lj (((L.each i li).2 y).1 (onward (((L.each i li).2 x).0 px) k (from_set j y lj py))) py))

  -- two parts or more: the set falls apart
  pub falls_apart : ((x : ℕ) → set x ≡ true → x < size) → 2 ≤ count → FallsApart joined set count part
  falls_apart among many = record { parts = L; many = many; among = from_set; once = once; across = across; fewer = fewer }
    where
      -- a part other than i
      besides : (i : ℕ) → (j : ℕ) × (j < count) × (i ≢ j)
      besides i = elim (cases_eq i 0) [ inl e ↦ (1, omega arith, λ k. omega arith) | inr n ↦ (0, omega arith, n) ]

      fewer : (i : ℕ) → i < count → tally (part i) 256 < tally set 256
      fewer i l =
          let o = besides i in
          let j = o.0 in
          let t = L.each j o.1 in
          let x = t.0 in
          let m = from_set j x o.1 t.1.0 in
          let small = among x m in
          let few = G.few in
          tally_less (part i) set x 256 (λ y p. from_set i y l p) (omega arith) (false_from_ne_true _ (λ p. o.2 (once i j x l o.1 p t.1.0))) m

-- in the complement: members of different parts are joined in the graph
pub coapart : {size : ℕ} {joined : ℕ → ℕ → Bool} → IsGraph size joined → {set : ℕ → Bool} {count : ℕ} {part : ℕ → ℕ → Bool} →
    ((x : ℕ) → set x ≡ true → x < size) → FallsApart (complement size joined) set count part → FallsCoapart size joined set count part
coapart {size} {joined} G among F =
    record {
      apart = F;
      joined_across = λ i j x y li lj n px py. elim (cases_Bool (joined x y)) [
        | inl t ↦ t
        | inr f ↦ absurd (both_ways _ (F.across i j x y li lj n px py)
            (co_from size joined x y (among x (F.among i x li px)) (among y (F.among j y lj py)) (λ e. n (F.once i j y li lj (rw e at px) py)) f))
      ];
    }

-- two parts or more of the complement
pub falls_coapart : {size : ℕ} {joined : ℕ → ℕ → Bool} → IsGraph size joined → {set : ℕ → Bool} {count : ℕ} {part : ℕ → ℕ → Bool} →
    ListsParts (complement size joined) set count part → ((x : ℕ) → set x ≡ true → x < size) → 2 ≤ count → FallsCoapart size joined set count part
falls_coapart G L among many = coapart G among (falls_apart (complement_graph G) L among many)
