-- A set of members splits down to single members exactly when it has no chain. Assumes nothing.
use Rattle.std.proofs.Common.{◌≡◌, ℕ, zero, suc, ◌<◌, ◌≤◌, Bool, true, false, ◌⊎◌, refl, inl, inr, arith}
use Rattle.std.proofs.lemmas.Bool.{false_from_ne_true, both_ways}
use Rattle.graph.specs.Members.{tally}
use Rattle.graph.specs.Graphs.{IsGraph, complement, NoChain}
use Rattle.graph.specs.Laws.{co_parts, co_from, complement_graph}
use Rattle.graph.specs.Splitting.{Reaches, here, Connected, PartOf, AtMostOne, SplitsDown, single, apart, coapart, SplitsIffNoChain}
use Rattle.graph.proofs.Finite.{◌∈◌, listed, in_listed, listed_in}
use Rattle.graph.proofs.Cuts.{Cut, toward, along, Opposite, opposite_back, chain_turned, one_or_cut}
use Rattle.graph.proofs.Paths.{chain_within, reached_in, stays, has_part}
use Rattle.graph.proofs.Tallies.{tally_less}

-- a graph and its complement
pub opposite : {size : ℕ} {joined : ℕ → ℕ → Bool} → IsGraph size joined → Opposite size joined (complement size joined)
opposite {size} {joined} G = record {
  graph = G;
  cograph = complement_graph G;
  unjoined = λ x y j. (co_parts size joined x y j).3;
  joined_else = co_from size joined;
}

module _ {size : ℕ} {joined : ℕ → ℕ → Bool} (G : IsGraph size joined) where
  -- a chain is one of the complement too, and so it stays whole in a part at each split
  splits_no_chain : {set : ℕ → Bool} → ((x : ℕ) → set x ≡ true → x < size) → SplitsDown size joined set → NoChain joined set
  splits_no_chain among (single one) a b c d h = both_ways _ (G.irreflexive b) (rw (one a b h.has_a h.has_b) at h.chain.ab)
  splits_no_chain among (apart {set = set} _ parts) a b c d h =
      let p = has_part joined set size among a h.has_a in
      let ia = (p.1 a).1 (here h.has_a) in
      let w = chain_within p.0 p.1 ia h.has_b h.has_c h.has_d h.chain in
      splits_no_chain (λ x m. among x (reached_in ((p.1 x).0 m))) (parts a p.0 h.has_a p.1) a b c d
      (record { has_a = ia; has_b = w.0; has_c = w.1; has_d = w.2; chain = h.chain })
  splits_no_chain among (coapart {set = set} _ parts) a b c d h =
      let p = has_part (complement size joined) set size among c h.has_c in
      let ic = (p.1 c).1 (here h.has_c) in
      let w = chain_within p.0 p.1 ic h.has_a h.has_d h.has_b (chain_turned (opposite_back (opposite G)) h.chain) in
      splits_no_chain (λ x m. among x (reached_in ((p.1 x).0 m))) (parts c p.0 h.has_c p.1) a b c d
      (record { has_a = w.0; has_b = w.2; has_c = ic; has_d = w.1; chain = h.chain })

-- no path crosses a cut
no_crossing : {joined : ℕ → ℕ → Bool} (set : ℕ → Bool) (size : ℕ) → ((x : ℕ) → set x ≡ true → x < size) → (c : Cut joined (listed set size)) {x y : ℕ} →
    c.side x ≡ true → Reaches joined set x y → c.side y ≡ true
no_crossing set size among c s r =
    stays (λ u. c.side u ≡ true) s (λ y z my mz sy j. along c y z (in_listed set y size (among y my) my) (in_listed set z size (among z mz) mz) sy j) r

-- a set with a cut is not connected
unconnected : {joined : ℕ → ℕ → Bool} (set : ℕ → Bool) (size : ℕ) → ((x : ℕ) → set x ≡ true → x < size) → Cut joined (listed set size) → ¬ Connected joined set
unconnected set size among c all =
    both_ways _ c.right_side (no_crossing set size among c c.left_side (all c.left c.right (listed_in set _ size c.left_in) (listed_in set _ size c.right_in)))

-- and each of its parts is smaller
smaller : {size : ℕ} {joined : ℕ → ℕ → Bool} → IsGraph size joined → (set : ℕ → Bool) → ((x : ℕ) → set x ≡ true → x < size) →
    Cut joined (listed set size) → (x : ℕ) (part : ℕ → Bool) → PartOf joined set x part → tally part size < tally set size
smaller {size} G set among c₀ x part is =
    let w = toward G c₀ x in
    let c = w.0 in
    let m = listed_in set c.right size c.right_in in
    tally_less part set c.right size (λ y i. reached_in ((is y).0 i)) (among c.right m)
    (false_from_ne_true _ (λ i. both_ways _ c.right_side (no_crossing set size among c w.1 ((is c.right).0 i)))) m

module _ {size : ℕ} {joined : ℕ → ℕ → Bool} (G : IsGraph size joined) where
  -- a set of members without a chain has at most one, or a cut in the graph or in the complement
  one_or_cuts : (set : ℕ → Bool) → ((x : ℕ) → set x ≡ true → x < size) → NoChain joined set →
      AtMostOne set ⊎ (Cut joined (listed set size) ⊎ Cut (complement size joined) (listed set size))
  one_or_cuts set among none = elim (one_or_cut (opposite G) (listed set size) (λ a b c d ma mb mc md h.
      none a b c d (record { has_a = out a ma; has_b = out b mb; has_c = out c mc; has_d = out d md; chain = h }))) [
        | inl one ↦ inl (λ x y mx my. one x y (in_listed set x size (among x mx) mx) (in_listed set y size (among y my) my))
        | inr cut ↦ inr cut
      ]
    where
      out : (x : ℕ) → x ∈ listed set size → set x ≡ true
      out x m = listed_in set x size m

  -- two members or more that are connected both ways have a chain
  pub stuck : (set : ℕ → Bool) → ((x : ℕ) → set x ≡ true → x < size) → ¬ AtMostOne set →
      Connected joined set → Connected (complement size joined) set → ¬ NoChain joined set
  stuck set among many whole cowhole none = elim (one_or_cuts set among none) [
    | inl one ↦ many one
    | inr (inl c) ↦ unconnected set size among c whole
    | inr (inr c) ↦ unconnected set size among c cowhole
  ]

  -- by a cut in the graph or in the complement, and then each part in turn
  no_chain_splits : (rounds : ℕ) (set : ℕ → Bool) → ((x : ℕ) → set x ≡ true → x < size) → tally set size ≤ rounds → NoChain joined set → SplitsDown size joined set
  no_chain_splits zero set among few none = single (λ x y m _.
      let some = tally_less (λ _. false) set x size (λ j e. absurd (both_ways _ refl e)) (among x m) refl m in
      absurd (let no_room : ⊥ = omega arith in no_room))
  no_chain_splits (suc rounds) set among few none = elim (one_or_cuts set among none) [
    | inl one ↦ single one
    | inr (inl c) ↦ apart (unconnected set size among c) (each G c (no_chain_splits rounds))
    | inr (inr c) ↦ coapart (unconnected set size among c) (each (complement_graph G) c (no_chain_splits rounds))
  ]
    where
      each : {either : ℕ → ℕ → Bool} → IsGraph size either → Cut either (listed set size) →
          ((set : ℕ → Bool) → ((x : ℕ) → set x ≡ true → x < size) → tally set size ≤ rounds → NoChain joined set → SplitsDown size joined set) →
          (x : ℕ) (part : ℕ → Bool) → set x ≡ true → PartOf either set x part → SplitsDown size joined part
      each H c below x part _ is =
          let less = smaller H set among c x part is in
          below part (λ y m. among y (reached_in ((is y).0 m))) (omega arith) (λ a b c d h. none a b c d (record {
            has_a = reached_in ((is a).0 h.has_a);
            has_b = reached_in ((is b).0 h.has_b);
            has_c = reached_in ((is c).0 h.has_c);
            has_d = reached_in ((is d).0 h.has_d);
            chain = h.chain;
          }))

  pub splits_iff_no_chain : SplitsIffNoChain size joined
  splits_iff_no_chain set among = (splits_no_chain G among, no_chain_splits (tally set size) set among (omega arith))
