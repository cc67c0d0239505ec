-- The complement and the selection of a graph are graphs: the laws that their implementations owe, proved. Nothing here needs to be believed.
use Rattle.std.specs.Prelude.{◌≡◌, ℕ, ◌<◌, Bool, true, false, ◌≢◌, refl}
use Rattle.std.proofs.Common.{sym, ◌∙◌}
use Rattle.std.specs.Cmp.Derive.{one_truth}
use Rattle.std.proofs.lemmas.Bool.{false_from_ne_true, and_parts, and_from, ltb-true, lt-ltb, eqb-false, ne_eqb, not-true, not_from_false, both_ways}
use Rattle.graph.specs.Graphs.{IsGraph, complement, selection}

-- what the complement joins: two different members that the graph leaves unjoined
pub co_parts : (size : ℕ) (joined : ℕ → ℕ → Bool) (a b : ℕ) → complement size joined a b ≡ true →
    (a < size) × (b < size) × (a ≢ b) × (joined a b ≡ false)
unfolding complement
co_parts size joined a b j =
    let p = and_parts _ _ j in
    let q = and_parts _ _ p.1 in
    let r = and_parts _ _ q.1 in
    (ltb-true a size p.0, ltb-true b size q.0, eqb-false a b (not-true _ r.0), not-true _ r.1)

pub co_from : (size : ℕ) (joined : ℕ → ℕ → Bool) (a b : ℕ) → a < size → b < size → a ≢ b → joined a b ≡ false →
    complement size joined a b ≡ true
unfolding complement
co_from size joined a b la lb n j =
    and_from _ _ (lt-ltb a size la) (and_from _ _ (lt-ltb b size lb) (and_from _ _ (not_from_false _ (ne_eqb a b n)) (not_from_false _ j)))

pub complement_graph : {size : ℕ} {joined : ℕ → ℕ → Bool} → IsGraph size joined → IsGraph size (complement size joined)
complement_graph {size} {joined} G = record {
  few = G.few;
  symmetric = λ a b. one_truth _ _ (turned a b) (turned b a);
  irreflexive = λ a. false_from_ne_true _ (λ j. (co_parts size joined a a j).2 refl);
  within = λ a b j. (co_parts size joined a b j).0;
}
  where
    turned : (a b : ℕ) → complement size joined a b ≡ true → complement size joined b a ≡ true
    turned a b j =
        let p = co_parts size joined a b j in
        co_from size joined b a p.1 p.0 (λ e. p.2 (sym e)) (G.symmetric b a ∙ p.3)

pub selection_graph : {size : ℕ} {joined : ℕ → ℕ → Bool} (set : ℕ → Bool) → IsGraph size joined → IsGraph size (selection set joined)
unfolding selection
selection_graph {size} {joined} set G = record {
  few = G.few;
  symmetric = λ a b. one_truth _ _ (turned a b) (turned b a);
  irreflexive = λ a. false_from_ne_true _ (λ j. both_ways _ (G.irreflexive a) (parts a a j).2);
  within = λ a b j. G.within a b (parts a b j).2;
}
  where
    parts : (a b : ℕ) → selection set joined a b ≡ true → (set a ≡ true) × (set b ≡ true) × (joined a b ≡ true)
    parts a b j = let p = and_parts _ _ j in let q = and_parts _ _ p.1 in (p.0, q.0, q.1)

    turned : (a b : ℕ) → selection set joined a b ≡ true → selection set joined b a ≡ true
    turned a b j = let p = parts a b j in and_from _ _ p.1 (and_from _ _ p.0 (G.symmetric b a ∙ p.2))
