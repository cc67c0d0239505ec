-- Rows of neighbours, and joining all of a set. Assumes nothing.
use Rattle.std.proofs.Common.{◌≡◌, ℕ, zero, suc, ◌<◌, ◌≤◌, Bool, true, false, not, ◌&&◌, ◌||◌, eqb, ltb, ◌≢◌, ◌⊎◌, [], get_or, replicate, sym, refl, ◌∙◌, inl, inr, arith}
use Rattle.std.proofs.lemmas.Bool.{cases_eq, cases_Bool, both_ways}
use Rattle.std.proofs.lemmas.Bool.Decides.{nat_tests}
use Rattle.graph.specs.declared.sets.MemberSet.{MemberSet}
use Rattle.graph.specs.Members.{member, nothing}
use Rattle.graph.specs.Graphs.{IsGraph, members_in}
use Rattle.graph.specs.Stored.{with_pairs, with_all}
use Rattle.graph.proofs.Bits.{none_in, member_small}

-- empty rows, and nothing past them
pub empty_rows : (row : MemberSet) → ((b : ℕ) → member row b ≡ false) → (n a b : ℕ) → member (get_or (replicate n row) a nothing) b ≡ false
unfolding member
empty_rows row none zero a b = none_in [] b (λ _. refl)
empty_rows row none (suc n) zero b = none b
empty_rows row none (suc n) (suc a) b = empty_rows row none n a b

-- a graph that joins nothing
pub unjoined_graph : (size : ℕ) (joined : ℕ → ℕ → Bool) → size ≤ 256 → ((a b : ℕ) → joined a b ≡ false) → IsGraph size joined
unjoined_graph size joined few none = record {
  few = few;
  symmetric = λ a b. none a b ∙ sym (none b a);
  irreflexive = λ a. none a a;
  within = λ a b j. absurd (both_ways _ (none a b) j);
}

-- what with-pairs adds
pub pairs_cases : (first second : ℕ → Bool) (joined : ℕ → ℕ → Bool) (a b : ℕ) → with_pairs first second joined a b ≡ true →
    (joined a b ≡ true) ⊎ ((first a ≡ true) × (second b ≡ true) × (a ≢ b))
unfolding with_pairs
pairs_cases first second joined a b j = elim (cases_Bool (joined a b)) [
  | inl old ↦ inl old
  | inr new ↦ inr (grind (arith, nat_tests), grind (arith, nat_tests), λ e. grind (arith, nat_tests))
]

pub pairs_old : (first second : ℕ → Bool) (joined : ℕ → ℕ → Bool) (a b : ℕ) → joined a b ≡ true → with_pairs first second joined a b ≡ true
unfolding with_pairs
pairs_old first second joined a b j = grind arith

pub pairs_new : (first second : ℕ → Bool) (joined : ℕ → ℕ → Bool) (a b : ℕ) → first a ≡ true → second b ≡ true → a ≢ b →
    with_pairs first second joined a b ≡ true
unfolding with_pairs
pairs_new first second joined a b fa sb n = grind (arith, nat_tests)

-- the loop that joins a set: what is left is of the set, and the others of the set have all their new neighbours
pub record Joining (set left : ℕ → Bool) (before after : ℕ → ℕ → Bool) : Type 0 where
  pub among : (k : ℕ) → left k ≡ true → set k ≡ true
  pub done : (a b : ℕ) → after a b ≡ with_pairs (λ k. set k && not (left k)) set before a b

pub joining_start : (set : ℕ → Bool) (before : ℕ → ℕ → Bool) → Joining set set before before
unfolding with_pairs
joining_start set before = record { among = λ k m. m; done = λ a b. grind arith }

pub joining_more : {set left : ℕ → Bool} {before now : ℕ → ℕ → Bool} (left' others row : ℕ → Bool) (after : ℕ → ℕ → Bool) (x : ℕ) → left x ≡ true →
    ((k : ℕ) → left' k ≡ (left k && not (eqb k x))) → ((k : ℕ) → others k ≡ (set k && not (eqb k x))) → ((b : ℕ) → row b ≡ (now x b || others b)) →
    ((b : ℕ) → after x b ≡ row b) → ((a b : ℕ) → a ≢ x → after a b ≡ now a b) → Joining set left before now → Joining set left' before after
unfolding with_pairs
joining_more left' others row after x has is_left is_others is_row here elsewhere J = record {
  among = λ k m. let old = J.among k in grind (arith, is_left);
  done = λ a b.
      let old = J.done a b in
      let in_set = J.among a in
      elim (cases_eq a x) [
        | inl same ↦ grind (arith, nat_tests, is_left, is_others, is_row, here)
        | inr other ↦ (let kept = elsewhere a b other in grind (arith, nat_tests, is_left))
      ];
}

pub joining_end : {set left : ℕ → Bool} {before after : ℕ → ℕ → Bool} → ((k : ℕ) → left k ≡ false) → Joining set left before after →
    (a b : ℕ) → after a b ≡ with_all set before a b
unfolding with_pairs
joining_end none J a b = let done = J.done a b in grind (arith, none)

-- a graph with more members joined is a graph
pub joined_graph : {size : ℕ} {joined : ℕ → ℕ → Bool} (set : ℕ → Bool) (after : ℕ → ℕ → Bool) → IsGraph size joined →
    ((a : ℕ) → set a ≡ true → a < size) → ((a b : ℕ) → after a b ≡ with_all set joined a b) → IsGraph size after
unfolding with_pairs
joined_graph set after G among is = record {
  few = G.few;
  symmetric = λ a b. let old = G.symmetric a b in grind (arith, nat_tests, is);
  irreflexive = λ a. let old = G.irreflexive a in grind (arith, nat_tests, is);
  within = λ a b j. let old = G.within a b in let new = among a in grind (arith, nat_tests, is);
}

-- the members among a set's numbers
module _ {size : ℕ} (set : MemberSet) (below both : ℕ → Bool) (n : ℕ) (e : n ≡ size)
    (is_below : (k : ℕ) → below k ≡ (ltb k 256 && ltb k n)) (is_both : (k : ℕ) → both k ≡ (member set k && below k)) where
  pub members_same : (k : ℕ) → both k ≡ members_in size (member set) k
  members_same k = let small = member_small set k in grind (arith, nat_tests, is_below, is_both)

  pub members_only : (x : ℕ) → both x ≡ true → x < size
  members_only x m = grind (arith, nat_tests, is_below, is_both)
