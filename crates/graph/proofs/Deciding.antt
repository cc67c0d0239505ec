-- The ways through one split. Assumes nothing.
use Rattle.std.proofs.Common.{arith, ◌≡◌, ℕ, ◌<◌, Bool, true, false, not, ◌&&◌, eqb, List, is_some, Some, None, Option, refl, subst}
use mathlib.Core.Path.{fun_ext}
use Rattle.std.proofs.lemmas.Bool.Decides.{nat_tests}
use Rattle.graph.specs.declared.answers.Split.{Split}
use Rattle.graph.specs.Answers.{Splits}
use Rattle.graph.specs.Finding.{FindsChain}
use Rattle.graph.specs.Graphs.{IsGraph, complement}
use Rattle.graph.specs.Splitting.{AtMostOne, Connected}
use Rattle.graph.proofs.Theorem.{stuck}

-- what is said of a set is said of one that has the same numbers
pub same_answer : (size : ℕ) (joined : ℕ → ℕ → Bool) {f g : ℕ → Bool} → ((k : ℕ) → f k ≡ g k) → (r : Split) → Splits size joined f r → Splits size joined g r
same_answer size joined same r says = subst (λ set. Splits size joined set r) (fun_ext same) says

module _ {set : ℕ → Bool} (first : ℕ) (others : ℕ → Bool) (has : set first ≡ true) (is : (k : ℕ) → others k ≡ (set k && not (eqb k first))) where
  -- something besides the first
  pub two_members : (((k : ℕ) → others k ≡ false) → ⊥) → ¬ AtMostOne set
  two_members some one = some (λ k. let same = one k first in grind (arith, nat_tests, is))

-- the search does not fail where the set does not fall apart
pub finds : {size : ℕ} {joined : ℕ → ℕ → Bool} {set : ℕ → Bool} → IsGraph size joined → ((x : ℕ) → set x ≡ true → x < size) → ¬ AtMostOne set →
    Connected joined set → Connected (complement size joined) set → (r : Option (List ℕ)) → FindsChain joined set r → is_some r ≡ true
finds G among many whole cowhole (Some four) h = refl
finds {set = set} G among many whole cowhole None h = absurd (stuck G set among many whole cowhole h)
