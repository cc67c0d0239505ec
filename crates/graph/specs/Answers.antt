-- What one split of a set of members answers.
use Rattle.std.specs.Prelude.{◌≡◌, ℕ, ◌<◌, Bool, true, false, List, length, Some, None, Option, ◌≢◌}
use Rattle.lists.specs.declared.FixedList.{FixedList}
use Rattle.lists.specs.Items.{items_of}
use Rattle.graph.specs.declared.answers.Split.{Split}
use Rattle.graph.specs.declared.answers.Split.TheVariants.{Empty, Single, InGraph, InComplement, Stuck}
use Rattle.graph.specs.declared.sets.MemberSet.{MemberSet}
use Rattle.graph.specs.Graphs.{complement}
use Rattle.graph.specs.Finding.{FormsChain}
use Rattle.graph.specs.Listed.{part_in}
use Rattle.graph.specs.Splitting.{Connected, FallsApart}

-- x is the one number of the set
pub record Only (set : ℕ → Bool) (x : ℕ) : Type 0 where
  pub has : set x ≡ true
  pub no_other : (y : ℕ) → set y ≡ true → y ≡ x

-- the parts into which the set falls, or none where it is connected
abbrev pub FallsApartOrNot : (ℕ → ℕ → Bool) → (ℕ → Bool) → Option (FixedList MemberSet 256) → Type 0
FallsApartOrNot joined set (Some parts) = FallsApart joined set (length (items_of parts)) (part_in (items_of parts))
FallsApartOrNot joined set None = Connected joined set

-- the set falls apart in the complement: so in the graph any two members of different parts are joined
pub record FallsCoapart (size : ℕ) (joined : ℕ → ℕ → Bool) (set : ℕ → Bool) (count : ℕ) (part : ℕ → ℕ → Bool) : Type 0 where
  pub apart : FallsApart (complement size joined) set count part
  pub joined_across : (i j x y : ℕ) → i < count → j < count → (i ≢ j) → part i x ≡ true → part j y ≡ true → joined x y ≡ true

-- the set does not fall apart, in the graph or in the complement, and four of it form a chain
pub record Whole (size : ℕ) (joined : ℕ → ℕ → Bool) (set : ℕ → Bool) (four : List ℕ) : Type 0 where
  pub in_graph : Connected joined set
  pub in_complement : Connected (complement size joined) set
  pub chain : FormsChain joined set four

-- what each answer says of the set
abbrev pub Splits : ℕ → (ℕ → ℕ → Bool) → (ℕ → Bool) → Split → Type 0
Splits size joined set Empty = (x : ℕ) → set x ≡ false
Splits size joined set (Single x) = Only set x
Splits size joined set (InGraph parts) = FallsApart joined set (length (items_of parts)) (part_in (items_of parts))
Splits size joined set (InComplement parts) = FallsCoapart size joined set (length (items_of parts)) (part_in (items_of parts))
Splits size joined set (Stuck four) = Whole size joined set four
