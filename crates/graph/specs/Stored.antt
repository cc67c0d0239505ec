-- The relation that rows of neighbours store, and what joining a set does to it.
use Rattle.std.specs.Prelude.{ℕ, Bool, List, not, ◌&&◌, ◌||◌, ◌==◌, slice_index_or}
use Rattle.graph.specs.Members.{member, nothing}
use Rattle.graph.specs.declared.sets.MemberSet.{MemberSet}

-- whether b is among the neighbours stored for a
unfoldable pub stored : List MemberSet → ℕ → ℕ → Bool
stored rows a b = member (slice_index_or rows a nothing) b

-- a relation, and besides each number of the first set with each other number of the second
unfoldable pub with_pairs : (ℕ → Bool) → (ℕ → Bool) → (ℕ → ℕ → Bool) → ℕ → ℕ → Bool
with_pairs first second joined a b = joined a b || (first a && (second b && not (a == b)))

-- a relation, and besides any two different numbers of a set
abbrev pub with_all : (ℕ → Bool) → (ℕ → ℕ → Bool) → ℕ → ℕ → Bool
with_all set = with_pairs set set
