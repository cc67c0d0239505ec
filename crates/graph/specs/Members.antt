-- What a member set means: which numbers it has, which is the lowest, and how many there are.
use Rattle.std.specs.Prelude.{◌≡◌, ℕ, zero, suc, ◌+◌, ◌/◌, ◌%◌, ◌<◌, Bool, true, false, cond, not, ◌&&◌, List, [], Some, None, Option, ◌==◌, nat_lt, slice_index}
use Rattle.std.specs.Int.{bit_at}
use Rattle.graph.specs.declared.sets.MemberSet.{MemberSet}

-- whether the words have k: bit k % 64 of word k / 64 is set
abbrev pub in_words : List ℕ → ℕ → Bool
in_words words k = bit_at (slice_index words (k / 64)) (k % 64) == 1

-- whether the set has k; it has no number from 256 on
unfoldable pub member : MemberSet → ℕ → Bool
member set k = nat_lt k 256 && in_words set.words k

-- the set of no words, which has no number: what stands past the end of a list of sets
abbrev pub nothing : MemberSet
nothing = record { words = [] }

-- the lowest number that passes; or none, where none passes
abbrev pub Lowest : (ℕ → Bool) → Option ℕ → Type 0
Lowest test None = (k : ℕ) → test k ≡ false
Lowest test (Some k) = (test k ≡ true) × ((j : ℕ) → j < k → test j ≡ false)

-- the lowest number is taken out; or none, where there is none
abbrev pub TakesLowest : (ℕ → Bool) → Option ℕ → (ℕ → Bool) → Type 0
TakesLowest set None rest = Lowest set None × ((k : ℕ) → rest k ≡ false)
TakesLowest set (Some x) rest = Lowest set (Some x) × ((k : ℕ) → rest k ≡ (set k && not (k == x)))

-- how many numbers below n pass
unfoldable pub tally : (ℕ → Bool) → ℕ → ℕ
tally test zero = 0
tally test (suc n) = cond (test n) 1 0 + tally test n
