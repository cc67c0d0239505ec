-- Graphs, complements, selections and chains. A set of numbers is its test, ℕ → Bool; a graph is its test of two numbers.
use Rattle.std.specs.Prelude.{◌≡◌, ℕ, ◌<◌, ◌≤◌, Bool, true, false, not, ◌&&◌, ◌==◌, nat_lt}

-- the laws of a graph of so many members, numbered from 0: at most 256; joined goes both ways; nothing is joined to itself;
-- and only members are joined
pub record IsGraph (size : ℕ) (joined : ℕ → ℕ → Bool) : Type 0 where
  pub few : size ≤ 256
  pub symmetric : (a b : ℕ) → joined a b ≡ joined b a
  pub irreflexive : (a : ℕ) → joined a a ≡ false
  pub within : (a b : ℕ) → joined a b ≡ true → a < size

-- the complement joins two different members that the graph leaves unjoined
unfoldable pub complement : ℕ → (ℕ → ℕ → Bool) → ℕ → ℕ → Bool
complement size joined a b = nat_lt a size && (nat_lt b size && (not (a == b) && not (joined a b)))

-- a selection joins two selected members that the graph joins
unfoldable pub selection : (ℕ → Bool) → (ℕ → ℕ → Bool) → ℕ → ℕ → Bool
selection set joined a b = set a && (set b && joined a b)

-- the selected numbers that are members of a graph of that size
abbrev pub members_in : ℕ → (ℕ → Bool) → ℕ → Bool
members_in size set a = set a && nat_lt a size

-- a chain of four: each is joined to the next, and no two others are joined
pub record Chain (joined : ℕ → ℕ → Bool) (a b c d : ℕ) : Type 0 where
  pub ab : joined a b ≡ true
  pub bc : joined b c ≡ true
  pub cd : joined c d ≡ true
  pub ac : joined a c ≡ false
  pub bd : joined b d ≡ false
  pub ad : joined a d ≡ false

-- four of the set that form a chain
pub record ChainIn (joined : ℕ → ℕ → Bool) (set : ℕ → Bool) (a b c d : ℕ) : Type 0 where
  pub has_a : set a ≡ true
  pub has_b : set b ≡ true
  pub has_c : set c ≡ true
  pub has_d : set d ≡ true
  pub chain : Chain joined a b c d

-- no four of the set form a chain
abbrev pub NoChain : (ℕ → ℕ → Bool) → (ℕ → Bool) → Type 0
NoChain joined set = (a b c d : ℕ) → ChainIn joined set a b c d → ⊥
