-- Connected parts, and sets that split down to single members.
use Rattle.std.specs.Prelude.{◌≡◌, ℕ, ◌<◌, ◌≤◌, Bool, true, false, ◌↔◌, Some, ◌≢◌}
use Rattle.graph.specs.Members.{Lowest, tally}
use Rattle.graph.specs.Graphs.{complement, NoChain}

-- a path from x within the set: x alone, or a path and one more of the set, joined to its last
pub data Reaches (joined : ℕ → ℕ → Bool) (set : ℕ → Bool) (x : ℕ) : ℕ → Type 0 where
  here : set x ≡ true → Reaches joined set x x
  onward : {y z : ℕ} → Reaches joined set x y → joined y z ≡ true → set z ≡ true → Reaches joined set x z

-- connected: a path leads from each of the set to each other
abbrev pub Connected : (ℕ → ℕ → Bool) → (ℕ → Bool) → Type 0
Connected joined set = (x y : ℕ) → set x ≡ true → set y ≡ true → Reaches joined set x y

-- the connected part of x: just those that x reaches
abbrev pub PartOf : (ℕ → ℕ → Bool) → (ℕ → Bool) → ℕ → (ℕ → Bool) → Type 0
PartOf joined set x part = (y : ℕ) → part y ≡ true ↔ Reaches joined set x y

-- the set has at most one number
abbrev pub AtMostOne : (ℕ → Bool) → Type 0
AtMostOne set = (x y : ℕ) → set x ≡ true → set y ≡ true → x ≡ y

-- the set splits down to single members: it has at most one, or it is not connected, in the graph or in the complement,
-- and each of its connected parts there splits down
pub data SplitsDown (size : ℕ) (joined : ℕ → ℕ → Bool) : (ℕ → Bool) → Type 0 where
  single : {set : ℕ → Bool} → AtMostOne set → SplitsDown size joined set
  apart :
      {set : ℕ → Bool} → ¬ Connected joined set →
      ((x : ℕ) (part : ℕ → Bool) → set x ≡ true → PartOf joined set x part → SplitsDown size joined part) →
      SplitsDown size joined set
  coapart :
      {set : ℕ → Bool} → ¬ Connected (complement size joined) set →
      ((x : ℕ) (part : ℕ → Bool) → set x ≡ true → PartOf (complement size joined) set x part → SplitsDown size joined part) →
      SplitsDown size joined set

-- each set of members splits down to single members exactly when no four of them form a chain
abbrev pub SplitsIffNoChain : ℕ → (ℕ → ℕ → Bool) → Type 0
SplitsIffNoChain size joined =
    (set : ℕ → Bool) → ((x : ℕ) → set x ≡ true → x < size) → SplitsDown size joined set ↔ NoChain joined set

-- the sets part 0, part 1 and so on, so many of them, are all the connected parts, each once, in the order of their lowest members
pub record ListsParts (joined : ℕ → ℕ → Bool) (set : ℕ → Bool) (count : ℕ) (part : ℕ → ℕ → Bool) : Type 0 where
  pub each : (i : ℕ) → i < count → (x : ℕ) × Lowest (part i) (Some x) × PartOf joined set x (part i)
  pub every : (x : ℕ) → set x ≡ true → (i : ℕ) × (i < count) × (part i x ≡ true)
  pub order : (i j x y : ℕ) → i < j → j < count → Lowest (part i) (Some x) → part j y ≡ true → x < y

-- the set falls apart: two connected parts or more; none has a number in common with another or is joined to it,
-- and each has fewer numbers than the set
pub record FallsApart (joined : ℕ → ℕ → Bool) (set : ℕ → Bool) (count : ℕ) (part : ℕ → ℕ → Bool) : Type 0 where
  pub parts : ListsParts joined set count part
  pub many : 2 ≤ count
  pub among : (i x : ℕ) → i < count → part i x ≡ true → set x ≡ true
  pub once : (i j x : ℕ) → i < count → j < count → part i x ≡ true → part j x ≡ true → i ≡ j
  pub across : (i j x y : ℕ) → i < count → j < count → (i ≢ j) → part i x ≡ true → part j y ≡ true → joined x y ≡ false
  pub fewer : (i : ℕ) → i < count → tally (part i) 256 < tally set 256
