-- What is answered where a chain is looked for: four numbers, in the chain's order, or none.
use Rattle.std.specs.Prelude.{ℕ, Bool, List, Some, None, Option, slice_index}
use Rattle.graph.specs.Graphs.{ChainIn, NoChain}

-- the four form a chain, and are of the set
abbrev pub FormsChain : (ℕ → ℕ → Bool) → (ℕ → Bool) → List ℕ → Type 0
FormsChain joined set four = ChainIn joined set (slice_index four 0) (slice_index four 1) (slice_index four 2) (slice_index four 3)

-- a chain of the set, or none where there is none
abbrev pub FindsChain : (ℕ → ℕ → Bool) → (ℕ → Bool) → Option (List ℕ) → Type 0
FindsChain joined set (Some four) = FormsChain joined set four
FindsChain joined set None = NoChain joined set
