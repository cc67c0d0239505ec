-- What a builder leaves in its memory.
use Rattle.std.specs.Prelude.{◌≡◌, ℕ, ◌+◌, length}
use Rattle.tree.specs.Formulas.{Formula}
use Rattle.tree.specs.Nodes.{written}
use Rattle.tree.specs.Layout.{nodes_of}
use Rattle.tree.specs.declared.build.Builder.{Builder}

-- how many places the memory has
abbrev pub places_of : Builder → ℕ
places_of b = length b.nodes.now

-- a formula was laid out in the same memory, from the builder's place on, and the builder's place is behind it
pub record LaidOut (before after : Builder) (f : Formula) : Type 0 where
  pub memory : after.nodes.ghost_name ≡ before.nodes.ghost_name
  pub room : places_of after ≡ places_of before
  pub nodes : after.nodes.now ≡ written before.nodes.now before.at (nodes_of f)
  pub place : after.at ≡ before.at + length (nodes_of f)
