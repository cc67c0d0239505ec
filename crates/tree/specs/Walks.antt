-- Going through the places of children.
use Rattle.std.specs.Prelude.{◌≡◌, ℕ, ◌+◌, ◌<◌, ◌≤◌, Option, slice_index_or}
use Rattle.std.specs.Option.{MatchOption}
use Rattle.tree.specs.Nodes.{size_of}
use Rattle.tree.specs.declared.Node.TheVariants.{Vacant}
use Rattle.tree.specs.declared.layout.Children.{Children}

-- over the same nodes, the place at hand comes, and the next one is behind all below the node there; none comes from the end on
pub record Goes (s : Children) (r : Option ℕ) (t : Children) : Type 0 where
  pub nodes : t.layout.nodes.now ≡ s.layout.nodes.now
  pub end : t.end ≡ s.end
  pub step : MatchOption r (s.end ≤ s.at) (λ c. (c ≡ s.at) × (s.at < s.end) × (t.at ≡ s.at + size_of (slice_index_or s.layout.nodes.now s.at Vacant)))
