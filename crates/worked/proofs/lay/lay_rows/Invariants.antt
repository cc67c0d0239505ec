use Rattle.std.proofs.Common.{◌≡◌, ◌+◌, map, take}
use Rattle.tree.specs.Formulas.{row}
use Rattle.tree.specs.Trees.{LaidBetween}
use Rattle.tree.specs.Builders.{places_of}
use Rattle.worked.proofs.lay.lay_rows.Given as goal

abbrev pub invariant-loop-row : goal.invariant-loop-row
invariant-loop-row l =
    (l.builder.at ≡ l.fn.builder.at + 1 + l.row-index)
    × (l.builder.nodes.ghost_name ≡ l.fn.builder.nodes.ghost_name)
    × (places_of l.builder ≡ places_of l.fn.builder)
    × LaidBetween l.fn.builder.nodes.now l.builder.nodes.now (l.fn.builder.at + 1) l.builder.at (map row (take l.row-index l.rows))
