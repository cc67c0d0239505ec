-- Lists of parts.
use Rattle.std.specs.Prelude.{ℕ, Bool, List, slice_index_or}
use Rattle.graph.specs.declared.sets.MemberSet.{MemberSet}
use Rattle.graph.specs.Members.{member, nothing}

-- whether part i of the list has a number
abbrev pub part_in : List MemberSet → ℕ → ℕ → Bool
part_in sets i = member (slice_index_or sets i nothing)
