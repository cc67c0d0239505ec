use Rattle.std.proofs.Common.{◌≡◌, ℕ, eqb, take}
use Rattle.std.specs.List.{list_any}
use Rattle.graph.specs.Members.{member}
use Rattle.graph.proofs.sets.MemberSetFromArrayU8.from.Given as goal

abbrev pub invariant-loop-x : goal.invariant-loop-x
invariant-loop-x g l = (k : ℕ) → member l.set k ≡ list_any (λ x. eqb k x) (take l.x-index l.x-items)
