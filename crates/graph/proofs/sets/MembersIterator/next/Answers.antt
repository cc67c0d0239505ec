use Rattle.std.proofs.Common.{ℕ, Some, None, Option, rules}
use Rattle.std.specs.Iterator.{at_most, MakesProgress}
use Rattle.graph.specs.declared.sets.Members.{Members}
use Rattle.graph.specs.Members.{member, tally, TakesLowest}
use Rattle.graph.proofs.Tallies.{taken_less}
use Rattle.graph.proofs.sets.MembersIterator.next.Goals as goal

goes : (s t : Members) (r : Option ℕ) → TakesLowest (member s.left) r (member t.left) →
    MakesProgress (λ _. Unit) (λ m. at_most (tally (member m.left) 256)) s r t
goes s t None h = search rules
goes s t (Some x) h = let less = taken_less s.left t.left x h in search rules

pub returns-clause-goes : goal.returns-clause-goes
returns-clause-goes c = goes _ _ _ c.pop_first.ensures
