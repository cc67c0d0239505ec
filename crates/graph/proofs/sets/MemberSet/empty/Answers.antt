use Rattle.std.proofs.Common.{◌≡◌, ℕ, ◌/◌, List, [], ◌∷◌, get_or, refl, arith}
use Rattle.graph.specs.Members.{member}
use Rattle.graph.proofs.Bits.{none_in, four}
use Rattle.graph.proofs.sets.MemberSet.empty.Goals as goal

pub returns : goal.returns
unfolding member
returns c k =
    let words : List ℕ = 0 ∷ 0 ∷ 0 ∷ 0 ∷ [] in
    none_in words k (λ h. four (λ q. get_or words q 0 ≡ 0) refl refl refl refl (k / 64) (omega arith))
