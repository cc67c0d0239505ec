-- The turns of the pass over the nodes, last to first, and what it answers.
use Rattle.std.proofs.Common.{◌≡◌, ℕ, ◌<◌, ◌≤◌, List, length, get_or, drop, refl, ap, ◌∙◌, subst, arith}
use Rattle.tree.specs.Formulas.{Form}
use Rattle.tree.specs.declared.Kind.{Kind}
use Rattle.tree.specs.declared.Node.{Node}
use Rattle.tree.specs.declared.Node.TheVariants.{Vacant}
use Rattle.tree.specs.Layout.{laid, parts}
use Rattle.tree.specs.Passes.{Worked, Reads, folded, form_folded}
use Rattle.tree.proofs.Nested.{none_vacant, count, first_part, no_part}

module _ {V M : Type 0} (mean : V → M) (op : Kind → M → M → M) (reads : ℕ → V → Type 0) (ns : List Node) (entry : List V) where
  -- from a place on the values are worked out, and past the nodes they are as at entry
  pub record Folding (from : ℕ) (vs : List V) : Type 0 where
    pub beyond : drop (length ns) vs ≡ drop (length ns) entry
    pub worked : (F : Form) (leaf : ℕ → M) → ns ≡ laid F → Reads mean leaf reads ns → Worked mean (folded leaf op) (parts F) from vs

  -- and no node is vacant
  pub folding_vacant : (from at : ℕ) (vs : List V) → at < length ns → Folding from vs → get_or ns at Vacant ≡ Vacant → Folding at vs
  folding_vacant from at vs h p is = record {
    beyond = p.beyond;
    worked = λ F leaf l. absurd (none_vacant ns (F, l) at h is);
  }

  pub folding_all : (n : ℕ) (vs : List V) → n ≤ 0 → Folding n vs → Folding 0 vs
  folding_all n vs h p = let e : n ≡ 0 = omega arith in subst (λ m. Folding m vs) e p

  -- the first value is the form's
  pub answer_first : (vs : List V) (v none : V) → v ≡ get_or vs 0 v → 0 < length ns → Folding 0 vs
      → (F : Form) (leaf : ℕ → M) → ns ≡ laid F → Reads mean leaf reads ns → mean v ≡ form_folded (mean none) leaf op F
  answer_first vs v none i h p F leaf l rs =
      ap mean i ∙ p.worked F leaf l rs 0 v (omega arith) (subst (λ n. 0 < n) (count ns F l) h) ∙ first_part ns (λ G g. folded leaf op g ≡ form_folded (mean none) leaf op G) (λ f. refl) F l h

-- and never has its own
pub answer_none : {M : Type 0} (op : Kind → M → M → M) (ns : List Node) (none : M) → length ns ≡ 0 → (F : Form) (leaf : ℕ → M) → ns ≡ laid F → none ≡ form_folded none leaf op F
answer_none op ns none h F leaf l = no_part ns (λ G. none ≡ form_folded none leaf op G) refl F l h
