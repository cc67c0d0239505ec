-- The turns of a loop over the later children of an and or an or.
use Rattle.std.proofs.Common.{◌≡◌, ℕ, ◌+◌, ◌<◌, ◌≤◌, List, length, get_or, Option, Some, None, sym, ap, ◌∙◌, subst, arith}
use Rattle.tree.specs.Formulas.{Formula, row, under, Form}
use Rattle.tree.specs.declared.Kind.{Kind}
use Rattle.tree.specs.declared.Node.{Node}
use Rattle.tree.specs.declared.Node.TheVariants.{Vacant}
use Rattle.tree.specs.declared.layout.Children.{Children}
use Rattle.tree.specs.Nodes.{size_of}
use Rattle.tree.specs.Layout.{parts, laid}
use Rattle.tree.specs.Walks.{Goes}
use Rattle.tree.proofs.Progress.{Progress, Branch, begin_at, onward_at, closed, roomed}

-- the children before the place at hand are gone through, and something is known of the formula over them
pub record Visit (ns : List Node) (k : Kind) (at size : ℕ) (it : Children) (P : Form → Formula → Type 0) : Type 0 where
  pub nodes : it.layout.nodes.now ≡ ns
  pub last : it.end ≡ at + size
  pub beyond : at + 1 ≤ it.at
  pub progress : (F : Form) → ns ≡ laid F → Progress (parts F) k at (at + size) it.at (P F)

module _ {ns : List Node} {k : Kind} {at size : ℕ} (b : Branch ns k at size) where
  -- the first child is known
  pub visit_first : {it it' : Children} (P : Form → Formula → Type 0) → it' ≡ it → it.layout.nodes.now ≡ ns → it.at ≡ at + 1 + size_of (get_or ns (at + 1) Vacant) → it.end ≡ at + size
      → ((F : Form) → ns ≡ laid F → P F (get_or (parts F) (at + 1) (row 0))) → Visit ns k at size it' P
  visit_first {it} {it'} P i n a e p =
      let r = roomed b in
      let v : Visit ns k at size it P = record {
        nodes = n;
        last = e;
        beyond = omega (arith, a);
        progress = λ F l. subst (λ c. Progress (parts F) k at (at + size) c (P F)) (sym a) (begin_at b F l (omega arith) (P F) (p F l));
      } in
      subst (λ x. Visit ns k at size x P) (sym i) v

  module _ {it it' : Children} {r : Option ℕ} (goes : Goes it r it') {P : Form → Formula → Type 0} (v : Visit ns k at size it P) where
    -- the next child is a node behind the first
    pub visit_inside : (c : ℕ) → r ≡ Some c → (at + 1 ≤ c) × (c < length ns)
    visit_inside c is_some =
        let (i, s, j) = (subst (λ x. Goes it x it') is_some goes).step in
        let m = roomed b in
        (omega (arith, v.beyond), omega (arith, v.last))

    -- the children before it are gone through
    pub visit_here : (c : ℕ) → r ≡ Some c → (F : Form) → ns ≡ laid F → Progress (parts F) k at (at + size) c (P F) × (c < at + size)
    visit_here c is_some F l =
        let (i, s, j) = (subst (λ x. Goes it x it') is_some goes).step in
        (subst (λ m. Progress (parts F) k at (at + size) m (P F)) (sym i) (v.progress F l), omega (arith, v.last))

    -- and it is gone through
    pub visit_next : (c : ℕ) → r ≡ Some c → (Q : Form → Formula → Type 0) → ((F : Form) → ns ≡ laid F → (f : Formula) → P F f → Q F (under k f (get_or (parts F) c (row 0)))) → Visit ns k at size it' Q
    visit_next c is_some Q more =
        let (i, s, j) = (subst (λ x. Goes it x it') is_some goes).step in
        let (a, h) = visit_inside c is_some in
        let j' : it'.at ≡ c + size_of (get_or ns c Vacant) = j ∙ ap (λ m. it.at + size_of (get_or m it.at Vacant)) v.nodes ∙ ap (λ m. m + size_of (get_or ns m Vacant)) (sym i) in
        record {
          nodes = goes.nodes ∙ v.nodes;
          last = goes.end ∙ v.last;
          beyond = omega (arith, j');
          progress = λ F l. let (p, q) = visit_here c is_some F l in subst (λ m. Progress (parts F) k at (at + size) m (Q F)) (sym j') (onward_at b F l c (P F) (Q F) p q h (more F l));
        }

    -- no child is left
    pub visit_end : r ≡ None → (F : Form) → ns ≡ laid F → P F (get_or (parts F) at (row 0))
    visit_end is_none F l =
        closed (parts F) k at (at + size) it.at (P F) (v.progress F l) (omega (arith, v.last, (subst (λ x. Goes it x it') is_none goes).step))
