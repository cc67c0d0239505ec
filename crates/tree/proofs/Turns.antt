-- What a value worked out over some children means.
use Rattle.std.proofs.Common.{◌≡◌, ℕ, ◌+◌, ◌<◌, ◌≤◌, List, length, get_or, ap, ◌∙◌, subst}
use Rattle.tree.specs.Formulas.{Formula, row, under, Form}
use Rattle.tree.specs.declared.Kind.{Kind}
use Rattle.tree.specs.declared.Node.{Node}
use Rattle.tree.specs.Layout.{parts, laid}
use Rattle.tree.specs.Passes.{Worked, folded}
use Rattle.tree.proofs.Nested.{count}

module _ {V M : Type 0} (mean : V → M) (op : Kind → M → M → M) (at : ℕ) (vs : List V) where
  -- of a formula: the value means it, if what stands behind the node at hand is worked out
  abbrev pub Means : V → Form → Formula → Type 0
  Means v F f = (leaf : ℕ → M) → Worked mean (folded leaf op) (parts F) (at + 1) vs → mean v ≡ folded leaf op f

  -- the value read at a place means the formula there
  pub means_read : (ns : List Node) (F : Form) → ns ≡ laid F → (c : ℕ) (v : V) → at + 1 ≤ c → c < length ns → v ≡ get_or vs c v → Means v F (get_or (parts F) c (row 0))
  means_read ns F l c v a h r leaf w = ap mean r ∙ w c v a (subst (λ n. c < n) (count ns F l) h)

  pub means_more : (ns : List Node) (F : Form) → ns ≡ laid F → (k : Kind) (c : ℕ) (v u w : V) → at + 1 ≤ c → c < length ns → u ≡ get_or vs c u → mean w ≡ op k (mean v) (mean u)
      → (f : Formula) → Means v F f → Means w F (under k f (get_or (parts F) c (row 0)))
  means_more ns F l k c v u w a h r m f y leaf z = m ∙ ap (λ x. op k x (mean u)) (y leaf z) ∙ ap (op k (folded leaf op f)) (means_read ns F l c u a h r leaf z)
