-- Formulas read as trees with any number of children.
use Rattle.std.specs.Prelude.{◌≡◌, ℕ, ◌+◌, ◌*◌, ◌<◌, ◌≤◌, min, Bool, true, false, List, [], ◌∷◌, ◌++◌, map, length}
use Rattle.std.specs.List.{flat_map, AllByRecursion}
use Rattle.tree.specs.Formulas.{World, Formula, row, under, connect, holds, rows}
use Rattle.tree.specs.Nodes.{written}
use Rattle.tree.specs.Layout.{spans, nodes_of}
use Rattle.tree.specs.declared.Kind.{Kind}
use Rattle.tree.specs.declared.Kind.TheVariants.{And, Or}
use Rattle.tree.specs.declared.Node.{Node}

-- whether the formula is of the kind: an and, or an or
abbrev pub same_kind : Kind → Kind → Bool
same_kind And And = true
same_kind And Or = false
same_kind Or And = false
same_kind Or Or = true

abbrev pub is_a : Kind → Formula → Bool
is_a k (row r) = false
is_a k (under j f g) = same_kind k j

-- the children of an and or of an or, first to last; what is not of the kind is its own only child
abbrev pub kids : Kind → Formula → List Formula
kids k (row r) = row r ∷ []
kids And (under And f g) = kids And f ++ (g ∷ [])
kids And (under Or f g) = under Or f g ∷ []
kids Or (under Or f g) = kids Or f ++ (g ∷ [])
kids Or (under And f g) = under And f g ∷ []

-- the lowest row
abbrev pub lowest : Formula → ℕ
lowest (row r) = r
lowest (under k f g) = min (lowest f) (lowest g)

-- each number is below all that follow it
abbrev pub Ascending : List ℕ → Type 0
Ascending [] = Unit {0}
Ascending (n ∷ ns) = AllByRecursion (λ m. n < m) ns × Ascending ns

-- the children of a node of the kind: at least two, none of the kind, by their lowest row
pub record Children (k : Kind) (cs : List Formula) : Type 0 where
  pub two : 2 ≤ length cs
  pub other : AllByRecursion (λ c. is_a k c ≡ false) cs
  pub order : Ascending (map lowest cs)

abbrev pub Proper : Formula → Type 0
Proper (row r) = Unit {0}
Proper (under k f g) = Children k (kids k (under k f g))

-- a canonical formula: each and and or in it has such children
abbrev pub Canonical : Formula → Type 0
Canonical f = AllByRecursion Proper (spans f)

-- all the formulas hold, or some of them does
abbrev pub hold : Kind → List Formula → World → Bool
hold And [] w = true
hold Or [] w = false
hold k (c ∷ cs) w = connect k (holds c w) (hold k cs w)

-- the formula of a node of the kind over the children
abbrev pub gather : Kind → Formula → List Formula → Formula
gather k f [] = f
gather k f (c ∷ cs) = gather k (under k f c) cs

abbrev pub over : Kind → List Formula → Formula
over k [] = row 0
over k (c ∷ cs) = gather k c cs

-- what that formula is: it has these children, holds where all or some of them do, names their rows, is canonical if they are,
-- is laid out as its own node and then child after child, and with n rows has at most 2 n − 1 nodes
pub record IsOver (k : Kind) (cs : List Formula) : Type 0 where
  pub children : kids k (over k cs) ≡ cs
  pub holding : (w : World) → holds (over k cs) w ≡ hold k cs w
  pub naming : rows (over k cs) ≡ flat_map rows cs
  pub canonical : AllByRecursion Canonical cs → Canonical (over k cs)
  pub spanning : spans (over k cs) ≡ over k cs ∷ flat_map spans cs
  pub few : length (spans (over k cs)) + 1 ≤ 2 * length (rows (over k cs))

-- the formulas are laid out one after the other, from a place up to an end, in memory that was so before
abbrev pub LaidBetween : List Node → List Node → ℕ → ℕ → List Formula → Type 0
LaidBetween before now from end cs = (now ≡ written before from (flat_map nodes_of cs)) × (end ≡ from + length (flat_map nodes_of cs))
