-- The nodes of a formula: parent first, and each child with all below it before the next child.
use Rattle.std.specs.Prelude.{◌≡◌, List, [], ◌∷◌, ◌++◌, map, length}
use Rattle.tree.specs.Formulas.{Formula, row, under, Form, never, form}
use Rattle.tree.specs.declared.Kind.{Kind}
use Rattle.tree.specs.declared.Kind.TheVariants.{And, Or}
use Rattle.tree.specs.declared.Node.{Node}
use Rattle.tree.specs.declared.Node.TheVariants.{Row}
use Rattle.tree.specs.Nodes.{inner}

-- where a formula stands: by itself, or as the earlier children of a node of the kind
pub data Stand : Type 0 where
  alone : Stand
  among : Kind → Stand

-- the formula has a node of its own, unless it is the earlier children of a node of its kind
abbrev pub own : Stand → Kind → Formula → List Formula
own alone k f = f ∷ []
own (among And) And f = []
own (among And) Or f = f ∷ []
own (among Or) And f = f ∷ []
own (among Or) Or f = []

-- the formulas at the nodes, in the order of the nodes
abbrev pub spread : Stand → Formula → List Formula
spread s (row r) = row r ∷ []
spread s (under k f g) = own s k (under k f g) ++ (spread (among k) f ++ spread alone g)

abbrev pub spans : Formula → List Formula
spans f = spread alone f

-- the node of a formula: its kind, and the number of nodes from itself down
abbrev pub node : Formula → Node
node (row r) = Row r
node (under k f g) = inner k (length (spans (under k f g)))

abbrev pub nodes_of : Formula → List Node
nodes_of f = map node (spans f)

-- the formulas at the nodes of a form: none of never
abbrev pub parts : Form → List Formula
parts never = []
parts (form f) = spans f

-- the nodes of a form
abbrev pub laid : Form → List Node
laid F = map node (parts F)

-- the nodes lay out a form
abbrev pub Lays : List Node → Type 0
Lays ns = (F : Form) × (ns ≡ laid F)

-- the nodes determine the form
abbrev pub LaidOnce : Type 0
LaidOnce = (F G : Form) → laid F ≡ laid G → F ≡ G
