-- Nodes, and memory that nodes are written into.
use Rattle.std.specs.Prelude.{ℕ, ◌+◌, List, ◌++◌, length, take, drop, Some, None, Option}
use Rattle.tree.specs.declared.Kind.{Kind}
use Rattle.tree.specs.declared.Kind.TheVariants.{And, Or}
use Rattle.tree.specs.declared.Node.{Node}
use Rattle.tree.specs.declared.Node.TheVariants.{Vacant, Row, And as and_node, Or as or_node}

-- the number of nodes from a node down, itself among them
abbrev pub size_of : Node → ℕ
size_of Vacant = 0
size_of (Row r) = 1
size_of (and_node n) = n
size_of (or_node n) = n

-- the and or the or with so many nodes from itself down
abbrev pub inner : Kind → ℕ → Node
inner And n = and_node n
inner Or n = or_node n

-- the kind and the size of an and or an or
abbrev pub inner_of : Node → Option (Kind × ℕ)
inner_of Vacant = None
inner_of (Row r) = None
inner_of (and_node n) = Some (And, n)
inner_of (or_node n) = Some (Or, n)

-- the memory with nodes written over it from a place on; what lies before and beyond them stays
abbrev pub written : List Node → ℕ → List Node → List Node
written memory at ns = take at memory ++ (ns ++ drop (at + length ns) memory)
