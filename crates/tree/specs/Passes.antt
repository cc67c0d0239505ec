-- What inner contracts say of one pass over nodes that lay out a form.
use Rattle.std.specs.Prelude.{◌≡◌, ℕ, ◌<◌, ◌≤◌, List, map, length, slice_index_or}
use Rattle.scale.specs.Semirings.{Semiring}
use Rattle.tree.specs.Formulas.{Formula, row, under, holds, rows, Form, never, form}
use Rattle.tree.specs.Worlds.{Weights, WorldSums}
use Rattle.tree.specs.declared.Kind.{Kind}
use Rattle.tree.specs.declared.Kind.TheVariants.{And, Or}
use Rattle.tree.specs.declared.Node.{Node}
use Rattle.tree.specs.declared.Node.TheVariants.{Vacant, Row}

-- each row of the nodes has a place in a list so long
abbrev pub Placed : List Node → ℕ → Type 0
Placed ns n = (k r : ℕ) → k < length ns → slice_index_or ns k Vacant ≡ Row r → r < n

-- the weights that two lists of values give the rows
abbrev pub weighing : {V M : Type 0} → Semiring M → (V → M) → List V → List V → Weights M
weighing R mean ins outs = record { ins = λ r. slice_index_or (map mean ins) r R.nought; outs = λ r. slice_index_or (map mean outs) r R.nought }

-- what a pair of values means
abbrev pub means : {V M : Type 0} → (V → M) → V × V → M × M
means mean p = (mean p.0, mean p.1)

-- at each node's place stands the pair of sums over the worlds of the rows of the node's own formula
abbrev pub EachSums : {V M : Type 0} → Semiring M → Weights M → (V → M) → List Formula → List (V × V) → Type 0
EachSums {V} R x mean fs ps = (k : ℕ) (d : V × V) → k < length fs → WorldSums R x (rows (slice_index_or fs k (row 0))) (holds (slice_index_or fs k (row 0))) (means mean (slice_index_or ps k d))

-- one pass over a formula
abbrev pub folded : {V : Type 0} → (ℕ → V) → (Kind → V → V → V) → Formula → V
folded leaf op (row r) = leaf r
folded leaf op (under k f g) = op k (folded leaf op f) (folded leaf op g)

abbrev pub form_folded : {V : Type 0} → V → (ℕ → V) → (Kind → V → V → V) → Form → V
form_folded none leaf op never = none
form_folded none leaf op (form f) = folded leaf op f

-- what two independent parts hold with and fail with, under an and or an or
abbrev pub pair_under : {V : Type 0} → Semiring V → Kind → V × V → V × V → V × V
pair_under R And p q = (R.times p.0 q.0, R.plus (R.times p.1 q.0) (R.plus (R.times p.0 q.1) (R.times p.1 q.1)))
pair_under R Or p q = (R.plus (R.times p.0 q.1) (R.plus (R.times p.1 q.0) (R.times p.0 q.0)), R.times p.1 q.1)

-- from a place on, each value means what the pass gives of the formula at its node
abbrev pub Worked : {V M : Type 0} → (V → M) → (Formula → M) → List Formula → ℕ → List V → Type 0
Worked {V} mean pass fs from vs = (k : ℕ) (d : V) → from ≤ k → k < length fs → mean (slice_index_or vs k d) ≡ pass (slice_index_or fs k (row 0))

-- what is read of the row at each node means the row's leaf
abbrev pub Reads : {V M : Type 0} → (V → M) → (ℕ → M) → (ℕ → V → Type 0) → List Node → Type 0
Reads {V} mean leaf reads ns = (k r : ℕ) (v : V) → k < length ns → slice_index_or ns k Vacant ≡ Row r → reads r v → mean v ≡ leaf r
