-- The text of a form: r and a row's number, children of an and parted by a space, those of an or by ` + `, brackets round an or inside an and.
use Rattle.std.specs.Prelude.{◌≡◌, ℕ, ◌+◌, ◌*◌, ◌<◌, ◌≤◌, Bool, true, false, List, [], ◌∷◌, ◌++◌, length, codes, decimal}
use Rattle.std.specs.List.{AllByRecursion}
use Rattle.tree.specs.Formulas.{Formula, row, under, Form, never, form, form_rows}
use Rattle.tree.specs.Layout.{laid}
use Rattle.tree.specs.declared.Kind.{Kind}
use Rattle.tree.specs.declared.Kind.TheVariants.{And, Or}
use Rattle.tree.specs.declared.Node.{Node}

-- what parts the children of a node of the kind
abbrev pub gap : Kind → List ℕ
gap And = codes " "
gap Or = codes " + "

-- whether a node of the kind is an and
abbrev pub is_and : Kind → Bool
is_and And = true
is_and Or = false

-- the brackets of a node of the kind, inside an and or not
abbrev pub opening : Kind → Bool → List ℕ
opening And inside = []
opening Or true = codes "("
opening Or false = []

abbrev pub closing : Kind → Bool → List ℕ
closing And inside = []
closing Or true = codes ")"
closing Or false = []

abbrev pub row_text : ℕ → List ℕ
row_text r = 114 ∷ decimal r

-- the text of a formula, inside an and or not; a first part of the same kind is the earlier children, and has no brackets
abbrev pub formula_text : Bool → Formula → List ℕ
formula_text inside (row r) = row_text r
formula_text inside (under k f g) = opening k inside ++ ((formula_text (is_and k) f ++ (gap k ++ formula_text (is_and k) g)) ++ closing k inside)

abbrev pub text : Form → List ℕ
text never = codes "never"
text (form f) = formula_text false f

-- the nodes lay out a form of n rows below 256, and there is room for 9 n + 5 bytes
abbrev pub TextRoom : List Node → ℕ → Type 0
TextRoom ns room = (F : Form) × (ns ≡ laid F) × AllByRecursion (λ r. r < 256) (form_rows F) × (9 * length (form_rows F) + 5 ≤ room)
