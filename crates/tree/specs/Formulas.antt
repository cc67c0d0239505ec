-- Formulas over rows, the worlds where they hold, and those that name each row once.
use Rattle.std.specs.Prelude.{◌≡◌, ℕ, Bool, false, ◌&&◌, ◌||◌, List, [], ◌∷◌, ◌++◌, ◌==◌}
use Rattle.tree.specs.declared.Kind.{Kind}
use Rattle.tree.specs.declared.Kind.TheVariants.{And, Or}

-- a world says of each row whether it is in
abbrev pub World : Type 0
World = ℕ → Bool

-- a row, or two parts under an and or an or
-- an and of children c1, c2, .., cn is nested to the left, under And (.. (under And c1 c2) ..) cn, and so is an or
pub data Formula : Type 0 where
  row : ℕ → Formula
  under : Kind → Formula → Formula → Formula

-- an and needs both parts, an or at least one
abbrev pub connect : Kind → Bool → Bool → Bool
connect And a b = a && b
connect Or a b = a || b

-- whether the formula holds in the world
abbrev pub holds : Formula → World → Bool
holds (row r) w = w r
holds (under k f g) w = connect k (holds f w) (holds g w)

-- the rows that the formula names, first to last
abbrev pub rows : Formula → List ℕ
rows (row r) = r ∷ []
rows (under k f g) = rows f ++ rows g

-- the world that has the rows of the list and no other
abbrev pub has : List ℕ → World
has [] r = false
has (x ∷ xs) r = r == x || has xs r

-- no row stands twice in the list
abbrev pub Distinct : List ℕ → Type 0
Distinct [] = Unit {0}
Distinct (x ∷ xs) = (has xs x ≡ false) × Distinct xs

-- a form is a formula, or the constant never, which names no row and holds in no world
pub data Form : Type 0 where
  never : Form
  form : Formula → Form

abbrev pub form_rows : Form → List ℕ
form_rows never = []
form_rows (form f) = rows f

abbrev pub form_holds : Form → World → Bool
form_holds never w = false
form_holds (form f) w = holds f w

-- no row stands twice in the form
abbrev pub ReadOnce : Form → Type 0
ReadOnce F = Distinct (form_rows F)
