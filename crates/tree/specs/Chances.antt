-- The chance of a form whose rows are in independently: exact, and as a bracket of billionths.
use Rattle.std.specs.Prelude.{ℕ, ◌+◌, ◌-◌, ◌*◌, ◌/◌, ◌^◌, ◌≤◌, min, List, length, slice_index}
use Rattle.std.proofs.Common.{add_assoc, add_comm, add-zero, mul_assoc, mul_comm, mul-one, mul-zero, mul-add}
use Rattle.scale.specs.Semirings.{Semiring}
use Rattle.tree.specs.Formulas.{Formula, row, under, Form, never, form, form_rows, form_holds}
use Rattle.tree.specs.Worlds.{Weights, total}
use Rattle.tree.specs.declared.Kind.{Kind}
use Rattle.tree.specs.declared.Kind.TheVariants.{And, Or}

-- certainty, in billionths
abbrev pub whole : ℕ
whole = 1000000000

-- how sure each row is: its number, or the whole where it is more
abbrev pub sureness : List ℕ → ℕ → ℕ
sureness sure r = min (slice_index sure r) whole

-- the product of two shares of the whole, rounded down and rounded up
abbrev pub down : ℕ → ℕ → ℕ
down a b = a * b / whole

abbrev pub up : ℕ → ℕ → ℕ
up a b = (a * b + (whole - 1)) / whole

-- what is left of the whole
abbrev pub left : ℕ → ℕ
left a = whole - a

-- the bracket of two independent parts under an and or an or, low and high
abbrev pub bracket_under : Kind → ℕ × ℕ → ℕ × ℕ → ℕ × ℕ
bracket_under And p q = (down p.0 q.0, up p.1 q.1)
bracket_under Or p q = (left (up (left p.0) (left q.0)), left (down (left p.1) (left q.1)))

-- the bracket of a formula, its children taken first to last; a row's low and high are its sureness
abbrev pub bracket : (ℕ → ℕ) → Formula → ℕ × ℕ
bracket c (row r) = (c r, c r)
bracket c (under k f g) = bracket_under k (bracket c f) (bracket c g)

abbrev pub form_bracket : (ℕ → ℕ) → Form → ℕ × ℕ
form_bracket c never = (0, 0)
form_bracket c (form f) = bracket c f

-- the whole numbers
unfoldable pub numbers : Semiring ℕ
numbers = record {
  nought = 0;
  unit = 1;
  plus = ◌+◌;
  times = ◌*◌;
  plus_assoc = add_assoc;
  plus_comm = add_comm;
  plus_nought = add-zero;
  times_assoc = mul_assoc;
  times_comm = mul_comm;
  times_unit = mul-one;
  times_nought = mul-zero;
  times_plus = mul-add;
}

-- each row is in with its sureness, out of the whole, and else out
abbrev pub odds : (ℕ → ℕ) → Weights ℕ
odds c = record { ins = c; outs = λ r. left (c r) }

-- low and high, out of the whole, bracket the exact share n out of d
pub record Between (low high n d : ℕ) : Type 0 where
  pub ordered : low ≤ high
  pub small : high ≤ whole
  pub under : low * d ≤ whole * n
  pub over : whole * n ≤ high * d

-- with n rows, and N the sum over the worlds where the form holds: low and high bracket N out of the whole to the n, and are apart by at most n − 1
abbrev pub Near : (ℕ → ℕ) → Form → ℕ × ℕ → Type 0
Near c F p = Between p.0 p.1 (total numbers (odds c) (form_rows F) (form_holds F)) (whole ^ length (form_rows F))
    × (p.1 - p.0 ≤ length (form_rows F) - 1)
