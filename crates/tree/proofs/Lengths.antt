-- How long the text of a form is.
use Rattle.std.proofs.Common.{◌≡◌, ℕ, ◌+◌, ◌*◌, ◌<◌, ◌≤◌, Bool, true, false, List, ◌++◌, length, sym, ◌∙◌, subst, arith, length-append}
use Rattle.std.specs.List.{AllByRecursion}
use Rattle.std.proofs.lemmas.Fmt.{length-decimal-le}
use Rattle.tree.specs.Formulas.{Formula, row, under, rows, Form, never, form, form_rows}
use Rattle.tree.specs.declared.Kind.{Kind}
use Rattle.tree.specs.declared.Kind.TheVariants.{And, Or}
use Rattle.tree.specs.declared.Node.{Node}
use Rattle.tree.specs.Layout.{laid}
use Rattle.tree.specs.Texts.{gap, is_and, opening, closing, formula_text, text, TextRoom}
use Rattle.tree.proofs.Placing.{all_halves}
use Rattle.tree.proofs.Unique.{laid_once}

gap_length : (k : Kind) → length (gap k) ≤ 3
gap_length And = omega arith
gap_length Or = omega arith

brackets_length : (k : Kind) (b : Bool) → length (opening k b) + length (closing k b) ≤ 2
brackets_length And b = omega arith
brackets_length Or true = omega arith
brackets_length Or false = omega arith

short : (b : Bool) (f : Formula) → AllByRecursion (λ r. r < 256) (rows f) → length (formula_text b f) + 5 ≤ 9 * length (rows f)
short b (row r) a = omega (arith, length-decimal-le 3 r (omega arith) (omega (arith, a.0)) (omega (arith, a.0)))
short b (under k f g) a =
    let (p, q) = all_halves (λ r. r < 256) (rows f) (rows g) a in
    let t = formula_text (is_and k) f in
    let u = formula_text (is_and k) g in
    let m = t ++ (gap k ++ u) in
    omega (
      arith,
      short (is_and k) f p,
      short (is_and k) g q,
      gap_length k,
      brackets_length k b,
      length-append (opening k b) (m ++ closing k b),
      length-append m (closing k b),
      length-append t (gap k ++ u),
      length-append (gap k) u,
      length-append (rows f) (rows g),
    )

-- a form of n rows below 256 has a text of at most 9 n + 5 bytes
pub short_text : (F : Form) → AllByRecursion (λ r. r < 256) (form_rows F) → length (text F) ≤ 9 * length (form_rows F) + 5
short_text never a = omega arith
short_text (form f) a = omega (arith, short false f a)

-- so there is room for it
pub text_fits : (ns : List Node) (room : ℕ) → TextRoom ns room → (F : Form) → ns ≡ laid F → (length (text F) ≤ room) × (length (text F) ≤ 9 * length (form_rows F) + 5)
text_fits ns room (G, l, a, h) F e =
    let i : G ≡ F = laid_once G F (sym l ∙ e) in
    subst (λ H. (length (text H) ≤ room) × (length (text H) ≤ 9 * length (form_rows H) + 5)) i (let s = short_text G a in (omega arith, s))
