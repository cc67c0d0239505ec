use Rattle.std.proofs.Common.{◌≡◌, false, length, get_or, sym, refl, ap, arith, rules}
use Rattle.std.proofs.lemmas.Bool.{eqb-true, eqb-false}
use Rattle.text.specs.Writers.{Wrote}
use Rattle.text.proofs.Writing.{wrote_as}
use Rattle.tree.specs.Formulas.{Form, row, never}
use Rattle.tree.specs.Layout.{laid, parts}
use Rattle.tree.specs.Texts.{formula_text, text}
use Rattle.tree.proofs.Nested.{first_part, no_part}
use Rattle.tree.proofs.Unique.{laid_once}
use Rattle.tree.proofs.Lengths.{text_fits}
use Rattle.tree.proofs.form.write_form.Goals.{After-place, then-is_empty, else-is_empty}
use Rattle.tree.proofs.form.write_form.Goals as goal

pub put_part-requires-clause-room : goal.put_part-requires-clause-room
put_part-requires-clause-room c F l =
    let s : formula_text false (get_or (parts F) 0 (row 0)) ≡ text F = first_part c.args.layout.nodes.now (λ G g. formula_text false g ≡ text G) (λ f. refl) F l (omega (arith, eqb-false _ 0 (sym c.if-is_empty.ensures))) in
    let n = c.new-writer.ensures in
    omega (arith, (text_fits c.args.layout.nodes.now (length c.args.out.now) c.requires F l).0, ap length s, n.place, ap length n.bytes)

-- the form's text is written
all : (c : After-place) (F : Form) → c.args.layout.nodes.now ≡ laid F → Wrote c.new-writer.result c.if-is_empty.writer (text F)
all c F l =
    elim c.if-is_empty.branch [
      | then-is_empty w ↦ rw w.writer-is (wrote_as (no_part c.args.layout.nodes.now (λ G. text never ≡ text G) refl F l (eqb-true _ 0 (sym w.if-is_empty.ensures))) w.put.ensures)
      | else-is_empty w ↦
          rw w.writer-is (wrote_as (first_part c.args.layout.nodes.now (λ G g. formula_text false g ≡ text G) (λ f. refl) F l (omega (arith, eqb-false _ 0 (sym w.if-is_empty.ensures)))) (w.put_part.ensures F l))
    ]

pub returns-clause-ends : goal.returns-clause-ends
returns-clause-ends c F l =
    let e : c.place.result ≡ length (text F) = omega (arith, c.place.ensures, (all (goal.at.returns-clause-ends c).After-place F l).place, c.new-writer.ensures.place) in
    (e, omega (arith, e, (text_fits c.args.layout.nodes.now (length c.args.out.now) c.requires F l).1))

pub returns-clause-wrote : goal.returns-clause-wrote
returns-clause-wrote c F l =
    let w = all (goal.at.returns-clause-wrote c).After-place F l in
    let b = w.bytes in
    let m = w.memory in
    let n = c.new-writer.ensures in
    search rules

pub returns-clause-one : goal.returns-clause-one
returns-clause-one c = laid_once
