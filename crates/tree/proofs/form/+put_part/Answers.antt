use Rattle.std.proofs.Common.{◌+◌, ◌≤◌, length, get_or, sym, ap, ◌∙◌, arith}
use Rattle.text.specs.Writers.{room_of}
use Rattle.text.proofs.Writing.{wrote_both, wrote_as}
use Rattle.tree.specs.Formulas.{row}
use Rattle.tree.specs.Layout.{parts}
use Rattle.tree.specs.Texts.{formula_text}
use Rattle.tree.proofs.Nested.{inner_some}
use Rattle.tree.proofs.Progress.{Branch, branch_at, lays_le, roomed, inner_at}
use Rattle.tree.proofs.Visits.{visit_first, visit_inside, visit_here, visit_next, visit_end}
use Rattle.tree.proofs.TextTurns.{begun_first, begun_more, begun_all, room_open, room_first, room_next, room_close, row_written}
use Rattle.tree.proofs.form.+put_part.Goals.{Start, In-Some}
use Rattle.tree.proofs.form.+put_part.Goals as goal

begin : (t : _) (c : Start t) → c.args.writer.now.at ≤ room_of c.args.writer.now
begin t c = lays_le c.args.layout.lays (λ F l. omega (arith, c.requires.room F l))

here : (t : _) (c : In-Some t) → Branch c.args.layout.nodes.now c.in-Some.kind c.args.at c.in-Some.size
here t c = branch_at c.args.layout.lays c.requires.there (inner_some _ c.in-Some.kind c.in-Some.size (sym c.in-Some.is ∙ c.inner.ensures))

pub put-requires : goal.put-requires
put-requires t c =
    let a = c.args in
    lays_le a.layout.lays (λ F l. omega (arith, c.requires.room F l, ap length (row_written a.layout.nodes.now F l a.at c.requires.there c.in-Row.row c.in-Row.is a.inside)))

pub put_number-requires : goal.put_number-requires
put_number-requires t c =
    let a = c.args in
    lays_le a.layout.lays (λ F l. omega (arith, c.requires.room F l, ap length (row_written a.layout.nodes.now F l a.at c.requires.there c.in-Row.row c.in-Row.is a.inside), c.put.ensures.place, c.put.ensures.room))

pub returns-in-Row : goal.returns-in-Row
returns-in-Row t c F l =
    let a = c.args in
    wrote_as (sym (row_written a.layout.nodes.now F l a.at c.requires.there c.in-Row.row c.in-Row.is a.inside)) (wrote_both c.put.ensures c.put_number.ensures (begin t (goal.at.returns-in-Row t c).Start))

pub put-requires-in-Some : goal.put-requires-in-Some
put-requires-in-Some t c =
    let b = here t (goal.at.put-requires-in-Some t c).In-Some in
    lays_le b.lays (λ F l. omega (arith, room_open b F l c.args.inside c.args.writer.now (c.requires.room F l), ap length c.brackets.ensures.0))

pub put_part-requires : goal.put_part-requires
put_part-requires t c =
    let b = here t (goal.at.put_part-requires t c).In-Some in
    let r = roomed b in (
      omega arith,
      (
        omega arith,
        λ F l.
            let f = room_first b F l c.args.inside c.args.writer.now (c.requires.room F l) c.put-in-Some.new.self (wrote_as c.brackets.ensures.0 c.put-in-Some.ensures) in
            omega (arith, f, ap (λ i. length (formula_text i (get_or (parts F) (c.args.at + 1) (row 0)))) c.is_and.ensures),
      ),
    )

pub loop-child-init : goal.loop-child-init
loop-child-init t c =
    let e = c.later_children-child-items.ensures in
    visit_first (here t (goal.at.loop-child-init t c).In-Some) _ c.into_iter-child-iterator.ensures.into_iter_gives e.nodes e.begin e.end
    (λ F l. let first = get_or (parts F) (c.args.at + 1) (row 0) in
    begun_first c.in-Some.kind c.args.inside c.args.writer.now (begin t (goal.at.loop-child-init t c).Start) first
    (wrote_as c.brackets.ensures.0 c.put-in-Some.ensures) (wrote_as (ap (λ i. formula_text i first) c.is_and.ensures) (c.put_part.ensures F l)))

pub put-requires-in-loop-child : goal.put-requires-in-loop-child
put-requires-in-loop-child t c =
    let b = here t (goal.at.put-requires-in-loop-child t c).In-Some in
    lays_le b.lays (λ F l.
    let (p, h) = visit_here b c.next.ensures.steps c.loop-child.invariant c.in-Some-child.child c.in-Some-child.is F l in
    omega (arith, room_next b F l c.args.inside c.args.writer.now (c.requires.room F l) c.in-Some-child.child c.loop-child.writer p h, ap length c.gap.ensures))

pub put_part-requires-in-loop-child : goal.put_part-requires-in-loop-child
put_part-requires-in-loop-child t c =
    let b = here t (goal.at.put_part-requires-in-loop-child t c).In-Some in
    let next = c.in-Some-child.child in
    let (s, n) = visit_inside b c.next.ensures.steps c.loop-child.invariant next c.in-Some-child.is in (
      omega arith,
      (
        n,
        λ F l.
            let (p, h) = visit_here b c.next.ensures.steps c.loop-child.invariant next c.in-Some-child.is F l in
            let f = room_next b F l c.args.inside c.args.writer.now (c.requires.room F l) next c.loop-child.writer p h in
            let w = c.put-in-loop-child.ensures in
            omega (arith, f, ap length c.gap.ensures, w.place, w.room, ap (λ i. length (formula_text i (get_or (parts F) next (row 0)))) c.is_and-in-loop-child.ensures),
      ),
    )

pub loop-child-preserved : goal.loop-child-preserved
loop-child-preserved t c =
    visit_next (here t (goal.at.loop-child-preserved t c).In-Some) c.next.ensures.steps c.loop-child.invariant c.in-Some-child.child c.in-Some-child.is _
    (λ F l f p. let next = get_or (parts F) c.in-Some-child.child (row 0) in
    begun_more c.in-Some.kind c.args.inside c.args.writer.now (begin t (goal.at.loop-child-preserved t c).Start) f next p
    (wrote_as c.gap.ensures c.put-in-loop-child.ensures) (wrote_as (ap (λ i. formula_text i next) c.is_and-in-loop-child.ensures) (c.put_part-in-loop-child.ensures F l)))

pub put-requires-in-Some-2 : goal.put-requires-in-Some-2
put-requires-in-Some-2 t c =
    let b = here t (goal.at.put-requires-in-Some-2 t c).In-Some in
    lays_le b.lays (λ F l.
    let e = visit_end b c.next.ensures.steps c.loop-child.invariant c.in-None.is F l in
    omega (arith, room_close b F l c.args.inside c.args.writer.now (c.requires.room F l) c.loop-child.writer e, ap length c.brackets.ensures.1))

pub returns-in-None : goal.returns-in-None
returns-in-None t c F l =
    let b = here t (goal.at.returns-in-None t c).In-Some in
    let e = visit_end b c.next.ensures.steps c.loop-child.invariant c.in-None.is F l in
    begun_all c.in-Some.kind c.args.inside c.args.writer.now (begin t (goal.at.returns-in-None t c).Start) (get_or (parts F) c.args.at (row 0)) c.in-Some.size (inner_at b F l) e
    (wrote_as c.brackets.ensures.1 c.put-in-Some-2.ensures)
