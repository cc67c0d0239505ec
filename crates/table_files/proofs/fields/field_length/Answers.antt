use Rattle.std.proofs.Common.{◌≡◌, ◌&&◌, length, sym, ap, ◌∙◌, subst, arith, rules}
use Rattle.table_files.specs.Fields.{EndsAt}
use Rattle.table_files.specs.Steps.{done, parts}
use Rattle.table_files.proofs.Ending.{inside_ended, inside_stuck, inside_more, inside_all, span_ends}
use Rattle.table_files.proofs.fields.field_length.Goals.{then-parted-via-then-parted, then-parted-via-else-parted+then-is_err}
use Rattle.table_files.proofs.fields.field_length.Goals as goal

pub returns-then-parted-clause-ends : goal.returns-then-parted-clause-ends
returns-then-parted-clause-ends c =
    let text = c.args.text.now in
    let x = c.loop-i.reader in
    let p = ap (λ q. done x.state && parts q) (sym c.from-class.ensures) ∙ sym c.parted.ensures in
    span_ends text c.loop-i.i
    (elim c.then-parted.branch [
      | then-parted-via-then-parted w ↦ inside_ended text c.loop-i.i x c.loop-i.invariant (omega arith) (p ∙ w.if-parted.true)
      | then-parted-via-else-parted+then-is_err w ↦ inside_stuck text c.loop-i.i x c.loop-i.invariant (omega arith) (p ∙ w.if-parted.false) (search rules)
    ])

pub loop-i-preserved : goal.loop-i-preserved
loop-i-preserved c =
    let x = c.loop-i.reader in
    let p = ap (λ q. done x.state && parts q) (sym c.from-class.ensures) ∙ sym c.parted.ensures in
    inside_more c.args.text.now c.loop-i.i x c.loop-i.invariant (omega arith) c.advance.new.self (p ∙ c.if-parted.false) (search rules)

pub returns-clause-ends : goal.returns-clause-ends
returns-clause-ends c =
    let text = c.args.text.now in
    let i = c.loop-i.i in
    let e : i ≡ length text = omega arith in
    subst (EndsAt text) e (span_ends text i (inside_all text i c.loop-i.reader c.loop-i.invariant (omega arith)))
