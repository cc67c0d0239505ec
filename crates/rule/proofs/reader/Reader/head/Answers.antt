use Rattle.std.proofs.Common.{◌≡◌, refl, sym, ◌∙◌, arith}
use Rattle.std.proofs.lemmas.List.{take_rest}
use Rattle.std.proofs.lemmas.Result.{err_from_is_err_and}
use Rattle.rule.proofs.Walking.{marked_more, marked_stop, head_read}
use Rattle.rule.proofs.reader.Reader.head.Goals as goal

pub returns-in_err-mark : goal.returns-in_err-mark
returns-in_err-mark c =
    let p = err_from_is_err_and c.from_residual.result c.from_residual.ensures.1 in
    rw (p.1, p.2) (marked_stop c.loop-class.invariant c.loop-class-test.true _ c.in_err-mark.ensures)

pub loop-class-preserved : goal.loop-class-preserved
loop-class-preserved c = marked_more c.loop-class.invariant c.loop-class-test.true c.mark.new.self c.in_ok-mark.ensures

pub returns-then-starts_with : goal.returns-then-starts_with
returns-then-starts_with c =
    let last : c.loop-class.class-index ≡ 4 = omega arith in
    let dash = rw take_rest at (sym c.starts_with.ensures.value ∙ c.if-starts_with.true) in
    head_read (rw last at c.loop-class.invariant) _ dash (record { text = refl; place = refl })
