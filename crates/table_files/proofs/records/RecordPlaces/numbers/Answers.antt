use Rattle.std.proofs.Common.{◌≡◌, ◌<◌, Some, length, refl, ap, ◌∙◌, subst, min, arith, length-take, rules}
use Rattle.std.specs.Result.{result_ok}
use Rattle.std.proofs.lemmas.List.{take_rest}
use Rattle.std.proofs.lemmas.Result.{err_from_is_err_and}
use Rattle.table_files.specs.Places.{Number}
use Rattle.table_files.proofs.Numbering.{wrong_here, counted_more, standing_found}
use Rattle.table_files.proofs.Results.{ok_or_failed}
use Rattle.table_files.proofs.records.RecordPlaces.numbers.Goals as goal

pub returns-in_err-numbers : goal.returns-in_err-numbers
returns-in_err-numbers c = λ values rest records h few.
    let p = err_from_is_err_and c.from_residual.result c.from_residual.ensures.1 in
    let left = c.loop-left.left.now in
    let some : 0 < length left = search rules in
    let (o, f) = ok_or_failed c.field_number.result _ _ c.ok_or.ensures.value _ c.in_err-numbers.was in
    let s = standing_found values records c.args.self.now rest h few (search rules) _ refl in
    rw (p.1, p.2, f)
    (wrong_here _ _ c.loop-left.field left c.loop-left.numbers c.loop-left.invariant some _ (take_rest left 1)
    (λ v k. subst (Number _ v) o (rw c.is_empty.ensures at c.field_number.ensures v (c.content-content.ensures v k))) values s)

pub loop-left-preserved : goal.loop-left-preserved
loop-left-preserved c =
    let left = c.loop-left.left.now in
    let some : 0 < length left = search rules in
    let o : c.field_number.result ≡ Some c.in_ok-numbers.field-0 = c.ok_or.ensures.ok_part ∙ ap result_ok c.in_ok-numbers.was in
    counted_more _ _ c.loop-left.field left c.loop-left.numbers c.loop-left.invariant some _ (take_rest left 1) c.in_ok-numbers.field-0
    (λ v k. subst (Number _ v) o (rw c.is_empty.ensures at c.field_number.ensures v (c.content-content.ensures v k))) (omega (arith, length-take (min c.args.self.now.fields 5) c.args.self.now.places))
