use Rattle.std.proofs.Common.{◌≡◌, Some, Ok, Err, refl, ap, ◌∙◌, subst, arith}
use Rattle.std.specs.Result.{result_ok, MatchResult}
use Rattle.std.proofs.lemmas.Result.{err_from_is_err_and}
use Rattle.table_files.specs.declared.fault.Fault.TheVariants.{TooLong, Grammar, FieldCount, Field}
use Rattle.table_files.specs.Grammar.{Breaks, Lawful}
use Rattle.table_files.specs.Tables.{rest_of}
use Rattle.table_files.proofs.Faults.{answered, answer_header, answer_count, answer_field, answer_file}
use Rattle.table_files.proofs.Results.{map_failed, map_went, ok_or_failed}
use Rattle.table_files.proofs.read.Goals.{In_ok-map_err, In_ok-width, In_ok-count}
use Rattle.table_files.proofs.read.Goals as goal

pub returns-then-text-gt65536 : goal.returns-then-text-gt65536
returns-then-text-gt65536 c = answered c.args.text.now (Err TooLong) (omega arith)

pub returns-in_err-map_err : goal.returns-in_err-map_err
returns-in_err-map_err c =
    let p = err_from_is_err_and c.from_residual.result c.from_residual.ensures.1 in
    let (place, e, f) = map_failed Grammar _ _ c.map_err.ensures.cases _ c.in_err-map_err.was in
    rw (p.1, p.2, f)
    (answered c.args.text.now (Err (Grammar place)) (omega (arith, c.if-text-gt65536.false), subst (λ r. MatchResult r (λ _. Lawful c.args.text.now) (λ q. Breaks c.args.text.now q.«record» q.field)) e c.check.ensures))

lawful : (c : In_ok-map_err) → Lawful c.args.text.now
lawful c =
    subst (λ r. MatchResult r (λ _. Lawful c.args.text.now) (λ q. Breaks c.args.text.now q.«record» q.field))
    (map_went Grammar _ _ c.map_err.ensures.cases _ c.in_ok-map_err.was) c.check.ensures

pub returns-in_err-width : goal.returns-in_err-width
returns-in_err-width c =
    let p = err_from_is_err_and c.from_residual-in_err-width.result c.from_residual-in_err-width.ensures.1 in
    let (n, f) = ok_or_failed c.width.result _ _ c.ok_or.ensures.value _ c.in_err-width.was in
    rw (p.1, p.2, f)
    (answer_header c.args.text.now (omega (arith, c.if-text-gt65536.false)) (lawful (goal.at.returns-in_err-width c).In_ok-map_err) c.record-header.result _ (rw c.new-records.ensures at c.record-header.ensures.found)
    c.width.result (λ v r. c.width.ensures v _ r) n)

wide : (c : In_ok-width) → c.width.result ≡ Some c.in_ok-width.width
wide c = c.ok_or.ensures.ok_part ∙ ap result_ok c.in_ok-width.was

pub returns-in_err-count : goal.returns-in_err-count
returns-in_err-count c =
    let p = err_from_is_err_and c.from_residual-in_err-count.result c.from_residual-in_err-count.ensures.1 in
    let (place, e, f) = map_failed FieldCount _ _ c.map_err-2.ensures.cases _ c.in_err-count.was in
    rw (p.1, p.2, f)
    (answer_count c.args.text.now (omega (arith, c.if-text-gt65536.false)) (lawful (goal.at.returns-in_err-count c).In_ok-map_err) c.record-header.result _ (rw c.new-records.ensures at c.record-header.ensures.found)
    c.width.result (λ v r. c.width.ensures v _ r) _ (wide (goal.at.returns-in_err-count c).In_ok-width) c.count_rows.result c.count_rows.ensures place e)

counted : (c : In_ok-count) → c.count_rows.result ≡ Ok c.in_ok-count.count
counted c = map_went FieldCount _ _ c.map_err-2.ensures.cases _ c.in_ok-count.was

pub returns-in_err-map_err-2 : goal.returns-in_err-map_err-2
returns-in_err-map_err-2 c =
    let p = err_from_is_err_and c.from_residual-in_err-map_err-2.result c.from_residual-in_err-map_err-2.ensures.1 in
    let (place, e, f) = map_failed Field _ _ c.map_err-3.ensures.cases _ c.in_err-map_err-2.was in
    let at = goal.at.returns-in_err-map_err-2 c in
    rw (p.1, p.2, f)
    (answer_field c.args.text.now (omega (arith, c.if-text-gt65536.false)) (lawful at.In_ok-map_err) c.record-header.result _ (rw c.new-records.ensures at c.record-header.ensures.found)
    c.width.result (λ v r. c.width.ensures v _ r) _ (wide at.In_ok-width) c.count_rows.result c.count_rows.ensures _ (counted at.In_ok-count) c.check_rows.result c.check_rows.ensures place e)

pub returns : goal.returns
returns c =
    let at = goal.at.returns c in
    answer_file c.args.text.now (omega (arith, c.if-text-gt65536.false)) (lawful at.In_ok-map_err) c.record-header.result _ (rw c.new-records.ensures at c.record-header.ensures.found)
    c.width.result (λ v r. c.width.ensures v _ r) _ (wide at.In_ok-width) c.count_rows.result c.count_rows.ensures _ (counted at.In_ok-count) c.check_rows.result c.check_rows.ensures
    _ (map_went Field _ _ c.map_err-3.ensures.cases _ c.in_ok-map_err-2.was) _ refl refl (ap rest_of c.new.ensures)
