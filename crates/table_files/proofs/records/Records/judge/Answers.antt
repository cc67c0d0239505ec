use Rattle.std.proofs.Common.{refl, arith}
use Rattle.table_files.proofs.Through.{through_more, through_all, row_found, row_there}
use Rattle.table_files.proofs.records.Records.judge.Goals as goal

pub returns-in-Err : goal.returns-in-Err
returns-in-Err g c = λ rows s.
    let from = c.loop-record.record-iterator in
    let r = c.in-Some.record in
    let to = c.next.new.self in
    let step = c.in-Some.ensures.steps in
    let count = c.loop-record.count in
    let t = c.loop-record.invariant.3 rows s in
    record { answer = (count, row_there _ from count rows t r to step, t.kept, _, r, _, row_found _ from count rows t r to step, c.in-Err.field, c.in-Err.ensures, refl) }

pub loop-record-preserved : goal.loop-record-preserved
loop-record-preserved g c =
    let from = c.loop-record.record-iterator in
    let r = c.in-Some.record in
    let to = c.next.new.self in
    let step = c.in-Some.ensures.steps in
    let count = c.loop-record.count in (
      tt,
      tt,
      omega (arith, c.loop-record.invariant.2, (c.in-Some.ensures.goes.on tt).2),
      λ rows s.
          let t = c.loop-record.invariant.3 rows s in
          through_more _ from count rows t r to step (_, r, _, row_found _ from count rows t r to step, c.in_default.ensures),
    )

pub returns : goal.returns
returns g c = λ rows s.
    let t = c.loop-record.invariant.3 rows s in
    let all = through_all _ _ c.loop-record.count rows t c.in-None.ensures.steps in
    record { answer = (all, λ k l. t.kept k (omega (arith, all))) }
