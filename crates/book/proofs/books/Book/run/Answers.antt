use Rattle.book.specs.Ledgers.{empty}
use Rattle.book.proofs.Running.{run_more, leads_one}
use Rattle.book.proofs.books.Book.run.Goals as goal

pub loop-call-preserved : goal.loop-call-preserved
loop-call-preserved c =
    let p = c.perform.ensures in
    run_more c.args.calls.now c.loop-call.call-index _ c.loop-call.book c.perform.new.self c.perform.result c.loop-call-test.true c.loop-call.invariant p.0 p.1 p.2

pub returns-clause-one : goal.returns-clause-one
returns-clause-one c = λ l m. leads_one empty l m c.args.calls.now
