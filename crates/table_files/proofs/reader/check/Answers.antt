use Rattle.std.proofs.Common.{sym, ap, ◌∙◌, arith}
use Rattle.std.proofs.lemmas.Result.{err_from_is_err_and}
use Rattle.table_files.specs.Steps.{moved}
use Rattle.table_files.proofs.Checks.{sofar_none, sofar_few, sofar_more, breaks_here, lawful_all, breaks_end}
use Rattle.table_files.proofs.reader.check.Goals as goal

pub loop-byte-init : goal.loop-byte-init
loop-byte-init c = sofar_none c.args.text.now

pub advance-requires : goal.advance-requires
advance-requires c =
    let k = sofar_few c.args.text.now c.loop-byte.byte-index c.loop-byte.reader c.loop-byte.invariant in
    (omega (arith, c.well_formed), omega (arith, c.well_formed))

pub returns-in_err-advance : goal.returns-in_err-advance
returns-in_err-advance c =
    let text = c.args.text.now in
    let x = c.loop-byte.reader in
    let p = err_from_is_err_and c.from_residual.result c.from_residual.ensures.1 in
    let e = c.in_err-advance.ensures in
    let b = breaks_here text c.loop-byte.byte-index x c.loop-byte.invariant c.loop-byte-test.true (ap (moved x) (sym c.from.ensures) ∙ e.0) in
    rw (p.1, p.2, e.2) b

pub loop-byte-preserved : goal.loop-byte-preserved
loop-byte-preserved c =
    let x = c.loop-byte.reader in
    sofar_more c.args.text.now c.loop-byte.byte-index x c.loop-byte.invariant c.loop-byte-test.true c.advance.new.self
    (ap (moved x) (sym c.from.ensures) ∙ c.in_ok-advance.ensures)

pub returns-then-ended : goal.returns-then-ended
returns-then-ended c =
    lawful_all c.args.text.now c.loop-byte.byte-index c.loop-byte.reader c.loop-byte.invariant (omega arith) (sym c.if-ended.ensures)

pub returns-else-ended : goal.returns-else-ended
returns-else-ended c =
    breaks_end c.args.text.now c.loop-byte.byte-index c.loop-byte.reader c.loop-byte.invariant (omega arith) (sym c.if-ended.ensures)
