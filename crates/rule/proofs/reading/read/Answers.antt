use Rattle.std.proofs.Common.{refl, inl}
use Rattle.std.proofs.lemmas.Result.{err_from_is_err_and}
use Rattle.rule.proofs.Faults.{ok_answered, err_answered, refused_answered}
use Rattle.rule.proofs.Gathering.{no_atom, all_said, keeps_after, gathered_more, ended_here, no_end}
use Rattle.rule.proofs.reading.read.Goals as goal

pub returns-then-text-gt-LONGEST : goal.returns-then-text-gt-LONGEST
returns-then-text-gt-LONGEST c = err_answered c.args.text.now 512 (inl (c.if-text-gt-LONGEST.true, refl))

pub returns-in_err-head : goal.returns-in_err-head
returns-in_err-head c =
    let p = err_from_is_err_and c.from_residual.result c.from_residual.ensures.1 in
    let begin = c.new-reader.ensures in
    rw (p.1, p.2) (refused_answered c.args.text.now _ c.if-text-gt-LONGEST.false (rw (begin.same_text, begin.first) at c.in_err-head.ensures))

pub returns-in_err-atom : goal.returns-in_err-atom
returns-in_err-atom c =
    let p = err_from_is_err_and c.from_residual-in_err-atom.result c.from_residual-in_err-atom.ensures.1 in
    rw (p.1, p.2) (refused_answered c.args.text.now _ c.if-text-gt-LONGEST.false (no_atom c.loop-reader.invariant.1 _ c.in_err-atom.ensures))

pub loop-reader-preserved : goal.loop-reader-preserved
loop-reader-preserved c =
    let g = c.loop-reader.invariant.1 in
    let a = c.in_ok-atom.ensures in
    (all_said g a, gathered_more g a c.push.new.self c.push.ensures c.in-Comma.ensures)

pub returns-in-End : goal.returns-in-End
returns-in-End c =
    let g = c.loop-reader.invariant.1 in
    let a = c.in_ok-atom.ensures in
    ok_answered c.args.text.now c.push.new.self (all_said g a) c.if-text-gt-LONGEST.false
    (ended_here g a c.in-End.ensures) (keeps_after g a c.push.new.self c.push.ensures)

pub returns-in_default : goal.returns-in_default
returns-in_default c =
    rw c.place.ensures
    (refused_answered c.args.text.now _ c.if-text-gt-LONGEST.false
    (no_end c.loop-reader.invariant.1 c.in_ok-atom.ensures c.next_token.ensures c.in_default.not-Comma c.in_default.not-End))
