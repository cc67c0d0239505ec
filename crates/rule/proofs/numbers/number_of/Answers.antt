use Rattle.std.proofs.Common.{◌≡◌, ◌+◌, ◌-◌, ◌*◌, get_or, arith}
use Rattle.std.proofs.lemmas.Str.Parse.{digit_at}
use Rattle.rule.proofs.Walking.{sofar_more, sofar_stop}
use Rattle.rule.proofs.numbers.number_of.Goals as goal
use Rattle.rule.proofs.numbers.number_of.Goals.{After-is_lawful}

pub overflow_sub-digit : goal.overflow_sub-digit
overflow_sub-digit c = let h = digit_at c.args.digits.now c.loop-i.i c.requires.0 c.loop-i-test.true in omega arith

-- the number with one digit more
longer : (c : After-is_lawful) → c.from.result * 10 + c.from-in-loop-i.result ≡ c.loop-i.number * 10 + (get_or c.args.digits.now c.loop-i.i 0 - 48)
longer c = omega (arith, c.from.ensures, c.from-in-loop-i.ensures)

pub returns-then-not-is_lawful : goal.returns-then-not-is_lawful
returns-then-not-is_lawful c =
    let more = longer (goal.at.returns-then-not-is_lawful c).After-is_lawful in
    sofar_stop c.loop-i.invariant c.requires.0 c.loop-i-test.true _ more c.if-not-is_lawful.ensures

pub loop-i-preserved : goal.loop-i-preserved
loop-i-preserved c =
    let more = longer (goal.at.loop-i-preserved c).After-is_lawful in
    sofar_more c.loop-i.invariant c.requires.0 c.loop-i-test.true _ more c.if-not-is_lawful.ensures
