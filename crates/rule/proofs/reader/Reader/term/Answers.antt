use Rattle.std.proofs.Common.{arith}
use Rattle.std.proofs.lemmas.Result.{err_from_is_err_and}
use Rattle.rule.proofs.Terms.{variable_read, constant_digits, constant_inside, constant_ok, constant_err, no_term}
use Rattle.rule.proofs.reader.Reader.term.Goals as goal

pub number_of-requires : goal.number_of-requires
number_of-requires c = (constant_digits c.in-Constant.ensures, omega (arith, (constant_inside c.in-Constant.ensures).1))

pub returns-in_err-number_of-in-Constant : goal.returns-in_err-number_of-in-Constant
returns-in_err-number_of-in-Constant c =
    let p = err_from_is_err_and c.from_residual.result c.from_residual.ensures.1 in
    rw (p.1, p.2) (constant_err c.in-Constant.ensures _ c.in_err-number_of-in-Constant.ensures)

pub returns-in-Variable : goal.returns-in-Variable
returns-in-Variable c = variable_read c.in-Variable.ensures

pub returns-in_ok-number_of-in-Constant : goal.returns-in_ok-number_of-in-Constant
returns-in_ok-number_of-in-Constant c = constant_ok c.in-Constant.ensures _ c.in_ok-number_of-in-Constant.ensures

pub returns-in_default : goal.returns-in_default
returns-in_default c = rw c.place.ensures (no_term c.next_token.ensures c.in_default.not-Variable c.in_default.not-Constant)
