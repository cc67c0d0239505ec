use Rattle.std.proofs.Common.{◌+◌, ◌/◌, ◌%◌, ◌^◌, ◌<◌, [], ◌∷◌, length, decimal, sym, ap, ◌∙◌, arith, length-append, rules}
use Rattle.std.proofs.lemmas.Fmt.{decimal_digit, decimal_step}
use Rattle.text.specs.Over.{over}
use Rattle.text.proofs.Writing.{then, byte_over}
use Rattle.text.proofs.+put_digits.Goals as goal

pub bounds-out-at : goal.bounds-out-at
bounds-out-at t c = omega (arith, ap length (decimal_digit c.args.number c.if-number-lt10.true))

pub returns-then-number-lt10 : goal.returns-then-number-lt10
returns-then-number-lt10 t c =
    let e = decimal_digit c.args.number c.if-number-lt10.true in
    record {
      ends = ap (λ s. c.args.at + length s) (sym e);
      wrote = byte_over c.args.out.now c.args.at (48 + c.args.number) (omega (arith, ap length e)) ∙ ap (over c.args.out.now c.args.at) (sym e);
    }

pub put_digits-last-requires : goal.put_digits-last-requires
put_digits-last-requires t c =
    let w : c.args.number < 2 ^ 64 = search rules in
    let e = decimal_step c.args.number c.if-number-lt10.false w in
    (search rules, omega (arith, ap length e, length-append (decimal (c.args.number / 10)) ((48 + c.args.number % 10) ∷ [])))

pub bounds-out-last : goal.bounds-out-last
bounds-out-last t c =
    let w : c.args.number < 2 ^ 64 = search rules in
    let e = decimal_step c.args.number c.if-number-lt10.false w in
    omega (arith, ap length e, length-append (decimal (c.args.number / 10)) ((48 + c.args.number % 10) ∷ []), c.put_digits-last.ensures.ends, c.put_digits-last.auto.out)

pub returns : goal.returns
returns t c =
    let w : c.args.number < 2 ^ 64 = search rules in
    let e = decimal_step c.args.number c.if-number-lt10.false w in
    let d = (48 + c.args.number % 10) ∷ [] in
    let l = ap length e ∙ length-append (decimal (c.args.number / 10)) d in
    let a = c.put_digits-last.ensures in
    record {
      ends = omega (arith, l, a.ends);
      wrote = then c.args.out.now c.put_digits-last.new.out _ c.args.at c.put_digits-last.result (decimal (c.args.number / 10)) d (omega arith) a.wrote a.ends
          (byte_over c.put_digits-last.new.out c.put_digits-last.result (48 + c.args.number % 10) (omega (arith, l, a.ends, c.put_digits-last.auto.out)))
          ∙ ap (over c.args.out.now c.args.at) (sym e);
    }
