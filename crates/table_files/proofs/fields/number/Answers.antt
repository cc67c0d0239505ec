use Rattle.std.proofs.Common.{◌≡◌, ℕ, ◌+◌, ◌*◌, ◌<◌, ◌≤◌, List, length, get_or, take, arith, rules}
use Rattle.std.specs.Str.Parse.{digits_value}
use Rattle.std.specs.Int.{IsInRange}
use Rattle.std.specs.Char.{digit_value}
use Rattle.std.proofs.lemmas.Int.Digits.{digits_value_more, digits_more}
use Rattle.std.proofs.lemmas.Str.Parse.{digit_at, digits_value-take-le}
use Rattle.std.proofs.lemmas.Str.{digit_value_digit}
use Rattle.table_files.proofs.fields.number.Goals as goal

-- the first digits write no more than all do
pub more : (ds : List ℕ) (i n : ℕ) → i < length ds → n ≡ digits_value 10 (take i ds) → n * 10 + digit_value (get_or ds i 0) ≤ digits_value 10 ds
more ds i n l e = omega (arith, digits_value_more 10 ds i l, digits_value-take-le 10 ds (i + 1) (omega arith), e)

pub returns-then-not-is_ascii_digit : goal.returns-then-not-is_ascii_digit
returns-then-not-is_ascii_digit c = λ k. let d = digit_at c.args.digits.now c.loop-digit.digit-index k.2 (omega arith) in search rules

pub returns-in_err-checked_mul : goal.returns-in_err-checked_mul
returns-in_err-checked_mul c =
    let m = more c.args.digits.now c.loop-digit.digit-index c.loop-digit.n c.loop-digit-test.true c.loop-digit.invariant.1 in
    rw c.from_residual.ensures (λ k. c.in_err-checked_mul.ensures (omega (arith, m, k.3)))

pub returns-in_err-n : goal.returns-in_err-n
returns-in_err-n c =
    let m = more c.args.digits.now c.loop-digit.digit-index c.loop-digit.n c.loop-digit-test.true c.loop-digit.invariant.1 in
    let b = get_or c.args.digits.now c.loop-digit.digit-index 0 in
    let r : IsInRange 48 57 b = search rules in
    let d = digit_value_digit b r in
    rw c.from_residual-in_err-n.ensures (λ k. c.in_err-n.ensures (omega (arith, m, k.3, d, c.from.ensures, c.in_ok-checked_mul.ensures)))

pub loop-digit-preserved : goal.loop-digit-preserved
loop-digit-preserved c =
    let ds = c.args.digits.now in
    let i = c.loop-digit.digit-index in
    let lt : i < length ds = omega arith in
    let b = get_or ds i 0 in
    let r : IsInRange 48 57 b = search rules in
    let v : digit_value b + 48 ≡ b = digit_value_digit b r in (
      digits_more 10 ds i lt c.loop-digit.invariant.0 (omega arith),
      omega (arith, digits_value_more 10 ds i lt, c.loop-digit.invariant.1, c.from.ensures, c.in_ok-checked_mul.ensures, c.in_ok-n.ensures),
      omega (arith, c.in_ok-n.ensures),
    )
