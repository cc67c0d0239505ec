-- What is promised of a constant's number, by the reader's steps. Inner contracts cite it.
use Rattle.std.specs.Prelude.{◌≡◌, ℕ, ◌+◌, List, [], ◌++◌, length, Ok, Err, Result}
use Rattle.std.specs.Str.Parse.{digits_value}
use Rattle.rule.specs.declared.refusal.Refusal.{Refusal}
use Rattle.rule.specs.declared.rules.Term.{Term}
use Rattle.rule.specs.Grammar.{Said}
use Rattle.rule.specs.Scanning.{State, scan}

-- the digits of a constant, whatever stands before and behind them
abbrev pub NumberRead : List ℕ → ℕ → Result ℕ Refusal → Type 0
NumberRead ds at (Ok n) =
    (n ≡ digits_value 10 ds)
    × ((d : List Said) (k : ℕ) (ts : List Term) (rest : List ℕ) →
    scan (State.digits d k ts []) at (ds ++ rest) ≡ scan (State.digits d k ts ds) (at + length ds) rest)
NumberRead ds at (Err e) =
    (d : List Said) (k : ℕ) (ts : List Term) (rest : List ℕ) → scan (State.digits d k ts []) at (ds ++ rest) ≡ Err e.at
