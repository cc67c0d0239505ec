-- A walk over the rows of a file gives them all, in order.
use Rattle.std.proofs.Common.{◌≡◌, ℕ, List, [], ◌∷◌, map, Option, ap, ◌∙◌, subst}
use Rattle.std.specs.Iterator.{AlwaysYields}
use Rattle.std.proofs.lemmas.Iterator.{YieldsList}
use Rattle.table_files.specs.declared.rows.Row.{Row}
use Rattle.table_files.specs.declared.rows.Rows.{Rows}
use Rattle.table_files.specs.Grammar.{Values}
use Rattle.table_files.specs.Tables.{Ahead, Walked, row_of}

-- what a step of a walk says of the rows before it
abbrev pub Steps : Rows → Option Row → Rows → Type 0
Steps from answer to = (n : ℕ) (records : List Values) → Ahead n from records → Walked n records answer to

runs : (walk : Rows) (n : ℕ) (records : List Values) → Ahead n walk records → AlwaysYields Steps (λ row. row) walk (map row_of records)
runs walk n [] ahead = λ row to step. let (values, others, e, same, after) = step n [] ahead in cc
runs walk n (values ∷ records) ahead = (
  λ to step. let e = step n (values ∷ records) ahead in cc,
  λ row to step.
      let (first, others, e, same, after) = step n (values ∷ records) ahead in
      let here : first ≡ values = cc in
      let left : others ≡ records = cc in
      (same ∙ ap row_of here, runs to n records (subst (Ahead n to) left after)),
)

pub walk_gives : (walk : Rows) (n : ℕ) (records : List Values) → Ahead n walk records → YieldsList Steps (λ row. row) walk (map row_of records)
walk_gives walk n records ahead = record { runs = runs walk n records ahead }
