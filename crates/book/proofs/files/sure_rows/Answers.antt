use Rattle.std.proofs.Common.{◌<◌, map, rules}
use borrow.Author.Tests.{tests}
use Rattle.std.proofs.lemmas.Iterator.{IsFirst-from_position}
use Rattle.std.proofs.lemmas.List.Elements.{All-from_all_within}
use Rattle.table_files.specs.Tables.{row_of}
use Rattle.book.specs.Inner.{Sure}
use Rattle.book.specs.Rows.{billion}
use Rattle.book.proofs.Loading.{first_unsure}
use Rattle.book.proofs.Walking.{walk_gives}
use Rattle.book.proofs.files.sure_rows.Goals as goal

pub returns-in-Some : goal.returns-in-Some
returns-in-Some c = λ n records ahead v.
    let first = IsFirst-from_position _ _ c.position.result (λ r. billion < r.sureness) Sure c.position.ensures.ran (walk_gives c.args.rows n records ahead) (λ x q k. search (rules, tests)) (λ x q k. search (rules, tests)) in
    let (here, high, sure) = rw c.in-Some.is at first in
    first_unsure 2 c.args.field c.in-Some.number (map row_of records) v here high sure

pub returns-in-None : goal.returns-in-None
returns-in-None c = λ n records ahead.
    let first = IsFirst-from_position _ _ c.position.result (λ r. billion < r.sureness) Sure c.position.ensures.ran (walk_gives c.args.rows n records ahead) (λ x q k. search (rules, tests)) (λ x q k. search (rules, tests)) in
    All-from_all_within Sure (map row_of records) (rw c.in-None.is at first)
