use Rattle.table_files.proofs.Through.{judged_checked}
use Rattle.table_files.proofs.check_rows.Goals as goal

pub returns : goal.returns
returns c = λ rows h few. judged_checked (c.judge.ensures rows h) few (λ r o p. p.1)
