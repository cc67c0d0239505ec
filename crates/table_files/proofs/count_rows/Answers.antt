use Rattle.table_files.proofs.Through.{judged_count}
use Rattle.table_files.proofs.count_rows.Goals as goal

pub returns : goal.returns
returns c = λ rows h. judged_count (c.judge.ensures rows h) c.args.fields (λ r p. p.1) (λ r f p. p.1)
