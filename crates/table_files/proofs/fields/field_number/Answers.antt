use Rattle.std.proofs.Common.{rules}
use Rattle.table_files.proofs.Contents.{number_of}
use Rattle.table_files.proofs.fields.field_number.Goals as goal

pub returns-else-is_empty : goal.returns-else-is_empty
returns-else-is_empty c = λ v h. number_of c.args.last c.args.content.now v h c.number.result (search rules) c.number.ensures
