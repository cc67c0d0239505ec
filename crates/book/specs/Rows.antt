-- Rows as the ledger keeps them.
use Rattle.std.specs.Prelude.{ℕ, true, false, List, [], ◌++◌, length, drop, replicate}
use Rattle.table_files.specs.declared.rows.Row.{Row as FileRow}
use Rattle.book.specs.declared.rows.Row.{Row}

-- the highest sureness, in billionths
abbrev pub billion : ℕ
billion = 1000000000

-- what stands in a place whose row number is not given yet
abbrev pub vacant : Row
vacant = record { table = 0; cells = replicate 4 0; sureness = 0; struck = false }

-- what is read where no row is
abbrev pub absent : Row
absent = record { table = 0; cells = []; sureness = 0; struck = false }

-- four cell places: the cells, and 0 in the places past them
abbrev pub filled : List ℕ → List ℕ
filled cells = cells ++ drop (length cells) (replicate 4 0)

-- a row as it is first kept
abbrev pub new_row : (table : ℕ) (cells : List ℕ) (sureness : ℕ) → Row
new_row t cs s = record { table = t; cells = filled cs; sureness = s; struck = false }

-- a row of a file as a row of a table
abbrev pub from_file : (table : ℕ) → FileRow → Row
from_file t r = record { table = t; cells = r.cells; sureness = r.sureness; struck = false }

-- the same row with another sureness
abbrev pub reweighed : Row → ℕ → Row
reweighed r s = record { table = r.table; cells = r.cells; sureness = s; struck = r.struck }

-- the same row struck: it takes no part in joins any more
abbrev pub struck_out : Row → Row
struck_out r = record { table = r.table; cells = r.cells; sureness = r.sureness; struck = true }
