-- What the reader does at a byte, as a table: for inner contracts alone. specs/Grammar says what a lawful text is.
use Rattle.std.specs.Prelude.{ℕ, ◌+◌, Bool, true, false, cond, ◌&&◌, Some, None, Option, ◌==◌, nat_le}
use Rattle.table_files.specs.declared.reader.Class.{Class}
use Rattle.table_files.specs.declared.reader.Class.TheVariants.{Comma, Quote, Cr, Lf, Text, Other}
use Rattle.table_files.specs.declared.reader.State.{State}
use Rattle.table_files.specs.declared.reader.State.TheVariants.{Before, Plain, Quoted, AfterQuote, AfterCr}
use Rattle.table_files.specs.declared.reader.Reader.{Reader}

-- the class of a byte
abbrev pub class_of : ℕ → Class
class_of b =
    cond (b == 44) Comma
    (cond (b == 34) Quote (cond (b == 13) Cr (cond (b == 10) Lf (cond (nat_le 32 b && nat_le b 126) Text Other))))

-- a reader in a state, in field f of record r
abbrev pub at : State → ℕ → ℕ → Reader
at q r f = record { state = q; place = record { «record» = r; field = f } }

-- where the reader goes at a byte of a class; none where the grammar has nothing
abbrev pub next : State → Class → ℕ → ℕ → Option Reader
next Before Comma r f = Some (at Before r (f + 1))
next Before Quote r f = Some (at Quoted r f)
next Before Cr r f = Some (at AfterCr r f)
next Before Lf r f = None
next Before Text r f = Some (at Plain r f)
next Before Other r f = None
next Plain Comma r f = Some (at Before r (f + 1))
next Plain Quote r f = None
next Plain Cr r f = Some (at AfterCr r f)
next Plain Lf r f = None
next Plain Text r f = Some (at Plain r f)
next Plain Other r f = None
next Quoted Comma r f = Some (at Quoted r f)
next Quoted Quote r f = Some (at AfterQuote r f)
next Quoted Cr r f = Some (at Quoted r f)
next Quoted Lf r f = Some (at Quoted r f)
next Quoted Text r f = Some (at Quoted r f)
next Quoted Other r f = None
next AfterQuote Comma r f = Some (at Before r (f + 1))
next AfterQuote Quote r f = Some (at Quoted r f)
next AfterQuote Cr r f = Some (at AfterCr r f)
next AfterQuote Lf r f = None
next AfterQuote Text r f = None
next AfterQuote Other r f = None
next AfterCr Comma r f = None
next AfterCr Quote r f = None
next AfterCr Cr r f = None
next AfterCr Lf r f = Some (at Before (r + 1) 1)
next AfterCr Text r f = None
next AfterCr Other r f = None

-- the same from where a reader is
abbrev pub moved : Reader → Class → Option Reader
moved x class = next x.state class x.place.«record» x.place.field

-- where a field may end
abbrev pub done : State → Bool
done Before = true
done Plain = true
done Quoted = false
done AfterQuote = true
done AfterCr = false

-- whether a byte of this class ends a field that may end
abbrev pub parts : Class → Bool
parts Comma = true
parts Quote = false
parts Cr = true
parts Lf = false
parts Text = false
parts Other = false
