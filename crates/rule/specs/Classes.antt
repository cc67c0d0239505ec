-- The classes of bytes that the reader tells apart. Inner contracts cite them, and the grammar does not.
use Rattle.std.specs.Prelude.{ℕ, Bool, cond, ◌&&◌, List, ◌==◌, nat_le}
use Rattle.std.specs.List.{prefix_len}
use denote.Enum.Bare.{sameb}
use Rattle.rule.specs.contracts.tokens.Class.{the_type}
use Rattle.rule.specs.declared.tokens.Class.{Class}
use Rattle.rule.specs.declared.tokens.Class.TheVariants.{Blank, Name, Open, Close, Colon, Comma, Table, Variable, Digit, Other}

-- from one byte to another
abbrev pub between : ℕ → ℕ → ℕ → Bool
between low high b = nat_le low b && nat_le b high

-- the class of a byte
abbrev pub class : ℕ → Class
class b =
    cond (b == 32) Blank
    (cond (b == 81) Name
    (cond (b == 40) Open
    (cond (b == 41) Close
    (cond (b == 58) Colon
    (cond (b == 44) Comma
    (cond (between 65 72 b) Table
    (cond (between 97 122 b) Variable
    (cond (between 48 57 b) Digit Other))))))))

-- whether two classes are the same
abbrev pub is : Class → Class → Bool
is = sameb the_type

-- how many bytes of the class a text begins with
abbrev pub run_of : Class → List ℕ → ℕ
run_of c = prefix_len (λ b. is (class b) c)
