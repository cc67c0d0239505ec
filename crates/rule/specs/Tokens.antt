-- Where a token stands, and how long it is.
use Rattle.std.specs.Prelude.{ℕ, length}
use Rattle.rule.specs.declared.tokens.Token.{Token}
use Rattle.rule.specs.declared.tokens.Token.TheVariants.{Table, Variable, Constant, Open, Close, Comma, Other, End}

-- the place of a token's first byte
abbrev pub place_of : Token → ℕ
place_of (Table s at) = at
place_of (Variable s at) = at
place_of (Constant s at) = at
place_of (Open at) = at
place_of (Close at) = at
place_of (Comma at) = at
place_of (Other at) = at
place_of (End at) = at

-- how many bytes a reader goes over with a token
abbrev pub length_of : Token → ℕ
length_of (Constant s at) = length s.now
length_of (Other at) = 0
length_of (End at) = 0
length_of _ = 1
