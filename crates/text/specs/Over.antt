-- Numbers as text, and memory that a text was written into.
use Rattle.std.specs.Prelude.{ℕ, ◌+◌, List, [], ◌∷◌, ◌++◌, length, take, drop, decimal}

-- the bytes with a text written over them from a place on; what lies before and beyond it stays
abbrev pub over : List ℕ → ℕ → List ℕ → List ℕ
over out at written = take at out ++ (written ++ drop (at + length written) out)

-- numbers in decimal digits with a byte between two of them
abbrev pub numbers_text : (gap : ℕ) → List ℕ → List ℕ
numbers_text gap [] = []
numbers_text gap (n ∷ []) = decimal n
numbers_text gap (n ∷ m ∷ ns) = decimal n ++ (gap ∷ numbers_text gap (m ∷ ns))
