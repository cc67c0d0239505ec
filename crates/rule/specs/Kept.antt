-- Atoms as they are kept.
use Rattle.std.specs.Prelude.{ℕ, ◌+◌, Bool, true, cond, ◌&&◌, ◌++◌, length, take, replicate, nat_lt, slice_set}
use Rattle.std.specs.List.{list_all}
use Rattle.rule.specs.declared.rules.Atom.{Atom}
use Rattle.rule.specs.declared.rules.Term.{Term}
use Rattle.rule.specs.declared.rules.Term.TheVariants.{Variable, Constant}
use Rattle.rule.specs.Grammar.{Said}

-- what stands in a place past the terms
abbrev pub filler : Term
filler = Variable 0

-- an atom as it is kept: its table, its first four terms, and how many it has
abbrev pub kept : Said → Atom
kept a = record { table = a.table; terms = take 4 (a.terms ++ replicate 4 filler); count = length a.terms }

-- the atom of a table, without terms
abbrev pub empty : ℕ → Atom
empty table = record { table = table; terms = replicate 4 filler; count = 0 }

-- an atom with one term more
abbrev pub with_term : Atom → Term → Atom
with_term a t = record { table = a.table; terms = cond (nat_lt a.count 4) (slice_set a.terms a.count t) a.terms; count = a.count + 1 }

-- a variable is 0 to 25
abbrev pub lettered : Term → Bool
lettered (Variable v) = nat_lt v 26
lettered (Constant n) = true

-- a table is 0 to 7, and the variables are lettered
abbrev pub fits : Atom → Bool
fits a = nat_lt a.table 8 && list_all lettered a.terms
