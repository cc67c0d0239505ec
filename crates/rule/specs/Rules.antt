-- What the reader of a rule text promises.
use Rattle.std.specs.Prelude.{◌≡◌, ℕ, ◌<◌, ◌≤◌, ◌⊎◌, ◌↔◌, List, map, length, Ok, Err, Result}
use Rattle.rule.specs.declared.rules.Atom.{Atom}
use Rattle.rule.specs.declared.rules.Rule.{Rule}
use Rattle.rule.specs.declared.refusal.Refusal.{Refusal}
use Rattle.lists.specs.Items.{items_of}
use Rattle.rule.specs.Grammar.{Said, Says, Lawful, BreaksAt}
use Rattle.rule.specs.Kept.{kept}

-- the atoms of a rule
abbrev pub atoms_of : Rule → List Atom
atoms_of r = items_of r.atoms

-- where a text is refused: at 512, if it is longer; else where it breaks the grammar
abbrev pub Refused : List ℕ → ℕ → Type 0
Refused raw at = ((512 < length raw) × (at ≡ 512)) ⊎ ((length raw ≤ 512) × BreaksAt raw at)

-- what `read` answers
pub record Answered (raw : List ℕ) (answer : Result Rule Refusal) : Type 0 where
  -- a rule has the atoms that the text says
  pub says : (rule : Rule) → answer ≡ Ok rule → (atoms : List Said) × Says raw atoms × (atoms_of rule ≡ map kept atoms)
  -- it comes exactly of a lawful text of at most 512 bytes
  pub ok : ((rule : Rule) × (answer ≡ Ok rule)) ↔ ((length raw ≤ 512) × Lawful raw)
  -- a refusal comes exactly at its place
  pub err : (at : ℕ) → (answer ≡ Err (record { at = at })) ↔ Refused raw at
  -- no text says two lists of atoms, and none says an empty one
  pub one : (atoms others : List Said) → Says raw atoms → Says raw others → atoms ≡ others
  pub some : (atoms : List Said) → Says raw atoms → 0 < length atoms
