-- What a writer leaves in its memory.
use Rattle.std.specs.Prelude.{◌≡◌, ℕ, ◌+◌, List, length}
use Rattle.text.specs.Over.{over}
use Rattle.text.specs.declared.Writer.{Writer}

-- how many bytes the memory has
abbrev pub room_of : Writer → ℕ
room_of w = length w.out.now

-- a text was written into the same memory, from the writer's place on, and the writer's place is behind it
pub record Wrote (before after : Writer) (text : List ℕ) : Type 0 where
  pub memory : after.out.ghost_name ≡ before.out.ghost_name
  pub room : room_of after ≡ room_of before
  pub bytes : after.out.now ≡ over before.out.now before.at text
  pub place : after.at ≡ before.at + length text
