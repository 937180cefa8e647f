-- A text that is written piece by piece into an area of bytes. Assumes nothing: these are definitions.
use Rattle.std.specs.Prelude.{ℕ, ◌+◌, ◌≤◌, ◌≡◌, List, ◌++◌, length, take, drop}
use Rattle.text.specs.declared.Text.{Text}

-- `more` was written behind the first `at` bytes of an area; it ends at `end`, and the bytes past that stay
pub record Adds (more : List ℕ) (at : ℕ) (before : List ℕ) (end : ℕ) (now : List ℕ) : Type 0 where
  pub ends : end ≡ at + length more
  pub room : end ≤ length before
  pub bytes : now ≡ take at before ++ (more ++ drop end before)

-- `more` was written behind a text, in the area that is lent to it
pub record Grows (more : List ℕ) (before now : Text) : Type 0 where
  pub same_area : now.area.ghost_name ≡ before.area.ghost_name
  pub same_length : length now.area.now ≡ length before.area.now
  pub adds : Adds more before.end before.area.now now.end now.area.now
