-- How the variables that the code keeps by value, with the widths in the area that is lent, stand for those of the passive form's
-- definition. Assumes nothing: these are definitions.
use Rattle.std.specs.Prelude.{ℕ, ◌+◌, ◌*◌, ◌≤◌, ◌≡◌, List, length, take}
use Rattle.model.specs.Blocks.{F}
use Rattle.model.specs.Passive as passive
use Rattle.model.specs.Passive.{next}
use Rattle.model.specs.Calls.{over}
use Rattle.variables.specs.declared.Vars.{Vars}

-- The current variables are the first F of the 32 words. The widths stand at the start of the area, which was `lent` before anything was
-- written; where it is too short for them nothing is said of it.
pub record Holds (p lent area : List ℕ) (v : Vars) (s : passive.Vars) : Type 0 where
  pub current : take (F p) v.current ≡ s.current
  pub new : v.next ≡ next s
  pub widths : next s ≤ length lent → area ≡ over s.widths lent
  pub same : length area ≡ length lent

abbrev pub vars : List ℕ → ℕ → Vars
vars current next = record { current = current; next = next }

-- a node brings at most 33 variables with it: one of its own, or one for each field where two sides join
abbrev pub few : ℕ → ℕ → Type 0
few at next = next ≤ 33 * at + 32
