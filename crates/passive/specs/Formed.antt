-- What is known of the whole form when its writer has gone over it. Assumes nothing: these are definitions.
use Rattle.std.specs.Prelude.{ℕ, ◌*◌, ◌≤◌, ◌<◌, ◌≡◌, List, length}
use Rattle.model.specs.Blocks.{words}
use Rattle.model.specs.Emit.{Emitted, form_limit}
use Rattle.model.specs.Calls.{over}
use Rattle.variables.specs.declared.Made.{Made}

-- n and V, or only that it is too large
pub record Counts (w : Emitted) (m : Made) : Type 0 where
  pub count : length w.nodes ≤ form_limit → m.at ≡ length w.nodes
  pub large : form_limit < length w.nodes → form_limit < m.at
  pub variables : length w.nodes ≤ form_limit → m.vars.next ≡ length w.widths

-- the areas, where they have room
pub record Leaves (w : Emitted) (nodes nodes' widths widths' : List ℕ) : Type 0 where
  pub nodes_area : length w.nodes ≤ form_limit → 4 * length w.nodes ≤ length nodes → nodes' ≡ over (words w.nodes) nodes
  pub widths_area : length w.nodes ≤ form_limit → length w.widths ≤ length widths → widths' ≡ over w.widths widths
