-- What the rule that hits the packet calls, or the default. Assumes nothing.
use Prim.Native.Nat.{ℕ, ◌<◌}
use mathlib.Core.Path.{◌≡◌, sym, ◌∙◌}
use mathlib.Core.List.{List}
use Rattle.std.specs.Prelude.{Option, Some}
use Rattle.model.specs.Blocks.{R}
use Rattle.model.specs.Tables.{hit, matches}
use Rattle.model.proofs.Hits.{hit-below}

pub hit_there : (p r ws : List ℕ) (t : ℕ) {h : Option ℕ} → h ≡ hit p r ws t → (i : ℕ) → h ≡ Some i → i < R r
hit_there p r ws t e i d = hit-below (matches p r ws) r t i (sym e ∙ d)
