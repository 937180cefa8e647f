-- What the evaluators of a pipeline block's nodes rely on. Assumes nothing: this is a definition.
use Rattle.std.specs.Prelude.{ℕ, ◌<◌, ◌≡◌, true, List, get_or, length}
use Rattle.model.specs.Lists.{among}
use Rattle.model.specs.Blocks.{N, widths, pipeline_node}
use Rattle.model.specs.Nodes.{children}
use Rattle.model.specs.Good.{Within, Width}

-- Children stand before their parents, and the packet is within the fields' widths, which are 1 to 32.
pub record Ready (p packet : List ℕ) : Type 0 where
  pub below : (i x : ℕ) → i < N p → among x (children (pipeline_node p i)) ≡ true → x < i
  pub narrow : (i : ℕ) → i < length (widths p) → Width (get_or (widths p) i 0)
  pub within : Within (widths p) packet
