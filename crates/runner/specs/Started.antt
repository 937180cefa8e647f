-- What Lookup, Run and Confirm rely on once they have started. Assumes nothing: this is a definition.
use Rattle.std.specs.Prelude.{◌≡◌, ℕ, List}
use Rattle.model.specs.Good.{Within}
use Rattle.model.specs.Runs.{packet_widths}
use Rattle.blocks.specs.declared.Program.{Program}

-- the program of these two blocks, and the packet is within its fields' widths
pub record Started (p r packet : List ℕ) (x : Program) : Type 0 where
  pub pipeline : x.pipeline ≡ p
  pub rules : x.rules ≡ r
  pub within : Within (packet_widths p) packet
