-- `blocks::Pipeline::widths` meets its contract. Assumes nothing.
use Prim.Native.Nat.{◌+◌, ◌*◌}
use native.Mathlib.Omega.{arith}
use Rattle.blocks.proofs.Parts.{widths-part}
use Rattle.blocks.proofs.Pipeline.widths.Goals as goal

pub returns : goal.returns
returns c = rw c.self.view_is (widths-part c.args.self.now (5 + 1 * c.field_count.result) (rw c.self.view_is at c.self.invariant) (omega arith))
