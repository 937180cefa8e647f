-- `lister::lines` meets its contract. Assumes nothing.
use native.Mathlib.Omega.{arith}
use Rattle.model.specs.Lists.{each}
use Rattle.model.specs.Blocks.{plain_node}
use Rattle.model.specs.Listing.{node_lines}
use Rattle.text.proofs.Pieces.{grows-nothing}
use Rattle.lister.proofs.Written.{one_line}
use Rattle.lister.proofs.lines.Goals as goal

pub loop-i-init : goal.loop-i-init
unfolding node_lines each
loop-i-init c = record { grows = grows-nothing _ (omega arith); upper_bound = omega arith }

pub loop-i-preserved : goal.loop-i-preserved
loop-i-preserved c = record {
  grows = one_line (plain_node c.args.nodes.now) _ _ c.node_at.ensures c.loop-i.invariant.grows c.line.ensures.grows;
  upper_bound = omega arith;
}
