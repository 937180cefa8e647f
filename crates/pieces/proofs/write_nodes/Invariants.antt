-- The nodes so far stand there. Assumes nothing.
use mathlib.Core.Path.{◌≡◌}
use lib.ListN.{take}
use Rattle.model.specs.Blocks.{words}
use Rattle.model.specs.Calls.{over}
use Rattle.pieces.proofs.write_nodes.Given as goal

abbrev pub invariant-loop-i : goal.invariant-loop-i
invariant-loop-i l = l.out ≡ over (words (take l.i l.fn.nodes)) l.fn.out
