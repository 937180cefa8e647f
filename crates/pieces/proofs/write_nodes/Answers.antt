-- `pieces::write_nodes` meets its contract. Assumes nothing.
use native.Mathlib.Omega.{arith}
use mathlib.Core.Path.{◌≡◌, refl}
use lib.ListN.{length}
use lib.Seq.{take-length}
use Rattle.model.specs.Blocks.{words}
use Rattle.model.proofs.NodeList.{length-words}
use Rattle.pieces.proofs.Pieces.{put-next}
use Rattle.pieces.proofs.write_nodes.Goals as goal

pub loop-i-init : goal.loop-i-init
unfolding words
loop-i-init c = refl

pub loop-i-preserved : goal.loop-i-preserved
loop-i-preserved c = put-next c.args.nodes.now c.args.out.now _ c.loop-i-test.true c.loop-i.invariant (omega (arith, c.loop-i.auto.out)) refl c.put.ensures

pub returns-after-loop-i : goal.returns-after-loop-i
returns-after-loop-i c = λ h. let all : c.loop-i.i ≡ length c.args.nodes.now = omega arith in rw (← take-length c.args.nodes.now, ← all) c.loop-i.invariant

pub returns-else-nodes-out : goal.returns-else-nodes-out
returns-else-nodes-out c = λ h. absurd (omega (arith, length-words c.args.nodes.now))
