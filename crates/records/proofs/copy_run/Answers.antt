-- `records::copy_run` meets its contract. Assumes nothing.
use native.Mathlib.Omega.{arith}
use lib.ListN.{length}
use Rattle.std.proofs.lemmas.Grind.{common_steps}
use Rattle.model.specs.Lists.{joined}
use Rattle.records.proofs.Copied.{onto_none, one_more, room_for}
use Rattle.records.proofs.copy_run.Goals as goal

pub loop-i-init : goal.loop-i-init
unfolding joined
loop-i-init c = onto_none c.args.area.now c.args.to

pub loop-i-preserved : goal.loop-i-preserved
loop-i-preserved c =
    let room = room_for c.args.to c.size-each.result c.loop-i.i c.args.run.count (length c.args.area.now) c.loop-i-test.true (rw c.size-each.ensures c.requires.area_has_room) in
    one_more _ _ _ _ c.args.run.end _ _ c.size-each.ensures c.bytes-step.ensures _ _ _ _ c.loop-i.invariant room (rw c.copy_words.ensures (grind (arith, common_steps)))
