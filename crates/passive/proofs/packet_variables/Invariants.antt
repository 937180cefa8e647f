-- The invariants of `passive::packet_variables`. Assumes nothing.
use Rattle.passive.proofs.Formed.{Numbered}
use Rattle.passive.proofs.packet_variables.Given as goal

abbrev pub invariant-loop-i : goal.invariant-loop-i
invariant-loop-i l = Numbered l.current l.i
