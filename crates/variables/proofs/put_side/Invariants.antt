-- The invariant of `variables::put_side`. Assumes nothing.
use Rattle.variables.proofs.Equations.{Tying}
use Rattle.variables.proofs.put_side.Given as goal

abbrev pub invariant-loop-i : goal.invariant-loop-i
invariant-loop-i l = Tying l.own l.joined l.node l.at l.initial.nodes l.i l.tied.at l.tied.side l.nodes
