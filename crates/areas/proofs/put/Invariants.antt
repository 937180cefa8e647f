-- The invariants of `areas::put`. Assumes nothing.
use Rattle.areas.proofs.Written.{Put}
use Rattle.areas.proofs.put.Given as goal

abbrev pub invariant-loop-i : goal.invariant-loop-i
invariant-loop-i l = Put l.fn.ws l.fn.area l.i l.area
