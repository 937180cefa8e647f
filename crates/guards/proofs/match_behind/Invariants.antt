-- The invariant of `guards::match_behind`. Assumes nothing.
use Rattle.guards.proofs.Guards.{Matched}
use Rattle.guards.proofs.match_behind.Given as goal

abbrev pub invariant-loop-j : goal.invariant-loop-j
invariant-loop-j l = Matched l.p.pipeline l.p.rules l.current l.i l.at l.count l.initial.nodes l.initial.to l.nodes l.to l.j
