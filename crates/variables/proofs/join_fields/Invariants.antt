-- The invariant of `variables::join_fields`. Assumes nothing.
use Rattle.model.specs.Passive.{new_where_differs}
use Rattle.variables.proofs.Rules.{Joining}
use Rattle.variables.proofs.join_fields.Given as goal

abbrev pub invariant-loop-i : goal.invariant-loop-i
invariant-loop-i l = Joining new_where_differs l.ws l.before l.left l.right l.new l.initial.widths l.i l.current l.next l.widths
