-- The invariants of `records::copy_run`. Assumes nothing.
use mathlib.Core.Path.{◌≡◌}
use Rattle.records.specs.Runs.{words, onto}
use Rattle.records.proofs.copy_run.Given as goal

-- the words of the run's first records are copied
abbrev pub invariant-loop-i : goal.invariant-loop-i
invariant-loop-i l = l.area ≡ onto l.to (words l.file l.fn.g (record { at = l.run.at; count = l.i; end = l.run.end })) l.initial.area
