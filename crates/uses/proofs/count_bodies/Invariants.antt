-- The invariants of `uses::count_bodies`. Assumes nothing.
use Rattle.model.specs.Lists.{each}
use Rattle.model.specs.Blocks.{body}
use Rattle.uses.specs.Counts.{Adds}
use Rattle.uses.proofs.count_bodies.Given as goal

abbrev pub invariant-loop-k : goal.invariant-loop-k
invariant-loop-k l = Adds (each (body l.p) l.k) l.initial.counts l.counts
