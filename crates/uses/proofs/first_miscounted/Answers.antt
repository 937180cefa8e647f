-- `uses::first_miscounted` meets its contract. Assumes nothing.
use native.Mathlib.Omega.{arith}
use lib.Dec.{eqb}
use Rattle.std.proofs.Common.{rules}
use Rattle.model.specs.Lists.{times}
use Rattle.model.specs.Refusals.{uses}
use Rattle.uses.proofs.Counts.{counted_once, counted-uses}
use Rattle.uses.proofs.first_miscounted.Goals as goal

pub returns : goal.returns
returns c =
    let p = c.args.p.now in
    let all = counted-uses p c.count_children.ensures c.count_bodies.ensures c.root-root.ensures c.count.ensures in
    rw c.node_count.ensures
    at (c.first_not.ensures (λ i. eqb (times i (uses p)) 1) (λ i r l e. rw (← counted_once all i (omega arith)) (search rules)))
