-- `guards::guard_behind` meets its contract. Assumes nothing.
use Rattle.guards.proofs.Guards.{assumed, assumed_not}
use Rattle.guards.proofs.guard_behind.Goals as goal

pub returns-then-negated-clause-behind : goal.returns-then-negated-clause-behind
returns-then-negated-clause-behind c =
    assumed_not _ _ _ _ 0 c.match_behind-m.ensures.behind c.match_behind-m.auto.nodes c.if-negated.true
    (rw c.of_kind.ensures at c.node_behind-other.ensures.behind) c.node_behind-other.auto.out
    (rw c.of_kind-then-negated.ensures at c.node_behind.ensures.behind)

pub returns-clause-behind : goal.returns-clause-behind
returns-clause-behind c =
    assumed _ _ _ _ 0 c.match_behind-m.ensures.behind c.match_behind-m.auto.nodes c.if-negated.false
    (rw c.of_kind-2.ensures at c.node_behind-2.ensures.behind)
