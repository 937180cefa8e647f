-- `guards::over_constant` meets its contract. Assumes nothing.
use Rattle.guards.proofs.Guards.{over-constant}
use Rattle.guards.proofs.over_constant.Goals as goal

pub returns : goal.returns
returns c =
    over-constant (rw c.of_kind.ensures at c.node_behind-constant.ensures.behind) c.node_behind-constant.auto.out
    (rw c.of_kind-2.ensures at c.node_behind.ensures.behind) c.node_behind.ensures.lower_bound
