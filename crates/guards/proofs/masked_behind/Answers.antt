-- `guards::masked_behind` meets its contract. Assumes nothing.
use Rattle.guards.proofs.Guards.{masks}
use Rattle.guards.proofs.masked_behind.Goals as goal

pub returns-clause-behind : goal.returns-clause-behind
returns-clause-behind c =
    (masks (rw c.of_kind.ensures at c.node_behind-read.ensures.behind) c.node_behind-read.auto.out c.over_constant-under.ensures
    c.over_constant-under.auto.nodes c.over_constant.ensures).0
