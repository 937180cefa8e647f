-- `guards::match_behind` meets its contract. Assumes nothing.
use Rattle.std.proofs.Common.{rules}
use Rattle.guards.proofs.Guards.{goes_on, ends}
use Rattle.guards.proofs.match_behind.Goals as goal

pub loop-j-preserved : goal.loop-j-preserved
loop-j-preserved c = goes_on _ _ _ _ _ _ _ _ c.loop-j.invariant (search rules) c.key_behind-to.ensures c.key_behind-to.auto.nodes

pub returns-clause-behind : goal.returns-clause-behind
returns-clause-behind c =
    (ends _ _ _ _ _ _ _ _ c.loop-j.invariant (search rules) c.table_of-table.ensures c.key_count-count.ensures c.of_kind.ensures
    c.node_behind-to.ensures.behind c.node_behind-to.auto.out).0
