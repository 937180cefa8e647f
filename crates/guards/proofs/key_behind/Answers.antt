-- `guards::key_behind` meets its contract. Assumes nothing.
use Rattle.guards.proofs.Guards.{key-nodes}
use Rattle.guards.proofs.key_behind.Goals as goal

pub returns : goal.returns
returns c =
    key-nodes _ _ _ _ _ c.table_of-table.ensures c.key-field.ensures c.width-width.ensures c.mask-mask.ensures c.value-value.ensures c.word_in.ensures
    c.masked_behind-own.ensures.behind c.masked_behind-own.auto.nodes (rw c.of_kind.ensures at c.node_behind.ensures.behind)
    c.node_behind.ensures.lower_bound
