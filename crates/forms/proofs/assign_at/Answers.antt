-- `forms::assign_at` meets its contract. Assumes nothing.
use Rattle.forms.proofs.Writes.{assign_writes}
use Rattle.forms.proofs.assign_at.Goals as goal

pub returns : goal.returns
returns c = assign_writes c.tree_behind-x.ensures.behind c.tree_behind-x.auto.nodes _ _ _ c.requires.value (rw c.of_kind.ensures at c.node_behind-y.ensures.behind) c.node_behind-y.auto.out (rw c.of_kind-equal.ensures at c.node_behind-z.ensures.behind) c.node_behind-z.auto.out (rw c.of_kind-2.ensures at c.node_behind.ensures.behind) (c.fresh.ensures.next_value, c.fresh.ensures.holds)
