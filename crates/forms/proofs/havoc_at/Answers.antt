-- `forms::havoc_at` meets its contract. Assumes nothing.
use Rattle.forms.proofs.Writes.{havoc_writes}
use Rattle.forms.proofs.havoc_at.Goals as goal

pub returns : goal.returns
returns c = havoc_writes _ _ _ (rw c.of_kind.ensures at c.node_behind.ensures.behind) (c.fresh.ensures.next_value, c.fresh.ensures.holds)
