-- `states::havoc` meets its contract. Assumes nothing.
use Rattle.states.proofs.Leaves.{havoc_taken}
use Rattle.states.proofs.havoc.Goals as goal

pub returns-then-fits : goal.returns-then-fits
returns-then-fits c = search (havoc_taken, c.in_ok-entry.ensures)
