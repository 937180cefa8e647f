-- `checker::Sorted::check_root` meets its contract. Assumes nothing.
use mathlib.Core.Path.{refl, sym, ◌∙◌}
use Rattle.checker.proofs.Judged.{fails-once}
use Rattle.checker.proofs.Sorted.check_root.Goals as goal

pub returns-else-statement_at : goal.returns-else-statement_at
returns-else-statement_at c = record { at = 0; first = fails-once _ (rw c.root.ensures at (sym c.statement_at.ensures ∙ c.if-statement_at.false)); names = refl }
