-- `checker::counts_well` meets its contract. Assumes nothing.
use borrow.Author.Tests.{lt-leb, le-leb}
use Rattle.model.specs.Refusals.{counts_well}
use Rattle.checker.proofs.counts_well.Goals as goal

pub returns-then-p-lt-HEAD : goal.returns-then-p-lt-HEAD
unfolding counts_well
returns-then-p-lt-HEAD c = rw (lt-leb _ _ c.if-p-lt-HEAD.true)

pub returns : goal.returns
unfolding counts_well
returns c = rw (le-leb 5 _ c.if-p-lt-HEAD.false, c.limits_well.ensures, c.length.ensures)
