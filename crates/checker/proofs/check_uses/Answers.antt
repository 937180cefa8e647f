-- `checker::check_uses` meets its contract. Assumes nothing.
use Rattle.model.specs.Refusals.{use_row, uses}
use Rattle.checker.proofs.check_uses.Goals as goal

pub returns : goal.returns
returns c = let p = c.args.l.now.pipeline in c.refused_at.ensures (use_row p (uses p)) c.first_miscounted.ensures (λ i x e. rw e)
