-- `checker::check_places` meets its contract. Assumes nothing.
use Rattle.model.specs.Refusals.{place_row, under_each}
use Rattle.checker.proofs.check_places.Goals as goal

pub returns : goal.returns
returns c = let p = c.args.l.now.pipeline in c.refused_at.ensures (place_row p (under_each p)) c.first_misplaced.ensures (λ i x e. rw e)
