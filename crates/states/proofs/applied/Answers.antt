-- `states::applied` meets its contract. Assumes nothing.
use Rattle.tables.proofs.Fitting.{fitting}
use Rattle.states.proofs.applied.Goals as goal

pub hit-hit-requires : goal.hit-hit-requires
hit-hit-requires c = rw c.values.ensures (fitting _ _ _ c.args.p.now.accepted c.requires.stands.ready.within)
