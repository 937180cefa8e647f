-- `uses::first_misplaced` meets its contract. Assumes nothing.
use Rattle.uses.proofs.Owners.{owned_none}
use Rattle.uses.proofs.first_misplaced.Goals as goal

pub own_bodies-requires : goal.own_bodies-requires
own_bodies-requires c = owned_none c.args.p.now c.requires.nodes
