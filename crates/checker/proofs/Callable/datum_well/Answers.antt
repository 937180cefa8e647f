-- `checker::Callable::datum_well` meets its contract. Assumes nothing.
use Rattle.model.proofs.Accepted.{parameter_narrow}
use Rattle.checker.proofs.Callable.datum_well.Goals as goal

pub fits-requires : goal.fits-requires
fits-requires c =
    let action = c.args.action in
    rw c.parameter_width-width.ensures
    (parameter_narrow _ action c.args.j (c.args.self.now.actions.at action c.requires.action_bound) c.requires.j_bound)
