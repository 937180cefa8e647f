-- `uses::Tree::placed_well` meets its contract. Assumes nothing.
use Rattle.uses.proofs.Placed.{owner_low, placed_parameter, placed-apply, placed_other}
use Rattle.uses.proofs.Tree.placed_well.Goals as goal

pub has_parameter-requires : goal.has_parameter-requires
has_parameter-requires c = owner_low _ c.requires.owned _ c.requires.i_bound

pub returns-in-Parameter : goal.returns-in-Parameter
returns-in-Parameter c =
    let is = c.node-n.ensures in
    placed_parameter _ c.requires.owned _ c.requires.i_bound (rw is at c.kind_in.ensures) (rw is at c.has_parameter.ensures) c.in-Parameter.is

pub returns-in-Apply : goal.returns-in-Apply
returns-in-Apply c =
    placed-apply _ c.requires.owned _ c.requires.i_bound (rw c.node-n.ensures at c.kind_in.ensures) c.is_none.ensures c.in-Apply.is

pub returns-in_default : goal.returns-in_default
returns-in_default c =
    placed_other _ c.requires.owned _ c.requires.i_bound (rw c.node-n.ensures at c.kind_in.ensures) c.in_default.not-Parameter c.in_default.not-Apply
