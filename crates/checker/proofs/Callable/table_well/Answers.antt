-- `checker::Callable::table_well` meets its contract. Assumes nothing.
use Rattle.model.specs.Refusals.{table_well}
use Rattle.checker.proofs.Callable.table_well.Goals as goal

pub returns : goal.returns
unfolding table_well
returns c = rw (c.key_count.ensures, c.keys_well.ensures, c.call_well.ensures, c.words.ensures.value, c.default_place.ensures)
