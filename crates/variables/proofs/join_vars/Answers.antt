-- `variables::join_vars` meets its contract. Assumes nothing.
use Rattle.std.proofs.Common.{arith}
use Rattle.variables.proofs.Widths.{all-fields}
use Rattle.variables.proofs.join_vars.Goals as goal

pub join_fields-requires-clause-sized : goal.join_fields-requires-clause-sized
join_fields-requires-clause-sized c =
    let all = all-fields c.args.p.now c.widths.result.now c.widths.ensures in
    let few = c.requires.few_fields in
    record { few = omega arith; before = omega arith; left = omega arith; right = omega arith }
