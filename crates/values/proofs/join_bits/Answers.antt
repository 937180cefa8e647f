-- `values::join_bits` meets its contract. Assumes nothing.
use Rattle.std.proofs.Common.{rules}
use Rattle.bits.proofs.Widths.{join-word}
use Rattle.values.proofs.join_bits.Goals as goal

pub join-requires-clause-y_bound : goal.join-requires-clause-y_bound
join-requires-clause-y_bound c = search (rules, join-word)
