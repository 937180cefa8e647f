-- `checker::Tabled::rule_well` meets its contract. Assumes nothing.
use native.Mathlib.Omega.{arith}
use Rattle.std.proofs.Common.{rules}
use Rattle.model.specs.Refusals.{pair_well}
use Rattle.checker.proofs.Passed.{rule_there, rule_nowhere}
use Rattle.checker.proofs.Tabled.rule_well.Goals as goal

pub returns-then-t-table_count : goal.returns-then-t-table_count
returns-then-t-table_count c =
    let pairs = c.every-pairs.ensures (pair_well c.args.self.now.calls.pipeline.now c.args.r.now c.args.i) (λ j r l e. search rules) in
    rule_there _ _ _ c.table_of.result c.table_of.ensures _ (omega arith)
    (rw (pairs, c.call_well.ensures, c.words.ensures, c.call_place.ensures))

pub returns-else-t-table_count : goal.returns-else-t-table_count
returns-else-t-table_count c = rule_nowhere _ _ _ c.table_of.result c.table_of.ensures (omega arith)
