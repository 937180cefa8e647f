-- `checker::Callable::call_well` meets its contract. Assumes nothing.
use native.Mathlib.Omega.{arith}
use Rattle.std.proofs.Common.{rules}
use Rattle.checker.proofs.Passed.{datum_at, datum_well, call_there, call_nowhere}
use Rattle.checker.proofs.Callable.call_well.Goals as goal

pub returns-then-action-action_count : goal.returns-then-action-action_count
returns-then-action-action_count c =
    let p = c.args.self.now.pipeline.now in
    let ws = c.args.ws.now in
    let at = c.args.at in
    call_there p ws at _ (omega arith) (c.every.ensures (datum_well p ws at) (λ j r l e. rw (datum_at p ws at j l) (search rules)))

pub returns-else-action-action_count : goal.returns-else-action-action_count
returns-else-action-action_count c = call_nowhere c.args.self.now.pipeline.now c.args.ws.now c.args.at (omega arith)
