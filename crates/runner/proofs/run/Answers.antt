-- `runner::run` meets its contract. Assumes nothing.
use native.Mathlib.Omega.{arith}
use Rattle.std.proofs.lemmas.Result.{err_from_is_err_and}
use Rattle.runner.proofs.Answered.{run_refuses, room_refuses, run_refused, run_finishes}
use Rattle.runner.proofs.run.Goals as goal

pub returns-in_err-p : goal.returns-in_err-p
returns-in_err-p c =
    let q = err_from_is_err_and c.from_residual.result c.from_residual.ensures.1 in
    rw (q.1, q.2) (run_refuses _ _ _ _ c.in_err-p.ensures _ _)

pub returns-then-end-count : goal.returns-then-end-count
returns-then-end-count c = room_refuses c.in_ok-p.ensures _ _ _ c.field_count-count.ensures c.if-end-count.true

pub returns-in_err-e : goal.returns-in_err-e
returns-in_err-e c =
    let q = err_from_is_err_and c.from_residual-in_err-e.result c.from_residual-in_err-e.ensures.1 in
    rw (q.1, q.2) (run_refused c.in_ok-p.ensures _ _ (omega arith) _ c.in_err-e.ensures)

pub returns : goal.returns
returns c = run_finishes c.in_ok-p.ensures _ _ (omega arith) _ c.in_ok-e.ensures _ _ c.finish.ensures
