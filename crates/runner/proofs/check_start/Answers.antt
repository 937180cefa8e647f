-- `runner::check_start` meets its contract. Assumes nothing.
use Rattle.std.proofs.lemmas.Result.{err_from_is_err_and}
use Rattle.runner.proofs.Started.{start_refuses, started}
use Rattle.runner.proofs.check_start.Goals as goal

pub returns-in_err-p : goal.returns-in_err-p
returns-in_err-p c =
    let q = err_from_is_err_and c.from_residual.result c.from_residual.ensures.1 in
    rw (q.1, q.2) (start_refuses c.args.pipeline.now c.args.rules.now c.args.packet.now _ c.in_err-p.ensures.answers)

pub returns : goal.returns
returns c = started _ _ _ _ c.in_ok-p.ensures.blocks.0 c.in_ok-p.ensures.blocks.1 c.in_ok-check_packet.ensures
