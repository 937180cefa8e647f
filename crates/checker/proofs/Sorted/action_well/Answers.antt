-- `checker::Sorted::action_well` meets its contract. Assumes nothing.
use Prim.Native.Nat.{ℕ}
use Rattle.std.proofs.Common.{rules}
use Rattle.model.specs.Refusals.{well_or_zero, action_well}
use Rattle.model.specs.Blocks.{parameter_count, parameter_width}
use Rattle.model.specs.Nodes.{is_width}
use Rattle.checker.proofs.Sorted.action_well.Goals as goal

pub returns : goal.returns
unfolding action_well
returns c =
    let p = c.args.self.now.pipeline.now in
    let i = c.args.i in
    let well = λ (j : ℕ). well_or_zero (parameter_count p i) j (is_width (parameter_width p i j)) (parameter_width p i j) in
    rw (c.statement_at.ensures, c.body.ensures, c.parameter_count.ensures, c.every.ensures well (λ j r l e. search rules))
