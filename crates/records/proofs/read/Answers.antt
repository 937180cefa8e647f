-- `records::read` meets its contract. Assumes nothing.
use Prim.Native.Nat.{ℕ, ◌*◌, ◌/◌, ◌<◌, ◌≤◌}
use mathlib.Core.Path.{◌≡◌}
use mathlib.Core.Bool.{true, false}
use lib.ListN.{length, take, drop}
use lib.Dec.{eqb}
use native.Mathlib.Omega.{arith}
use Rattle.std.specs.List.{starts_with}
use Rattle.std.proofs.lemmas.Grind.{common_steps}
use Rattle.records.proofs.Reading.{as_read}
use Rattle.records.proofs.read.Goals as goal

pub returns : goal.returns
returns c =
    let rest = drop c.args.at c.args.file.now in
    let step = c.bytes-step.result in
    let inside : c.count-count.result * step ≤ length rest = grind (arith, common_steps) in
    let all : (i : ℕ) → i < c.count-count.result → starts_with eqb (take step (drop (i * step) rest)) c.mark-first.result ≡ true = λ i h. let p = c.count-count.ensures.runs.0 in let item = p.reads i c.args.file (omega (arith, c.count-count.ensures.runs.3)) in grind (arith, common_steps, item) in
    let last : c.count-count.result < length rest / step → starts_with eqb (take step (drop (c.count-count.result * step) rest)) c.mark-first.result ≡ false = λ h. grind (arith, common_steps) in
    as_read _ _ _ _ _ c.mark-first.ensures c.bytes-step.ensures _ c.requires inside all last
