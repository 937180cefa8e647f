-- The invariants of `tables::first_tried`: what was found below i is the best, and stands there. Assumes nothing.
use Rattle.std.specs.Prelude.{◌≡◌, ℕ, Bool, false, ◌<◌, Some}
use Rattle.model.specs.Blocks.{R}
use Rattle.tables.specs.Scan.{first_to}
use Rattle.tables.proofs.first_tried.Given as goal

abbrev pub invariant-loop-i : goal.invariant-loop-i
invariant-loop-i g l = record {
  found : (b : ℕ → Bool) → ((i : ℕ) (x : Bool) → i < R l.r → goal.F-post g l.candidate i x → x ≡ b i)
      → ((i : ℕ) → i < l.start → b i ≡ false) → l.best ≡ first_to l.r l.t b l.i;
  below : (j : ℕ) → l.best ≡ Some j → j < l.i;
}
