-- The invariants of `places::first_not`. Assumes nothing.
use Rattle.std.specs.Prelude.{◌≡◌, ℕ, Bool, ◌<◌}
use Rattle.model.specs.Refusals.{each_of}
use Rattle.model.proofs.Loops.{Searched}
use Rattle.places.proofs.first_not.Given as goal

abbrev pub invariant-loop-i : goal.invariant-loop-i
invariant-loop-i g l =
    (b : ℕ → Bool) → ((i : ℕ) (r : Bool) → i < l.fn.count → goal.F-post g l.test i r → r ≡ b i) → Searched (each_of 0 l.fn.count b) l.fn.count l.i
