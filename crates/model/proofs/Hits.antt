-- Where Lookup's three words stand in their block. Assumes nothing.
use Prim.Native.Nat.{ℕ, ◌<◌}
use native.Mathlib.Omega.{arith}
use mathlib.Core.Path.{◌≡◌}
use mathlib.Core.Bool.{Bool, true, false}
use mathlib.Core.List.{List, [], ◌∷◌}
use lib.ListN.{length}
use lib.Seq.{drop-cons}
use Rattle.std.specs.Prelude.{if◌then◌else◌, Some}
use Rattle.model.specs.Lists.{part}
use Rattle.model.specs.Blocks.{T, R, call_place, default_place}
use Rattle.model.specs.Tables.{tried, first_that}
use Rattle.model.specs.Refusals.{counts_well}
use Rattle.model.proofs.Every.{All}
use Rattle.model.proofs.Accepted.{counts, OfTable, tried-below}

-- what is found in a list has the property
pub first-has : (P : ℕ → Type 0) (test : ℕ → Bool) (xs : List ℕ) (i : ℕ) → All P xs → first_that test xs ≡ Some i → P i
unfolding first_that
first-has P test [] i h e = let z : ◌≡◌ {A = ℕ} 0 1 = cc in absurd (omega arith)
first-has P test (x ∷ xs) i h e = go (test x) e (first-has P test xs i h.1)
  where
    go : (b : Bool) → (if b then Some x else first_that test xs) ≡ Some i → (first_that test xs ≡ Some i → P i) → P i
    go true k rest = let z : x ≡ i = cc in rw (← z) h.0
    go false k rest = rest k

-- a rule that hits is one of the block's
pub hit-below : (test : ℕ → Bool) (r : List ℕ) (t i : ℕ) → first_that test (tried r t) ≡ Some i → i < R r
hit-below test r t i e = (first-has (OfTable r t) test (tried r t) i (tried-below r t) e).0

pub rule_there : (r : List ℕ) (i : ℕ) → i < R r → call_place r i < length r
rule_there r i h = omega arith

pub default_there : (p r : List ℕ) (t : ℕ) → counts_well p r ≡ true → t < T p → default_place p t < length p
default_there p r t h k = omega (arith, (counts p r h).pipeline_words)

-- three words that begin inside are there
pub part_there : (ws : List ℕ) (at : ℕ) → at < length ws → part ws at 3 ≡ [] → ⊥
part_there ws at h e = let z : ◌≡◌ {A = ℕ} 0 1 = cc (e, drop-cons ws at 0 h) in omega arith
