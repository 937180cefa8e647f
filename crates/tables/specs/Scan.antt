-- How far a scan over the rules has come. Assumes nothing: these are definitions.
use Rattle.std.specs.Prelude.{ℕ, ◌<◌, ◌≡◌, Bool, true, false, List, Option, Some, None}
use Rattle.bits.specs.Width as bits
use Rattle.model.specs.Lists.{each, those, word}
use Rattle.model.specs.Blocks.{R, key, value, mask}
use Rattle.model.specs.Tables.{tried_before, of_table, ordered, first_that}

-- key j of rule i, whose table is t, matches
abbrev pub key_matches : List ℕ → List ℕ → List ℕ → ℕ → ℕ → ℕ → Bool
key_matches p r packet i t j = bits.under (mask r i j) (value r i j) (word packet (key p t j))

-- those below n that belong, in the order that `before` says
unfoldable pub ordered_to : (ℕ → ℕ → Bool) → (ℕ → Bool) → ℕ → List ℕ
ordered_to before own n = ordered before (those own (each (λ i. i) n))

-- of the rules of table t below n, the first tried of which the test holds
unfoldable pub first_to : List ℕ → ℕ → (ℕ → Bool) → ℕ → Option ℕ
first_to r t test n = first_that test (ordered_to (tried_before r) (of_table r t) n)

-- i stands before what is found; before the default everything does
abbrev pub precedes : (ℕ → ℕ → Bool) → ℕ → Option ℕ → Bool
precedes before i (Some j) = before i j
precedes before i None = true

-- what is found is a rule, and none behind it is tried before it
abbrev pub Settled : List ℕ → Option ℕ → Type 0
Settled r (Some i) = (i < R r) × ((j : ℕ) → i < j → j < R r → tried_before r j i ≡ false)
Settled r None = ⊥
