-- The rules of a table one after the other, in the order in which they are tried. Assumes nothing: these are definitions.
use Rattle.std.specs.Prelude.{ℕ, Bool, true, List, [], ◌∷◌, eqb, ltb, if◌then◌else◌, Option, Some, None}
use Rattle.model.specs.Blocks.{R}
use Rattle.model.specs.Tables.{tried_before, tried, first_that}

-- rule i is tried after a rule; behind a number that no rule has, every rule is
abbrev pub comes_after : List ℕ → ℕ → ℕ → Bool
comes_after r after i = if ltb after (R r) then tried_before r after i else true

-- the rule of table t that is tried next, or the default
abbrev pub next_after : List ℕ → ℕ → ℕ → Option ℕ
next_after r t after = first_that (comes_after r after) (tried r t)

-- a list from an element on
unfoldable pub from : ℕ → List ℕ → List ℕ
from i [] = []
from i (j ∷ js) = if eqb i j then j ∷ js else from i js

-- the rules of table t from a hit on
abbrev pub rest_of : List ℕ → ℕ → Option ℕ → List ℕ
rest_of r t (Some i) = from i (tried r t)
rest_of r t None = []
