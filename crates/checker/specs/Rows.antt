-- What rows of Check's table answer, and what those that have passed let the later ones rely on. Assumes nothing: these are definitions.
use Rattle.std.specs.Prelude.{ℕ, ◌<◌, ◌≡◌, true, List, [], drop, Option, Some, Result, Ok, Err}
use Rattle.model.specs.Lists.{first_not}
use Rattle.model.specs.Answers.{refused, told, checked, refusal_of}
use Rattle.model.specs.Refusals.{Row, judge, once, counts_well, check_rows}
use Rattle.model.specs.declared.Refusal.{Refusal}

-- a row that has passed: all is well at each of its places
pub record Passes (row : Row) : Type 0 where
  pub at : (i : ℕ) → i < row.count → row.well i ≡ true

-- the first place at which a row refuses, if there is one
abbrev pub first_in : Row → Option ℕ
first_in row = first_not row.well row.count

-- 2
abbrev pub count_row : List ℕ → List ℕ → Row
count_row p r = once 2 (λ _. counts_well p r) (λ _. 0)

-- a refusal by a row: it is of the first place at which not all is well
pub record RefusedBy (row : Row) (x : Refusal) : Type 0 where
  pub at : ℕ
  pub first : first_in row ≡ Some at
  pub names : refusal_of x ≡ refused row.number (row.place at)

-- a row lets the next one judge, or refuses
abbrev pub Judges : Row → Result (Unit {0}) Refusal → Type 0
Judges row (Ok _) = Passes row
Judges row (Err x) = RefusedBy row x

-- the first of the rows that refuses gives its refusal, and where none refuses all is well
pub record Judged (rows : List Row) (answer : Result (Unit {0}) Refusal) : Type 0 where
  pub answers : checked answer ≡ told (λ _. []) (judge rows)

-- 3 to 10: all but the first
unfoldable pub later_rows : List ℕ → List ℕ → List Row
later_rows p r = drop 1 (check_rows p r)

-- what Check answers where the blocks are given on a success
abbrev pub outcome : {A : Type 0} → Result A Refusal → Result (Unit {0}) Refusal
outcome (Ok _) = Ok tt
outcome (Err r) = Err r
