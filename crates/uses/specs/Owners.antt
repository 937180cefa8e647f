-- Under which action's body each node stands, kept in an array. Assumes nothing: these are definitions.
use Rattle.std.specs.Prelude.{ℕ, ◌<◌, ◌≤◌, ◌≡◌, Bool, true, false, ◌&&◌, Option, Some, None, List, eqb, ltb, length, get_or, if◌then◌else◌}
use Rattle.model.specs.Lists.{first_not, times, among}
use Rattle.model.specs.Blocks.{N, A, body, parameter_count, parameter_width, pipeline_node}
use Rattle.model.specs.Nodes.{is_formed, is_statement, children}
use Rattle.model.specs.Refusals.{pipeline_sorts, sort_at, uses, under_each, stands_under, placed_well}

-- what Check knows where it gives none of 4, 5 and 8: each node has one parent, is one action's body, or is the root
pub record UsedOnce (p : List ℕ) : Type 0 where
  pub formed : (i : ℕ) → i < N p → is_formed (sort_at (pipeline_sorts p) i) ≡ true
  pub bodies : (k : ℕ) → k < A p → is_statement (sort_at (pipeline_sorts p) (body p k)) ≡ true
  pub parameters : (k : ℕ) → k < A p → parameter_count p k ≤ 2
  pub once : (i : ℕ) → i < N p → eqb (times i (uses p)) 1 ≡ true

-- the owner of node x: an action, or none
abbrev pub owner_of : List (Option ℕ) → ℕ → Option ℕ
owner_of owners x = get_or owners x None

-- the owners in `after` are those in `before`, but `owner` at each of xs
pub record Gives (xs : List ℕ) (owner : Option ℕ) (before after : List (Option ℕ)) : Type 0 where
  pub sized : length after ≡ length before
  pub at : length before ≡ 1024 → (x : ℕ) → x < 1024 → owner_of after x ≡ (if among x xs then owner else owner_of before x)

-- So far the first `actions` bodies belong to their actions, and the children of the nodes from `from` on to their parents' owners; what
-- belongs to an action stands under its body.
pub record Owned (p : List ℕ) (actions from : ℕ) (owners : List (Option ℕ)) : Type 0 where
  pub sized : length owners ≡ 1024
  pub bodies : (k : ℕ) → k < actions → owner_of owners (body p k) ≡ Some k
  pub handed : (j x : ℕ) → from ≤ j → j < N p → among x (children (pipeline_node p j)) ≡ true → owner_of owners x ≡ owner_of owners j
  pub stands : (x k : ℕ) → x < N p → owner_of owners x ≡ Some k → (k < A p) × (stands_under p (under_each p) x k ≡ true)

-- the owner is an action, and one that has parameter a with width b
abbrev pub has_parameter : List ℕ → Option ℕ → ℕ → ℕ → Bool
has_parameter p None a b = false
has_parameter p (Some k) a b = ltb a (parameter_count p k) && eqb b (parameter_width p k a)

-- 9: the first parameter or apply in the wrong place, if there is one
abbrev pub first_misplaced : List ℕ → Option ℕ
first_misplaced p = first_not (placed_well p (under_each p)) (N p)
