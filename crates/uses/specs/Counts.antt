-- How often the nodes are used, kept in an area of bytes. Assumes nothing: these are definitions.
use Rattle.std.specs.Prelude.{ℕ, ◌<◌, ◌≡◌, Option, Some, None, List, [], ◌∷◌, ◌++◌, eqb, ltb, length, if◌then◌else◌}
use Rattle.model.specs.Lists.{word, first_not, times}
use Rattle.model.specs.Blocks.{N}
use Rattle.model.specs.Refusals.{uses}

-- the number that is there, if one is; those that are
abbrev pub there : Option ℕ → List ℕ
there None = []
there (Some x) = x ∷ []

abbrev pub all_there : List (Option ℕ) → List ℕ
all_there [] = []
all_there (x ∷ xs) = there x ++ all_there xs

-- 0, 1, and 2 for more
unfoldable pub capped : ℕ → ℕ
capped n = if ltb n 2 then n else 2

-- each byte says how often its number stands in a list
pub record Counted (counts xs : List ℕ) : Type 0 where
  pub sized : length counts ≡ 1024
  pub at : (x : ℕ) → x < 1024 → word counts x ≡ capped (times x xs)

-- the bytes of `after` count the numbers that those of `before` do, and ys
pub record Adds (ys before after : List ℕ) : Type 0 where
  pub more : (xs : List ℕ) → Counted before xs → Counted after (xs ++ ys)

-- the first of n numbers that doesn't stand exactly once in a list
abbrev pub first_not_once : List ℕ → ℕ → Option ℕ
first_not_once xs n = first_not (λ i. eqb (times i xs) 1) n

-- 8: the first node that is not used exactly once, if there is one
abbrev pub first_miscounted : List ℕ → Option ℕ
first_miscounted p = first_not_once (uses p) (N p)
