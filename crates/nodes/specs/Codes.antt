-- How a sort stands in a byte: the sorts so far are kept in an area of bytes, and the code makes and asks no other form of a sort.
-- Assumes nothing: these are definitions, and the law of `Code`.
use Rattle.std.specs.Prelude.{ℕ, zero, suc, refl, ◌<◌, ◌≡◌, List, Option, get_or}
use Rattle.model.specs.Lists.{first_not}
use Rattle.model.specs.Blocks.{plain_node}
use Rattle.model.specs.Condition.{node_count}
use Rattle.model.specs.Nodes.{is_formed, sorts}
use Rattle.model.specs.declared.Sort.{Sort}
use Rattle.model.specs.declared.Stage.{Stage}

-- the sort that a byte stands for, and the byte of a sort
unfoldable pub sort_from : ℕ → Sort
sort_from zero = Sort.Malformed
sort_from (suc zero) = Sort.Test
sort_from (suc (suc zero)) = Sort.Statement
sort_from (suc (suc (suc width))) = Sort.Value width

unfoldable pub byte_of : Sort → ℕ
byte_of Sort.Malformed = 0
byte_of Sort.Test = 1
byte_of Sort.Statement = 2
byte_of (Sort.Value width) = suc (suc (suc width))

-- a byte is got back from its sort
pub byte_back : (n : ℕ) → byte_of (sort_from n) ≡ n
unfolding sort_from byte_of
byte_back zero = refl
byte_back (suc zero) = refl
byte_back (suc (suc zero)) = refl
byte_back (suc (suc (suc n))) = refl

-- the first n elements of an area are the first n sorts
pub record Coded (codes ss : List Sort) (n : ℕ) : Type 0 where
  pub at : (x : ℕ) → x < n → get_or codes x Sort.Malformed ≡ get_or ss x Sort.Malformed

-- the sorts of the nodes that some words hold, and the first that is malformed
abbrev pub node_sorts : Stage → List ℕ → ℕ → List ℕ → List Sort
node_sorts stage widths tables ws = sorts stage widths tables (plain_node ws) (node_count ws)

abbrev pub first_malformed : Stage → List ℕ → ℕ → List ℕ → Option ℕ
first_malformed stage widths tables ws = first_not (λ i. is_formed (get_or (node_sorts stage widths tables ws) i Sort.Malformed)) (node_count ws)
