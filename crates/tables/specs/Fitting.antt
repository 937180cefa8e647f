-- What a lookup relies on. Assumes nothing: this is a definition.
use Rattle.std.specs.Prelude.{ℕ, ◌≤◌, ◌<◌, List, length}
use Rattle.model.specs.Blocks.{T, R, key_count, key, table_of}
use Rattle.blocks.specs.Whole.{Whole}

-- every rule has a table, and every key of a table a field in the packet (`whole` stays here: laws speak of it apart from a `Pipeline`)
pub record Fitting (p r packet : List ℕ) : Type 0 where
  pub whole : Whole p
  pub tables : (i : ℕ) → i < R r → table_of r i < T p
  pub keys : (t : ℕ) → t < T p → key_count p t ≤ 4
  pub fields : (t j : ℕ) → t < T p → j < key_count p t → key p t j < length packet
