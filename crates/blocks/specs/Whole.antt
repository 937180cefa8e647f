-- What a reader of a block relies on. Assumes nothing: this is a definition.
use Rattle.std.specs.Prelude.{◌≡◌, ℕ, List, length}
use Rattle.model.specs.Blocks.{pipeline_length}

-- the block is as long as its counts ask for: every record is there
abbrev pub Whole : List ℕ → Type 0
Whole p = length p ≡ pipeline_length p
