-- What Check accepts is whole, and has few enough fields for the words that hold them. Assumes nothing.
use Prim.Native.Nat.{ℕ, ◌≤◌}
use mathlib.Core.List.{List}
use Rattle.model.specs.Blocks.{F}
use Rattle.model.specs.Demands.{Accepted}
use Rattle.model.proofs.Accepted.{accepted-good}
use Rattle.blocks.specs.Whole.{Whole}

module _ (p r : List ℕ) (accepted : Accepted p r) where
  pub whole : Whole p
  whole = (accepted-good p r accepted).counts.pipeline_words

  pub few-fields : F p ≤ 32
  few-fields = (accepted-good p r accepted).counts.most_fields
