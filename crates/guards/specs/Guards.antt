-- What stands before an action's body in a table's chain. Assumes nothing: these are definitions.
use Rattle.std.specs.Prelude.{ℕ, ◌+◌, ◌≤◌, ◌≡◌, Bool, true, false, List, length}
use Rattle.bits.specs.declared.Op.{Op}
use Rattle.model.specs.Blocks.{node}
use Rattle.model.specs.Trees.{Val, Test}
use Rattle.model.specs.Passive.{renamed_test, key_tests, matching}
use Rattle.model.specs.Emit.{Piece, leaf, two, emit_test}
use Rattle.model.specs.declared.Comparison.{Comparison}
use Rattle.pieces.specs.Pieces.{Behind}

-- that rule i matches, or that it does not
abbrev pub guard_test : List ℕ → List ℕ → ℕ → Bool → Test
guard_test p r i false = matching p r i
guard_test p r i true = Test.not_test (matching p r i)

-- a variable's bits under the mask equal the value
abbrev pub masked : ℕ → ℕ → ℕ → ℕ → Test
masked variable width mask value =
    Test.compare Comparison.Equal (Val.binary Op.And (Val.field variable) (Val.constant mask width)) (Val.constant value width)

-- behind any piece a constant and a node of the kind make the piece of a node over both
pub record OverConstant (kind number width at : ℕ) (nodes nodes' : List ℕ) (to : ℕ) : Type 0 where
  pub some : 1 ≤ to
  pub extends : {piece : Piece} {from : ℕ} {before : List ℕ} → length nodes ≡ length before → Behind piece 0 from before nodes at
      → Behind (two piece (leaf (node 1 number width 0)) (λ x y. node kind x y 0)) 0 from before nodes' to

-- behind the tests of the keys below j the test of key j makes those of the keys up to j
pub record KeyBehind (p r current : List ℕ) (i j at : ℕ) (nodes nodes' : List ℕ) (to : ℕ) : Type 0 where
  pub some : 1 ≤ to
  pub extends : {from : ℕ} {before : List ℕ} → length nodes ≡ length before
      → Behind (emit_test (renamed_test current (key_tests p r i j))) 0 from before nodes at
      → Behind (emit_test (renamed_test current (key_tests p r i (j + 1)))) 0 from before nodes' to
