-- What writing a piece of a passive form means: its nodes stand at the start of the area that is lent. Assumes nothing: these are definitions.
use Rattle.std.specs.Prelude.{ℕ, ◌-◌, ◌*◌, ◌≤◌, ◌<◌, ◌≡◌, List, [], ◌++◌, eqb, length, if◌then◌else◌}
use Rattle.model.specs.Lists.{word}
use Rattle.model.specs.Blocks.{node, words}
use Rattle.model.specs.Trees.{Tree}
use Rattle.model.specs.Passive.{renamed, renamed_test}
use Rattle.model.specs.Emit.{Piece, past, form_limit, emit_value, emit_test}
use Rattle.model.specs.Calls.{over}
use Rattle.model.specs.declared.Node.{Node}
use Rattle.model.specs.declared.Role.{Role}
use Rattle.model.specs.declared.Role.TheVariants.{Child, Number, Unused}
use Rattle.model.specs.declared.Roles.{Roles}

-- The nodes were emitted from the number `at` on, into an area that was `before` and is `after`; `to` is the number behind them. Where they
-- go beyond the limit `to` does too, and nothing is said of the area; nor is it where the area is too short.
pub record Emitted (nodes : List Node) (at : ℕ) (before after : List ℕ) (to : ℕ) : Type 0 where
  pub onward : at ≤ to
  pub exact : past at nodes ≤ form_limit → to ≡ past at nodes
  pub large : form_limit < past at nodes → form_limit < to
  pub wrote : past at nodes ≤ form_limit → length (words nodes) ≤ length before → after ≡ over (words nodes) before

-- where an area of so many words goes on behind the nodes from `at` up to `to`: at its end, if it is too short
pub record Start (at to count start : ℕ) : Type 0 where
  pub within : start ≤ count
  pub exact : 4 * (to - at) ≤ count → start ≡ 4 * (to - at)

-- The piece was emitted behind what stands in the area from the number `from` on; it began with the number `at`.
pub record Behind (piece : Piece) (from at : ℕ) (before after : List ℕ) (to : ℕ) : Type 0 where
  pub onward : at ≤ to
  pub counted : to ≤ form_limit → to ≡ past at (piece at)
  pub extends : {x : List Node} {area : List ℕ} → length before ≡ length area → Emitted x from area before at
      → Emitted (x ++ piece (past from x)) from area after to

-- the nodes of a value or of a test, over the current variables
abbrev pub emit_tree : List ℕ → Tree → ℕ → List Node
emit_tree current (Tree.value v) at = emit_value (renamed current v) at
emit_tree current (Tree.test t) at = emit_test (renamed_test current t) at
emit_tree current (Tree.statement s) at = []
emit_tree current Tree.nothing at = []

-- the nodes of a word that is a child's number; any other word has none
abbrev pub child_nodes : List ℕ → (ℕ → Tree) → Role → ℕ → ℕ → List Node
child_nodes current tree Child x at = emit_tree current (tree x) at
child_nodes current tree Number x at = []
child_nodes current tree Unused x at = []

-- the word in the new node, where `to` is the number behind that child
abbrev pub word_of : Role → ℕ → ℕ → ℕ
word_of Child x to = to - 1
word_of Number x to = x
word_of Unused x to = 0

-- a node of the pipeline as the passive form has it: a field by its current variable, a parameter as a constant
abbrev pub shown : List ℕ → List ℕ → Node → Node
shown current given n =
    if eqb n.kind 2 then node 2 (word current n.a) 0 0 else
    if eqb n.kind 3 then node 1 (word given n.a) n.b 0 else
    n

-- its words behind its children
abbrev pub placed : Roles → Node → ℕ → ℕ → ℕ → Node
placed w n a b c = node n.kind (word_of w.a n.a a) (word_of w.b n.b b) (word_of w.c n.c c)
