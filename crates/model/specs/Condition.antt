-- Document 01, "The condition": the entries that a passive form's nodes own, and their evaluation in order.
-- Assumes nothing: these are definitions.
use Rattle.std.specs.Prelude.{ℕ, ◌+◌, ◌*◌, ◌-◌, ◌/◌, Bool, not, List, [], ◌∷◌, ◌++◌, eqb, ltb, length, get_or, if◌then◌else◌}
use Rattle.model.specs.Lists.{build, joined}
use Rattle.model.specs.Blocks.{node, plain_node, size}
use Rattle.model.specs.Nodes.{kind_of, renumbered}
use Rattle.model.specs.Trees.{of_width, binary_bits, complement_bits, slice_bits, join_bits, compare_bits, connected}
use Rattle.model.specs.declared.Bits.{Bits}
use Rattle.model.specs.declared.Group.{Group}
use Rattle.model.specs.declared.Node.{Node}
use Rattle.model.specs.declared.Kind.{Kind}
use Rattle.model.specs.declared.Stage.{Stage}

-- how many nodes some words hold
abbrev pub node_count : List ℕ → ℕ
node_count ws = length ws / size Group.Node

-- false and true are kind 16; not, and, or
abbrev pub no : Node
no = node 16 0 0 0

abbrev pub yes : Node
yes = node 16 1 0 0

abbrev pub not_entry : ℕ → Node
not_entry x = node 19 x 0 0

abbrev pub and_entry : ℕ → ℕ → Node
and_entry x y = node 20 x y 0

abbrev pub or_entry : ℕ → ℕ → Node
or_entry x y = node 21 x y 0

-- Passive node i owns entries 3 i, 3 i + 1 and 3 i + 2: of a statement goes-on, helper and goes-wrong.
abbrev pub on : ℕ → ℕ
on i = 3 * i

abbrev pub helper : ℕ → ℕ
helper i = 3 * i + 1

abbrev pub wrong : ℕ → ℕ
wrong i = 3 * i + 2

abbrev pub owns : Node → Node → Node → List Node
owns x y z = x ∷ y ∷ z ∷ []

unfoldable pub entries_of : ℕ → Node → List Node
entries_of i n =
    let k = n.kind in
    let a = n.a in
    let b = n.b in
    if ltb k 32 then owns (renumbered on n) no no else  -- values and tests: the same node over entries 3 x child
    if eqb k 32 then owns yes no no else  -- skip
    if eqb k 35 then owns (and_entry (on a) (on a)) no no else  -- assume
    if eqb k 36 then owns (and_entry (on a) (on a)) no (not_entry (on a)) else  -- assert
    if eqb k 37 then owns (and_entry (on a) (on b)) (and_entry (on a) (wrong b)) (or_entry (wrong a) (helper i)) else  -- a then b
    if eqb k 38 then owns (or_entry (on a) (on b)) no (or_entry (wrong a) (wrong b)) else  -- a or b
    owns no no no

-- the entries of a form's nodes, and the condition, entry 3 n: the form's own node doesn't go wrong
unfoldable pub condition_of : List ℕ → List Node
condition_of form = let n = node_count form in joined (λ i. entries_of i (plain_node form i)) n ++ (not_entry (3 * n - 1) ∷ [])

-- a test's bits have width 0, and are 1 where it holds
abbrev pub bit : Bool → Bits
bit b = of_width 0 (if b then 1 else 0)

abbrev pub is_on : Bits → Bool
is_on x = eqb x.number 1

-- The bits of an entry; `at i` is the bits of the variable i, and `entry i` those of the child i.
module _ (at : ℕ → Bits) (entry : ℕ → Bits) where
  abbrev pub bits_by : Kind → ℕ → ℕ → ℕ → Bits
  bits_by Kind.Constant a b c = of_width b a
  bits_by Kind.Field a b c = at a
  bits_by Kind.Parameter a b c = of_width 0 0
  bits_by (Kind.Binary o) a b c = binary_bits o (entry a) (entry b)
  bits_by Kind.Complement a b c = complement_bits (entry a)
  bits_by Kind.Slice a b c = slice_bits (entry a) b c
  bits_by Kind.Join a b c = join_bits (entry a) (entry b)
  bits_by Kind.Select a b c = if is_on (entry a) then entry b else entry c
  bits_by Kind.Truth a b c = bit (eqb a 1)
  bits_by (Kind.Compare o) a b c = bit (compare_bits o (entry a) (entry b))
  bits_by Kind.Not a b c = bit (not (is_on (entry a)))
  bits_by (Kind.Connect o) a b c = bit (connected o (is_on (entry a)) (is_on (entry b)))
  bits_by Kind.Skip a b c = of_width 0 0
  bits_by Kind.Assign a b c = of_width 0 0
  bits_by Kind.Havoc a b c = of_width 0 0
  bits_by Kind.Assume a b c = of_width 0 0
  bits_by Kind.Assert a b c = of_width 0 0
  bits_by Kind.Sequence a b c = of_width 0 0
  bits_by Kind.Choice a b c = of_width 0 0
  bits_by Kind.Apply a b c = of_width 0 0
  bits_by Kind.Unknown a b c = of_width 0 0

abbrev pub entry_bits : (ℕ → Bits) → List Bits → Node → Bits
entry_bits at before n = bits_by at (λ i. get_or before i (of_width 0 0)) (kind_of Stage.Condition n.kind) n.a n.b n.c

-- the bits of all entries, in order; two words an entry
unfoldable pub evaluated : List ℕ → (ℕ → Bits) → List Bits
evaluated entries at = build (λ before i. entry_bits at before (plain_node entries i)) (node_count entries)

unfoldable pub bits_words : List Bits → List ℕ
bits_words [] = []
bits_words (x ∷ xs) = x.width ∷ x.number ∷ bits_words xs

-- the last entry's truth
abbrev pub last_truth : List Bits → Bool
last_truth xs = is_on (get_or xs (length xs - 1) (of_width 0 0))
