-- Values, tests and statements as trees; the total decoder from a block's words to trees; what a value and a test say.
-- Assumes nothing: these are definitions.
use Rattle.std.specs.Prelude.{ℕ, ◌+◌, ◌-◌, Bool, false, not, ◌&&◌, ◌||◌, List, [], ◌∷◌, eqb, get_or, if◌then◌else◌}
use Rattle.bits.specs.Width as bits
use Rattle.bits.specs.declared.Op.{Op}
use Rattle.model.specs.Lists.{build}
use Rattle.model.specs.Blocks.{Call, N, root, pipeline_node, body}
use Rattle.model.specs.Nodes.{kind_of}
use Rattle.model.specs.declared.Bits.{Bits}
use Rattle.model.specs.declared.Node.{Node}
use Rattle.model.specs.declared.Comparison.{Comparison}
use Rattle.model.specs.declared.Connective.{Connective}
use Rattle.model.specs.declared.Kind.{Kind}
use Rattle.model.specs.declared.Stage.{Stage}

-- a value may hold a test, and a test holds values
mutual
  pub data Val : Type 0 where
    constant : ℕ → ℕ → Val  -- a number, and its width
    field : ℕ → Val  -- of the packet; in the passive form a variable
    binary : Op → Val → Val → Val
    complement : Val → Val
    slice : Val → ℕ → ℕ → Val  -- bits high down to low
    join : Val → Val → Val  -- the first above the second
    select : Test → Val → Val → Val  -- where the test holds the first, else the second

  pub data Test : Type 0 where
    truth : Bool → Test
    compare : Comparison → Val → Val → Test
    not_test : Test → Test
    connect : Connective → Test → Test → Test

-- assume and assert keep their node's number, by which a run names them
pub data Stmt : Type 0 where
  skip : Stmt
  assign : ℕ → Val → Stmt
  havoc : ℕ → Stmt
  assume assert : ℕ → Test → Stmt
  sequence choice : Stmt → Stmt → Stmt
  apply : ℕ → Stmt  -- a table

pub data Tree : Type 0 where
  value : Val → Tree
  test : Test → Tree
  statement : Stmt → Tree
  nothing : Tree

-- A tree read as one of the three. What is of another sort reads as a constant of width 0, as false, as skip: a block in which that
-- happens is one that Check refuses.
abbrev pub as_value : Tree → Val
as_value (value v) = v
as_value (test t) = constant 0 0
as_value (statement s) = constant 0 0
as_value nothing = constant 0 0

abbrev pub as_test : Tree → Test
as_test (value v) = truth false
as_test (test t) = t
as_test (statement s) = truth false
as_test nothing = truth false

abbrev pub as_statement : Tree → Stmt
as_statement (value v) = skip
as_statement (test t) = skip
as_statement (statement s) = s
as_statement nothing = skip

-- The tree of node i, from the trees of its children; `given` is the data that stands for the parameters.
module _ (given : List ℕ) (tree : ℕ → Tree) (i : ℕ) where
  abbrev pub value_at : ℕ → Val
  value_at j = as_value (tree j)

  abbrev pub test_at : ℕ → Test
  test_at j = as_test (tree j)

  abbrev pub statement_at : ℕ → Stmt
  statement_at j = as_statement (tree j)

  abbrev pub tree_by : Kind → ℕ → ℕ → ℕ → Tree
  tree_by Kind.Constant a b c = value (constant a b)
  tree_by Kind.Field a b c = value (field a)
  tree_by Kind.Parameter a b c = value (constant (get_or given a 0) b)
  tree_by (Kind.Binary o) a b c = value (binary o (value_at a) (value_at b))
  tree_by Kind.Complement a b c = value (complement (value_at a))
  tree_by Kind.Slice a b c = value (slice (value_at a) b c)
  tree_by Kind.Join a b c = value (join (value_at a) (value_at b))
  tree_by Kind.Select a b c = value (select (test_at a) (value_at b) (value_at c))
  tree_by Kind.Truth a b c = test (truth (eqb a 1))
  tree_by (Kind.Compare o) a b c = test (compare o (value_at a) (value_at b))
  tree_by Kind.Not a b c = test (not_test (test_at a))
  tree_by (Kind.Connect o) a b c = test (connect o (test_at a) (test_at b))
  tree_by Kind.Skip a b c = statement skip
  tree_by Kind.Assign a b c = statement (assign a (value_at b))
  tree_by Kind.Havoc a b c = statement (havoc a)
  tree_by Kind.Assume a b c = statement (assume i (test_at a))
  tree_by Kind.Assert a b c = statement (assert i (test_at a))
  tree_by Kind.Sequence a b c = statement (sequence (statement_at a) (statement_at b))
  tree_by Kind.Choice a b c = statement (choice (statement_at a) (statement_at b))
  tree_by Kind.Apply a b c = statement (apply a)
  tree_by Kind.Unknown a b c = nothing

abbrev pub tree_of : List ℕ → List Tree → ℕ → Node → Tree
tree_of given before i n = tree_by given (λ j. get_or before j nothing) i (kind_of Stage.Pipeline n.kind) n.a n.b n.c

-- the trees of a pipeline block's first n nodes, front to back; the tree of a node
unfoldable pub trees : List ℕ → List ℕ → ℕ → List Tree
trees p given n = build (λ before i. tree_of given before i (pipeline_node p i)) n

abbrev pub tree : List ℕ → List ℕ → ℕ → Tree
tree p given i = get_or (trees p given (N p)) i nothing

-- the pipeline's statement; an action's body with its data
abbrev pub no_data : List ℕ
no_data = 0 ∷ 0 ∷ []

abbrev pub program : List ℕ → Stmt
program p = as_statement (tree p no_data (root p))

abbrev pub called : List ℕ → Call → Stmt
called p c = as_statement (tree p c.«data» (body p c.action))

-- bits of a width
abbrev pub of_width : ℕ → ℕ → Bits
of_width w n = record { width = w; number = n }

abbrev pub binary_bits : Op → Bits → Bits → Bits
binary_bits o x y = of_width x.width (bits.binary o x.width x.number y.number)

abbrev pub complement_bits : Bits → Bits
complement_bits x = of_width x.width (bits.complement x.width x.number)

abbrev pub slice_bits : Bits → ℕ → ℕ → Bits
slice_bits x high low = of_width (high - low + 1) (bits.slice high low x.number)

abbrev pub join_bits : Bits → Bits → Bits
join_bits x y = of_width (x.width + y.width) (bits.join y.width x.number y.number)

abbrev pub compare_bits : Comparison → Bits → Bits → Bool
compare_bits Comparison.Equal x y = eqb x.number y.number
compare_bits Comparison.Less x y = bits.less x.number y.number

abbrev pub connected : Connective → Bool → Bool → Bool
connected Connective.And x y = x && y
connected Connective.Or x y = x || y

-- What a value and a test say; `at i` is the bits of the field, or of the variable, i.
unfoldable mutual
  pub bits_of : (ℕ → Bits) → Val → Bits
  bits_of at (constant n w) = of_width w n
  bits_of at (field i) = at i
  bits_of at (binary o a b) = binary_bits o (bits_of at a) (bits_of at b)
  bits_of at (complement a) = complement_bits (bits_of at a)
  bits_of at (slice a high low) = slice_bits (bits_of at a) high low
  bits_of at (join a b) = join_bits (bits_of at a) (bits_of at b)
  bits_of at (select t a b) = if truth_of at t then bits_of at a else bits_of at b

  pub truth_of : (ℕ → Bits) → Test → Bool
  truth_of at (truth b) = b
  truth_of at (compare o a b) = compare_bits o (bits_of at a) (bits_of at b)
  truth_of at (not_test t) = not (truth_of at t)
  truth_of at (connect o t u) = connected o (truth_of at t) (truth_of at u)

-- the fields' bits in a packet, the variables' in a valuation: each number at the width of its place
abbrev pub bits_in : List ℕ → List ℕ → ℕ → Bits
bits_in widths numbers i = of_width (get_or widths i 0) (get_or numbers i 0)
