-- What the emitter of values and tests relies on. Assumes nothing: these are definitions.
use Rattle.std.specs.Prelude.{ℕ, ◌≤◌, ◌<◌, ◌≡◌, true, List}
use Rattle.model.specs.Lists.{among}
use Rattle.model.specs.Blocks.{N, pipeline_node}
use Rattle.model.specs.Nodes.{kinds, kind_in, children}
use Rattle.model.specs.Trees.{Tree, as_value, as_test, tree}
use Rattle.model.specs.declared.Kind.{Kind}
use Rattle.model.specs.declared.Role.{Role}
use Rattle.model.specs.declared.Role.TheVariants.{Child, Number, Unused}

-- a tree is the value, or the test, that it is read as
abbrev pub IsValue : Tree → Type 0
IsValue x = x ≡ Tree.value (as_value x)

abbrev pub IsTest : Tree → Type 0
IsTest x = x ≡ Tree.test (as_test x)

-- it is one of both
abbrev pub Expression : Tree → Type 0
Expression (Tree.value v) = Unit {0}
Expression (Tree.test t) = Unit {0}
Expression (Tree.statement s) = ⊥
Expression Tree.nothing = ⊥

-- a node's children are what its kind reads them as, and a truth is 0 or 1
module _ (tree : ℕ → Tree) where
  abbrev pub Reads : Kind → ℕ → ℕ → ℕ → Type 0
  Reads Kind.Constant a b c = Unit {0}
  Reads Kind.Field a b c = Unit {0}
  Reads Kind.Parameter a b c = Unit {0}
  Reads (Kind.Binary o) a b c = IsValue (tree a) × IsValue (tree b)
  Reads Kind.Complement a b c = IsValue (tree a)
  Reads Kind.Slice a b c = IsValue (tree a)
  Reads Kind.Join a b c = IsValue (tree a) × IsValue (tree b)
  Reads Kind.Select a b c = IsTest (tree a) × IsValue (tree b) × IsValue (tree c)
  Reads Kind.Truth a b c = a ≤ 1
  Reads (Kind.Compare o) a b c = IsValue (tree a) × IsValue (tree b)
  Reads Kind.Not a b c = IsTest (tree a)
  Reads (Kind.Connect o) a b c = IsTest (tree a) × IsTest (tree b)
  Reads Kind.Skip a b c = Unit {0}
  Reads Kind.Assign a b c = IsValue (tree b)
  Reads Kind.Havoc a b c = Unit {0}
  Reads Kind.Assume a b c = IsTest (tree a)
  Reads Kind.Assert a b c = IsTest (tree a)
  Reads Kind.Sequence a b c = Unit {0}
  Reads Kind.Choice a b c = Unit {0}
  Reads Kind.Apply a b c = Unit {0}
  Reads Kind.Unknown a b c = Unit {0}

-- a word that is a child's number names a value or a test
abbrev pub ChildThere : ℕ → (ℕ → Tree) → Role → ℕ → Type 0
ChildThere count tree Child x = (x < count) × Expression (tree x)
ChildThere count tree Number x = Unit {0}
ChildThere count tree Unused x = Unit {0}

-- Children stand before their parents, and each is of the sort that its parent reads.
pub record Sound (p : List ℕ) : Type 0 where
  pub below : (i x : ℕ) → i < N p → among x (children (pipeline_node p i)) ≡ true → x < i
  pub reads : (given : List ℕ) (i : ℕ) → i < N p → let n = pipeline_node p i in Reads (tree p given) (kind_in kinds n.kind) n.a n.b n.c
