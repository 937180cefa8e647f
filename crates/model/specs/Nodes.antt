-- Document 01, "Nodes": the kinds, what a node holds, and its sort from the sorts of its children.
-- Assumes nothing: these are definitions.
use Rattle.std.specs.Prelude.{ℕ, ◌+◌, ◌-◌, Bool, true, false, not, ◌&&◌, List, [], ◌∷◌, ◌++◌, eqb, ltb, leb, length, get_or, if◌then◌else◌}
use Rattle.bits.specs.Width.{fits}
use Rattle.bits.specs.declared.Op.{Op}
use Rattle.model.specs.Lists.{within, build, among}
use Rattle.model.specs.Blocks.{node}
use Rattle.model.specs.declared.Node.{Node}
use Rattle.model.specs.declared.Comparison.{Comparison}
use Rattle.model.specs.declared.Connective.{Connective}
use Rattle.model.specs.declared.Kind.{Kind}
use Rattle.model.specs.declared.Role.{Role}
use Rattle.model.specs.declared.Role.TheVariants.{Child, Number, Unused}
use Rattle.model.specs.declared.Roles.{Roles}
use Rattle.model.specs.declared.Stage.{Stage}
use Rattle.model.specs.declared.Sort.{Sort}

-- the kinds' numbers
abbrev pub number_of : Kind → ℕ
number_of Kind.Unknown = 0
number_of Kind.Constant = 1  -- a value, b width
number_of Kind.Field = 2  -- a; in a passive form or a condition the variable a
number_of Kind.Parameter = 3  -- a of width b
number_of (Kind.Binary Op.Sum) = 4
number_of (Kind.Binary Op.Difference) = 5
number_of (Kind.Binary Op.And) = 6
number_of (Kind.Binary Op.Or) = 7
number_of (Kind.Binary Op.Xor) = 8
number_of Kind.Complement = 9
number_of Kind.Slice = 10  -- of a, bits b (high) down to c (low)
number_of Kind.Join = 11  -- a above b
number_of Kind.Select = 12  -- test a, then b, else c
number_of Kind.Truth = 16  -- a is 0 or 1
number_of (Kind.Compare Comparison.Equal) = 17
number_of (Kind.Compare Comparison.Less) = 18
number_of Kind.Not = 19
number_of (Kind.Connect Connective.And) = 20
number_of (Kind.Connect Connective.Or) = 21
number_of Kind.Skip = 32
number_of Kind.Assign = 33  -- field a the value b
number_of Kind.Havoc = 34  -- field a
number_of Kind.Assume = 35
number_of Kind.Assert = 36
number_of Kind.Sequence = 37  -- a then b
number_of Kind.Choice = 38  -- of a or b
number_of Kind.Apply = 39  -- table a

abbrev pub kinds : List Kind
kinds =
    Kind.Constant ∷ Kind.Field ∷ Kind.Parameter
    ∷ Kind.Binary Op.Sum ∷ Kind.Binary Op.Difference ∷ Kind.Binary Op.And ∷ Kind.Binary Op.Or ∷ Kind.Binary Op.Xor
    ∷ Kind.Complement ∷ Kind.Slice ∷ Kind.Join ∷ Kind.Select
    ∷ Kind.Truth ∷ Kind.Compare Comparison.Equal ∷ Kind.Compare Comparison.Less ∷ Kind.Not
    ∷ Kind.Connect Connective.And ∷ Kind.Connect Connective.Or
    ∷ Kind.Skip ∷ Kind.Assign ∷ Kind.Havoc ∷ Kind.Assume ∷ Kind.Assert ∷ Kind.Sequence ∷ Kind.Choice ∷ Kind.Apply
    ∷ []

-- the kind with a number, if one has it
unfoldable pub kind_in : List Kind → ℕ → Kind
kind_in [] n = Kind.Unknown
kind_in (k ∷ ks) n = if eqb n (number_of k) then k else kind_in ks n

-- Which kinds a list of nodes may hold: a pipeline all, the others neither 3, 33, 34 nor 39, and a condition no statements.
abbrev pub pipeline_only : ℕ → Bool
pipeline_only n = among n (3 ∷ 33 ∷ 34 ∷ 39 ∷ [])

abbrev pub allowed : Stage → ℕ → Bool
allowed Stage.Pipeline n = true
allowed Stage.Passive n = not (pipeline_only n)
allowed Stage.Condition n = not (pipeline_only n) && ltb n 32

abbrev pub kind_of : Stage → ℕ → Kind
kind_of stage n = if allowed stage n then kind_in kinds n else Kind.Unknown

-- What the words a, b and c of a kind are. A word that its kind doesn't use is 0.
abbrev pub are : Role → Role → Role → Roles
are a b c = record { a = a; b = b; c = c }

abbrev pub roles : Kind → Roles
roles Kind.Constant = are Number Number Unused
roles Kind.Field = are Number Unused Unused
roles Kind.Parameter = are Number Number Unused
roles (Kind.Binary o) = are Child Child Unused
roles Kind.Complement = are Child Unused Unused
roles Kind.Slice = are Child Number Number
roles Kind.Join = are Child Child Unused
roles Kind.Select = are Child Child Child
roles Kind.Truth = are Number Unused Unused
roles (Kind.Compare o) = are Child Child Unused
roles Kind.Not = are Child Unused Unused
roles (Kind.Connect o) = are Child Child Unused
roles Kind.Skip = are Unused Unused Unused
roles Kind.Assign = are Number Child Unused
roles Kind.Havoc = are Number Unused Unused
roles Kind.Assume = are Child Unused Unused
roles Kind.Assert = are Child Unused Unused
roles Kind.Sequence = are Child Child Unused
roles Kind.Choice = are Child Child Unused
roles Kind.Apply = are Number Unused Unused
roles Kind.Unknown = are Unused Unused Unused

abbrev pub child_in : Role → ℕ → List ℕ
child_in Child x = x ∷ []
child_in Number x = []
child_in Unused x = []

abbrev pub renumbered_in : (ℕ → ℕ) → Role → ℕ → ℕ
renumbered_in f Child x = f x
renumbered_in f Number x = x
renumbered_in f Unused x = x

abbrev pub zero_in : Role → ℕ → Bool
zero_in Child x = true
zero_in Number x = true
zero_in Unused x = eqb x 0

-- a node's children; the node with each child's number changed; its unused words are 0
abbrev pub children : Node → List ℕ
children n = let w = roles (kind_in kinds n.kind) in child_in w.a n.a ++ child_in w.b n.b ++ child_in w.c n.c

abbrev pub renumbered : (ℕ → ℕ) → Node → Node
renumbered f n =
    let w = roles (kind_in kinds n.kind) in
    node n.kind (renumbered_in f w.a n.a) (renumbered_in f w.b n.b) (renumbered_in f w.c n.c)

abbrev pub unused_zero : Kind → Node → Bool
unused_zero k n = let w = roles k in zero_in w.a n.a && zero_in w.b n.b && zero_in w.c n.c

-- Sorts. What is no value has width 0.
abbrev pub width_of : Sort → ℕ
width_of Sort.Malformed = 0
width_of (Sort.Value w) = w
width_of Sort.Test = 0
width_of Sort.Statement = 0

abbrev pub is_test : Sort → Bool
is_test Sort.Malformed = false
is_test (Sort.Value w) = false
is_test Sort.Test = true
is_test Sort.Statement = false

abbrev pub is_statement : Sort → Bool
is_statement Sort.Malformed = false
is_statement (Sort.Value w) = false
is_statement Sort.Test = false
is_statement Sort.Statement = true

abbrev pub is_formed : Sort → Bool
is_formed Sort.Malformed = false
is_formed (Sort.Value w) = true
is_formed Sort.Test = true
is_formed Sort.Statement = true

abbrev pub is_width : ℕ → Bool
is_width w = within 1 32 w

abbrev pub is_value : Sort → Bool
is_value s = ltb 0 (width_of s)

-- values of equal widths
abbrev pub alike : Sort → Sort → Bool
alike s t = is_value s && eqb (width_of s) (width_of t)

abbrev pub only : Bool → Sort → Sort
only good s = if good then s else Sort.Malformed

-- The sort of a node: `widths` are the fields' (the variables'), `tables` is T, and `sort i` the sort of the child i, which is
-- malformed where i is not below its parent.
module _ (widths : List ℕ) (tables : ℕ) (sort : ℕ → Sort) where
  abbrev pub sort_by : Kind → ℕ → ℕ → ℕ → Sort
  sort_by Kind.Constant a b c = only (is_width b && fits b a) (Sort.Value b)
  sort_by Kind.Field a b c = only (ltb a (length widths)) (Sort.Value (get_or widths a 0))
  sort_by Kind.Parameter a b c = only (is_width b) (Sort.Value b)
  sort_by (Kind.Binary o) a b c = only (alike (sort a) (sort b)) (sort a)
  sort_by Kind.Complement a b c = only (is_value (sort a)) (sort a)
  sort_by Kind.Slice a b c = only (ltb b (width_of (sort a)) && leb c b) (Sort.Value (b - c + 1))
  sort_by Kind.Join a b c =
      let total = width_of (sort a) + width_of (sort b) in
      only (is_value (sort a) && is_value (sort b) && leb total 32) (Sort.Value total)
  sort_by Kind.Select a b c = only (is_test (sort a) && alike (sort b) (sort c)) (sort b)
  sort_by Kind.Truth a b c = only (leb a 1) Sort.Test
  sort_by (Kind.Compare o) a b c = only (alike (sort a) (sort b)) Sort.Test
  sort_by Kind.Not a b c = only (is_test (sort a)) Sort.Test
  sort_by (Kind.Connect o) a b c = only (is_test (sort a) && is_test (sort b)) Sort.Test
  sort_by Kind.Skip a b c = Sort.Statement
  sort_by Kind.Assign a b c = only (ltb a (length widths) && alike (sort b) (Sort.Value (get_or widths a 0))) Sort.Statement
  sort_by Kind.Havoc a b c = only (ltb a (length widths)) Sort.Statement
  sort_by Kind.Assume a b c = only (is_test (sort a)) Sort.Statement
  sort_by Kind.Assert a b c = only (is_test (sort a)) Sort.Statement
  sort_by Kind.Sequence a b c = only (is_statement (sort a) && is_statement (sort b)) Sort.Statement
  sort_by Kind.Choice a b c = only (is_statement (sort a) && is_statement (sort b)) Sort.Statement
  sort_by Kind.Apply a b c = only (ltb a tables) Sort.Statement
  sort_by Kind.Unknown a b c = Sort.Malformed

unfoldable pub sort_of : Stage → List ℕ → ℕ → List Sort → Node → Sort
sort_of stage widths tables before n =
    let k = kind_of stage n.kind in
    only (unused_zero k n) (sort_by widths tables (λ i. get_or before i Sort.Malformed) k n.a n.b n.c)

-- the sorts of nodes 0 to n - 1, front to back
abbrev pub sorts : Stage → List ℕ → ℕ → (ℕ → Node) → ℕ → List Sort
sorts stage widths tables nodes n = build (λ before i. sort_of stage widths tables before (nodes i)) n
