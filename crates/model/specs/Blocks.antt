-- Document 01, "Blocks and records": how the words give the counts, the records and their places.
-- p is a pipeline block, r a rule block. Every reading is total: a word past the end is 0. Assumes nothing: these are definitions.
use Rattle.std.specs.Prelude.{ℕ, ◌+◌, ◌*◌, ◌/◌, List, [], ◌∷◌, length}
use Rattle.model.specs.Lists.{word, each}
use Rattle.model.specs.declared.Group.{Group}
use Rattle.model.specs.declared.Node.{Node}

-- how many words a record has
abbrev pub size : Group → ℕ
size Group.Field = 1
size Group.Node = 4
size Group.Action = 4
size Group.Table = 8
size Group.Rule = 12
size Group.Root = 1

-- the pipeline block is F, N, A, T, root; then the records
abbrev pub F : List ℕ → ℕ
F p = word p 0

abbrev pub N : List ℕ → ℕ
N p = word p 1

abbrev pub A : List ℕ → ℕ
A p = word p 2

abbrev pub T : List ℕ → ℕ
T p = word p 3

abbrev pub root : List ℕ → ℕ
root p = word p 4

-- the rule block is R rules
abbrev pub R : List ℕ → ℕ
R r = length r / size Group.Rule

-- where a record stands
abbrev pub field_place : List ℕ → ℕ → ℕ
field_place p i = 5 + size Group.Field * i

abbrev pub node_place : List ℕ → ℕ → ℕ
node_place p i = field_place p (F p) + size Group.Node * i

abbrev pub action_place : List ℕ → ℕ → ℕ
action_place p i = node_place p (N p) + size Group.Action * i

abbrev pub table_place : List ℕ → ℕ → ℕ
table_place p i = action_place p (A p) + size Group.Table * i

abbrev pub rule_place : List ℕ → ℕ → ℕ
rule_place r i = size Group.Rule * i

-- the length that the counts ask for
abbrev pub pipeline_length : List ℕ → ℕ
pipeline_length p = table_place p (T p)

-- a field is its width
abbrev pub width : List ℕ → ℕ → ℕ
width p i = word p (field_place p i)

abbrev pub widths : List ℕ → List ℕ
widths p = each (width p) (F p)

-- a node: kind, a, b, c
abbrev pub node : ℕ → ℕ → ℕ → ℕ → Node
node kind a b c = record { kind = kind; a = a; b = b; c = c }

-- the node whose words stand at a place; its words
abbrev pub node_at : List ℕ → ℕ → Node
node_at ws at = node (word ws at) (word ws (at + 1)) (word ws (at + 2)) (word ws (at + 3))

unfoldable pub words : List Node → List ℕ
words [] = []
words (n ∷ ns) = n.kind ∷ n.a ∷ n.b ∷ n.c ∷ words ns

-- node i of a pipeline block; of a passive form or of a condition, which are nothing but nodes
abbrev pub pipeline_node : List ℕ → ℕ → Node
pipeline_node p i = node_at p (node_place p i)

abbrev pub plain_node : List ℕ → ℕ → Node
plain_node ws i = node_at ws (size Group.Node * i)

-- action i: body node, parameter count, the width of parameter j
abbrev pub body : List ℕ → ℕ → ℕ
body p i = word p (action_place p i)

abbrev pub parameter_count : List ℕ → ℕ → ℕ
parameter_count p i = word p (action_place p i + 1)

abbrev pub parameter_width : List ℕ → ℕ → ℕ → ℕ
parameter_width p i j = word p (action_place p i + 2 + j)

-- what a table's default and a rule end with, three words: an action and its data
pub record Call : Type 0 where
  pub action : ℕ
  pub «data» : List ℕ

abbrev pub call_at : List ℕ → ℕ → Call
call_at ws at = record { action = word ws at; «data» = word ws (at + 1) ∷ word ws (at + 2) ∷ [] }

-- table i: key count, the field of key j, the default
abbrev pub key_count : List ℕ → ℕ → ℕ
key_count p i = word p (table_place p i)

abbrev pub key : List ℕ → ℕ → ℕ → ℕ
key p i j = word p (table_place p i + 1 + j)

abbrev pub default_place : List ℕ → ℕ → ℕ
default_place p i = table_place p i + 5

-- rule i: its table, the value and the mask of key j, what it calls
abbrev pub table_of : List ℕ → ℕ → ℕ
table_of r i = word r (rule_place r i)

abbrev pub value : List ℕ → ℕ → ℕ → ℕ
value r i j = word r (rule_place r i + 1 + 2 * j)

abbrev pub mask : List ℕ → ℕ → ℕ → ℕ
mask r i j = word r (rule_place r i + 2 + 2 * j)

abbrev pub call_place : List ℕ → ℕ → ℕ
call_place r i = rule_place r i + 9
