-- Document 01, "Passive form": statements over variables, each of which has one value. Assumes nothing: these are definitions.
use Rattle.std.specs.Prelude.{ℕ, zero, suc, true, List, [], ◌∷◌, ◌++◌, eqb, get_or, set, length, if◌then◌else◌, Some, None}
use Rattle.bits.specs.declared.Op.{Op}
use Rattle.model.specs.Lists.{each}
use Rattle.model.specs.Blocks.{F, Call, widths, width, key_count, key, table_of, value, mask}
use Rattle.model.specs.Trees.{Val, Test, Stmt, program, called}
use Rattle.model.specs.Tables.{tried, call_of}
use Rattle.model.specs.declared.Comparison.{Comparison}
use Rattle.model.specs.declared.Connective.{Connective}

-- after a choice: a side's variable, and the joined one that equals it
pub record Equation : Type 0 where
  pub own : ℕ
  pub joined : ℕ

-- what a choice stands for: a choice of the pipeline, or a rule of a table's chain
pub data Origin : Type 0 where
  of_pipeline of_chain : Origin

-- `havoced x` is a skip that stands for a havoc with the variable x: Extract tells it from a skip. Each side of a choice has its join's
-- equations beside it.
infixl 20 ◌then◌
pub data Passive : Type 0 where
  skip : Passive
  havoced : ℕ → Passive
  assume assert : Test → Passive
  ◌then◌ : Passive → Passive → Passive
  choice : Origin → Passive → List Equation → Passive → List Equation → Passive

-- each field by its current variable
unfoldable mutual
  pub renamed : List ℕ → Val → Val
  renamed vars (Val.constant n w) = Val.constant n w
  renamed vars (Val.field i) = Val.field (get_or vars i 0)
  renamed vars (Val.binary o a b) = Val.binary o (renamed vars a) (renamed vars b)
  renamed vars (Val.complement a) = Val.complement (renamed vars a)
  renamed vars (Val.slice a high low) = Val.slice (renamed vars a) high low
  renamed vars (Val.join a b) = Val.join (renamed vars a) (renamed vars b)
  renamed vars (Val.select t a b) = Val.select (renamed_test vars t) (renamed vars a) (renamed vars b)

  pub renamed_test : List ℕ → Test → Test
  renamed_test vars (Test.truth b) = Test.truth b
  renamed_test vars (Test.compare o a b) = Test.compare o (renamed vars a) (renamed vars b)
  renamed_test vars (Test.not_test t) = Test.not_test (renamed_test vars t)
  renamed_test vars (Test.connect o t u) = Test.connect o (renamed_test vars t) (renamed_test vars u)

-- the current variable of each field, and the widths of all variables so far: the next new variable is the number of those
pub record Vars : Type 0 where
  pub current : List ℕ
  pub widths : List ℕ

abbrev pub vars : List ℕ → List ℕ → Vars
vars current widths = record { current = current; widths = widths }

abbrev pub next : Vars → ℕ
next s = length s.widths

-- a new variable, of width w, for field f
abbrev pub fresh : Vars → ℕ → ℕ → Vars
fresh s f w = vars (set s.current f (next s)) (s.widths ++ (w ∷ []))

-- the second side of a choice starts from the variables before the choice, numbering on
abbrev pub beside : Vars → Vars → Vars
beside before left = vars before.current left.widths

-- a statement's passive form, and the variables after it
pub record Form : Type 0 where
  pub body : Passive
  pub after : Vars

abbrev pub form : Passive → Vars → Form
form q s = record { body = q; after = s }

-- A join rule gives a field's variable after a choice, from its variable before the choice, its variables after the left and after
-- the right side, and the next new one.
abbrev pub JoinRule : Type 0
JoinRule = ℕ → ℕ → ℕ → ℕ → ℕ

-- document 01's: a field whose current variable differs gets a new one
abbrev pub new_where_differs : JoinRule
new_where_differs before left right new = if eqb left right then left else new

-- the fields' variables after a choice, fields ascending
unfoldable pub joined_vars : JoinRule → ℕ → List ℕ → List ℕ → List ℕ → List ℕ
joined_vars rule new [] ls rs = []
joined_vars rule new (b ∷ bs) [] rs = []
joined_vars rule new (b ∷ bs) (l ∷ ls) [] = []
joined_vars rule new (b ∷ bs) (l ∷ ls) (r ∷ rs) =
    let z = rule b l r new in
    z ∷ joined_vars rule (if eqb z new then suc new else new) bs ls rs

-- the widths of the new ones among them
unfoldable pub new_widths : ℕ → List ℕ → List ℕ → List ℕ
new_widths new [] zs = []
new_widths new (w ∷ ws) [] = []
new_widths new (w ∷ ws) (z ∷ zs) = if eqb z new then w ∷ new_widths (suc new) ws zs else new_widths new ws zs

-- a side's equations: for each field whose joined variable is not the side's own
unfoldable pub equations : List ℕ → List ℕ → List Equation
equations [] zs = []
equations (x ∷ xs) [] = []
equations (x ∷ xs) (z ∷ zs) =
    if eqb x z then equations xs zs else record { own = x; joined = z } ∷ equations xs zs

-- `ws` are the fields' widths
module _ (ws : List ℕ) (rule : JoinRule) where
  -- both sides of a choice, joined
  unfoldable pub join : Origin → Vars → Passive → Vars → Passive → Vars → Form
  join o before left l right r =
      let zs = joined_vars rule (next r) before.current l.current r.current in
      form (Passive.choice o left (equations l.current zs) right (equations r.current zs)) (vars zs (r.widths ++ new_widths (next r) ws zs))

  -- `on_apply` says what an apply becomes
  module _ (on_apply : ℕ → Vars → Form) where
    unfoldable pub passify : Stmt → Vars → Form
    passify Stmt.skip s = form Passive.skip s
    passify (Stmt.assign f v) s =
        form (Passive.assume (Test.compare Comparison.Equal (renamed s.current v) (Val.field (next s)))) (fresh s f (get_or ws f 0))
    passify (Stmt.havoc f) s = form (Passive.havoced (next s)) (fresh s f (get_or ws f 0))
    passify (Stmt.assume n t) s = form (Passive.assume (renamed_test s.current t)) s
    passify (Stmt.assert n t) s = form (Passive.assert (renamed_test s.current t)) s
    passify (Stmt.sequence a b) s =
        let l = passify a s in
        let r = passify b l.after in
        form (l.body then r.body) r.after
    passify (Stmt.choice a b) s =
        let l = passify a s in
        let r = passify b (beside s l.after) in
        join Origin.of_pipeline s l.body l.after r.body r.after
    passify (Stmt.apply t) s = on_apply t s

-- action bodies hold no apply
abbrev pub no_apply : ℕ → Vars → Form
no_apply t s = form Passive.skip s

-- m, that rule i matches: truth 1, and then at each key that the field's bits under the mask equal the value
abbrev pub key_test : List ℕ → List ℕ → ℕ → ℕ → Test
key_test p r i j =
    let f = key p (table_of r i) j in
    let number : ℕ → Val = λ n. Val.constant n (width p f) in
    Test.compare Comparison.Equal (Val.binary Op.And (Val.field f) (number (mask r i j))) (number (value r i j))

unfoldable pub key_tests : List ℕ → List ℕ → ℕ → ℕ → Test
key_tests p r i zero = Test.truth true
key_tests p r i (suc j) = Test.connect Connective.And (key_tests p r i j) (key_test p r i j)

abbrev pub matching : List ℕ → List ℕ → ℕ → Test
matching p r i = key_tests p r i (key_count p (table_of r i))

-- variables 0 to F-1 are the packet
abbrev pub packet_vars : List ℕ → Vars
packet_vars p = vars (each (λ i. i) (F p)) (widths p)

-- Apply: a chain. Each rule, in the order in which they are tried, is a choice of (assume m, then the body) or (assume not m, then
-- the rest); the rest of the last rule, or all of a table without rules, is the default's body.
module _ (p r : List ℕ) (rule : JoinRule) where
  abbrev pub body_form : Call → Vars → Form
  body_form c s = passify (widths p) rule no_apply (called p c) s

  unfoldable pub chain_form : ℕ → List ℕ → Vars → Form
  chain_form t [] s = body_form (call_of p r t None) s
  chain_form t (i ∷ is) s =
      let m = renamed_test s.current (matching p r i) in
      let left = body_form (call_of p r t (Some i)) s in
      let rest = chain_form t is (beside s left.after) in
      join (widths p) rule Origin.of_chain s (Passive.assume m then left.body) left.after
      (Passive.assume (Test.not_test m) then rest.body) rest.after

  abbrev pub table_form : ℕ → Vars → Form
  table_form t s = chain_form t (tried r t) s

  -- the whole pipeline
  unfoldable pub passive_by : Form
  passive_by = passify (widths p) rule table_form (program p) (packet_vars p)

abbrev pub passive : List ℕ → List ℕ → Form
passive p r = passive_by p r new_where_differs
