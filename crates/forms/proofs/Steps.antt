-- What is emitted at each kind of statement, and along a table's chain. Assumes nothing.
use Prim.Native.Nat.{ℕ, ◌+◌, ◌*◌, ◌<◌, ◌≤◌}
use native.Mathlib.Omega.{arith}
use mathlib.Core.Path.{◌≡◌, refl, sym}
use mathlib.Core.Bool.{Bool, true, false}
use mathlib.Core.List.{List, ◌∷◌}
use borrow.Author.Tests.{ltb-true, ltb-false}
use lib.Dec.{ltb}
use lib.ListN.{length}
use Rattle.std.specs.Prelude.{if◌then◌else◌, Option, Some, None}
use Rattle.model.specs.Blocks.{F, N, T, R, widths}
use Rattle.model.specs.Trees.{Stmt, as_value, as_test, tree}
use Rattle.model.specs.Tables.{call_of}
use Rattle.model.specs.Good.{Good}
use Rattle.model.specs.Passive as passive
use Rattle.model.specs.Passive.{Passive, Origin, Vars, Form, form, new_where_differs, no_apply, body_form, chain_form, renamed_test}
use Rattle.model.specs.Emit.{emit}
use Rattle.model.specs.Demands.{Accepted}
use Rattle.model.specs.declared.Kind.{Kind}
use Rattle.model.specs.declared.Node.{Node}
use Rattle.model.proofs.Children.{BeforeAll}
use Rattle.values.proofs.Others.{Skips}
use Rattle.pieces.specs.Sound.{IsValue, IsTest, Reads, Sound}
use Rattle.pieces.proofs.Accepted.{sound}
use Rattle.blocks.proofs.Accepted.{few-fields}
use Rattle.tables.specs.Next.{next_after, rest_of}
use Rattle.tables.proofs.Rest.{next-first, next_there, next_rest, rest_few}
use Rattle.actions.specs.declared.Action.{Action}
use Rattle.actions.specs.declared.Scope.{Scope}
use Rattle.actions.specs.Scopes.{IsStatement, Calls, in_body, given_in}
use Rattle.actions.proofs.Read.{Read, own, children, is, good_by, below-fields, first_below, Pair, sequence_pair, choice_pair, outside, is_skip}
use Rattle.actions.proofs.Actions.{called_is, body-statement}
use Rattle.variables.specs.declared.place.Made.{Made}
use Rattle.forms.specs.Writes.{Writes, Tests, form_of, OfTable, sequence_form, choice_form, rule_form, rest_form}

-- what is known of the pipeline of a program
pub ruleset of_program = (few-fields, sound)

-- ---- the measure: a statement of the program is above every chain, and a chain above every statement of a body

abbrev pub level : Bool → List ℕ → List ℕ → ℕ → ℕ
level true p r n = n
level false p r n = N p + R r + 2 + n

-- the larger of two children
abbrev pub larger : ℕ → ℕ → ℕ
larger a b = if ltb a b then b else a

abbrev pub statement_depth : Bool → List ℕ → List ℕ → ℕ → ℕ
statement_depth inside p r n = 2 * level inside p r n + 1

abbrev pub pair_depth : Bool → List ℕ → List ℕ → ℕ → ℕ → ℕ
pair_depth inside p r a b = 2 * level inside p r (larger a b) + 2

abbrev pub chain_depth : List ℕ → List ℕ → ℕ → Option ℕ → ℕ
chain_depth p r t hit = 2 * (N p + length (rest_of r t hit)) + 3

abbrev pub rule_depth : List ℕ → ℕ
rule_depth p = 2 * N p + 2

abbrev pub rest_depth : List ℕ → List ℕ → ℕ → ℕ → ℕ
rest_depth p r t i = 2 * (N p + length (rest_of r t (next_after r t i))) + 4

larger_below : (a b n : ℕ) → a < n → b < n → larger a b < n
larger_below a b n h k = go (ltb a b)
  where
    go : (c : Bool) → (if c then b else a) < n
    go true = k
    go false = h

larger_left : (a b : ℕ) → a ≤ larger a b
larger_left a b = go (ltb a b) refl
  where
    go : (c : Bool) → ltb a b ≡ c → a ≤ (if c then b else a)
    go true e = let h = ltb-true a b e in omega arith
    go false e = omega arith

larger_right : (a b : ℕ) → b ≤ larger a b
larger_right a b = go (ltb a b) refl
  where
    go : (c : Bool) → ltb a b ≡ c → b ≤ (if c then b else a)
    go true e = omega arith
    go false e = ltb-false a b e

level_more : (inside : Bool) (p r : List ℕ) {a b : ℕ} → a ≤ b → level inside p r a ≤ level inside p r b
level_more true p r h = h
level_more false p r h = omega arith

level_below : (inside : Bool) (p r : List ℕ) {a b : ℕ} → a < b → level inside p r a < level inside p r b
level_below true p r h = h
level_below false p r h = omega arith

-- what a call on a statement asks
abbrev pub Asks : List ℕ → List ℕ → Scope → ℕ → ℕ → Type 0
Asks p r scope n t = (statement_depth (in_body scope) p r n < t) × IsStatement p r scope n

-- both sides of a pair are below it
module _ (p r : List ℕ) (scope : Scope) (a b : ℕ) {t : ℕ} (start : pair_depth (in_body scope) p r a b ≡ t) where
  pub left_asks : IsStatement p r scope a → Asks p r scope a t
  left_asks e = (omega (arith, start, level_more (in_body scope) p r (larger_left a b)), e)

  pub right_asks : IsStatement p r scope b → Asks p r scope b t
  right_asks e = (omega (arith, start, level_more (in_body scope) p r (larger_right a b)), e)

-- ---- what an action's body asks and gives

module _ (p r : List ℕ) (accepted : Accepted p r) {t : ℕ} (there : t < T p) (h : Option ℕ) (rule : (i : ℕ) → h ≡ Some i → i < R r) (a : Action)
    (c : Calls p a (call_of p r t h)) where
  pub body_asks : {m : ℕ} → rule_depth p ≤ m → Asks p r a.scope a.body m
  body_asks l = let body = body-statement p r accepted there rule a c in (rw c.inside (omega (arith, body.below, l)), body)

  pub body_is : form_of p r a.scope a.body ≡ body_form p r new_where_differs (call_of p r t h)
  body_is = rw (c.inside, called_is p r accepted there rule a c)

-- the rule of a hit that names one, and of one that names none
pub same-rule : (r : List ℕ) {i : ℕ} → i < R r → (j : ℕ) → Some i ≡ Some j → j < R r
same-rule r {i} l j e = let same : i ≡ j = cc in rw (← same) l

abbrev IsDefault : Option ℕ → Type 0
IsDefault (Some i) = ⊥
IsDefault None = Unit {0}

default_only : (h : Option ℕ) → IsDefault h → (j : ℕ) → h ≡ Some j → ⊥
default_only h k j e = rw e at k

pub no-rule : (r : List ℕ) (j : ℕ) → None ≡ Some j → j < R r
no-rule r j e = absurd (default_only None tt j e)

-- ---- a table's chain

-- what is tried next belongs to the table
pub next_of_table : (r : List ℕ) (t after : ℕ) {h : Option ℕ} → h ≡ next_after r t after → OfTable r t h
next_of_table r t after {h} e = go h e
  where
    go : (h : Option ℕ) → h ≡ next_after r t after → OfTable r t h
    go (Some i) e = next_there r t after i (sym e)
    go None e = tt

module _ (p r : List ℕ) (t i : ℕ) (of : OfTable r t (Some i)) where
  rest_is : rest_of r t (Some i) ≡ i ∷ rest_of r t (next_after r t i)
  rest_is = next_rest r t i of.0 of.1

  pub chain_below : {m : ℕ} {h : Option ℕ} → rest_depth p r t i ≡ m → h ≡ next_after r t i → chain_depth p r t h < m
  chain_below start e = rw e (omega (arith, start))

  -- the chain from that rule on
  pub chain_is : {h : Option ℕ} → h ≡ Some i
      → choice_form p Origin.of_chain (rule_form p r t i) (rest_form p r t i) ≡ chain_form p r new_where_differs t (rest_of r t h)
  unfolding chain_form renamed_test
  chain_is e = rw (e, rest_is)

-- what the two sides of a rule's choice ask, where the chain goes on with that rule
module _ (p r : List ℕ) {t i m : ℕ} {h : Option ℕ} (there : t < T p) (of : OfTable r t h) (e : h ≡ Some i)
    (start : chain_depth p r t h ≡ m) where
  pub of_rule : OfTable r t (Some i)
  of_rule = rw e at of

  pub rest_asks : (rest_depth p r t i < m) × ((t < T p) × OfTable r t (Some i))
  rest_asks = (omega (arith, rw (e, rest_is p r t i of_rule) at start), (there, of_rule))

pub default_is : (p r : List ℕ) (t : ℕ) {h : Option ℕ} → h ≡ None
    → body_form p r new_where_differs (call_of p r t None) ≡ chain_form p r new_where_differs t (rest_of r t h)
unfolding chain_form
default_is p r t e = rw e

-- ---- a statement

-- what is known where node n, with the measure t, has been read
pub record Here (p r : List ℕ) (scope : Scope) (n t : ℕ) (node : Node) (kind : Kind) : Type 0 where
  pub start : statement_depth (in_body scope) p r n ≡ t
  pub read : Read p r scope n node kind

module _ {p r : List ℕ} {scope : Scope} {n t : ℕ} {node : Node} {kind : Kind} (h : Here p r scope n t node kind) where
  abbrev a : ℕ
  a = node.a

  abbrev b : ℕ
  b = node.b

  abbrev given : List ℕ
  given = given_in scope

  well : Sound p
  well = sound p r h.read.statement.accepted

  reads : (k : Kind) → kind ≡ k → Reads (tree p given) k a b node.c
  reads k e = rw (h.read.words, own h.read k e) (well.reads given n h.read.statement.below)

  -- what the arms ask

  pub assign_asks : kind ≡ Kind.Assign → (a < F p) × ((b < N p) × IsValue (tree p given b))
  unfolding Good
  assign_asks e =
      (below-fields h.read (good_by h.read _ e).0, (omega (arith, (children h.read _ e).1, h.read.statement.below), reads _ e))

  -- assume and assert are tests: what both ask
  module _ (k : Kind) (first : BeforeAll n k a b node.c → a < n) (test : Reads (tree p given) k a b node.c → IsTest (tree p given a)) where
    tested_asks : kind ≡ k → (a < N p) × IsTest (tree p given a)
    tested_asks e = (first_below h.read k e first, test (reads k e))

  pub assume_asks : kind ≡ Kind.Assume → (a < N p) × IsTest (tree p given a)
  assume_asks = tested_asks Kind.Assume (λ c. c.0) (λ t. t)

  pub assert_asks : kind ≡ Kind.Assert → (a < N p) × IsTest (tree p given a)
  assert_asks = tested_asks Kind.Assert (λ c. c.0) (λ t. t)

  -- a pair of statements
  abbrev pub PairAsks : Type 0
  PairAsks = (pair_depth (in_body scope) p r a b < t) × (IsStatement p r scope a × IsStatement p r scope b)

  pair_asks : Pair h.read → PairAsks
  pair_asks c = (omega (arith, h.start, level_below (in_body scope) p r (larger_below a b n c.0.0 c.1.0)), (c.0.1, c.1.1))

  pub sequence_asks : kind ≡ Kind.Sequence → PairAsks
  sequence_asks e = pair_asks (sequence_pair h.read e)

  pub choice_asks : kind ≡ Kind.Choice → PairAsks
  choice_asks e = pair_asks (choice_pair h.read e)

  module _ (e : kind ≡ Kind.Apply) where
    pub apply_asks : {x : Option ℕ} → x ≡ next_after r a (R r) → (chain_depth p r a x < t) × ((a < T p) × OfTable r a x)
    apply_asks {x} d =
        let s : 2 * (N p + R r + 2 + n) + 1 ≡ t = rw (outside h.read e).0 at h.start in
        (omega (arith, s, rest_few r a x), ((outside h.read e).1, next_of_table r a (R r) d))

  -- what the arms give

  abbrev Own : (Vars → Form) → Type 0
  Own make = make ≡ form_of p r scope n

  pub assign_is : kind ≡ Kind.Assign → Own (passive.passify (widths p) new_where_differs no_apply (Stmt.assign a (as_value (tree p given b))))
  unfolding passive.passify
  assign_is e = rw (is h.read _ e)

  pub havoc_is : kind ≡ Kind.Havoc → Own (passive.passify (widths p) new_where_differs no_apply (Stmt.havoc a))
  unfolding passive.passify
  havoc_is e = rw (is h.read _ e)

  pub sequence_is : kind ≡ Kind.Sequence → Own (sequence_form (form_of p r scope a) (form_of p r scope b))
  unfolding passive.passify
  sequence_is e = rw (is h.read _ e)

  pub choice_is : kind ≡ Kind.Choice → Own (choice_form p Origin.of_pipeline (form_of p r scope a) (form_of p r scope b))
  unfolding passive.passify
  choice_is e = rw (is h.read _ e)

  pub apply_is : {x : Option ℕ} → kind ≡ Kind.Apply → x ≡ next_after r a (R r) → Own (chain_form p r new_where_differs a (rest_of r a x))
  unfolding passive.passify
  apply_is e d = rw (is h.read _ e, (outside h.read e).0, d, next-first r a)

  module _ {from m : Made} {nodes nodes' area : List ℕ} where
    pub assume_gives : kind ≡ Kind.Assume → Tests p 35 (as_test (tree p given a)) from nodes nodes' area m → Writes p (form_of p r scope n) from nodes nodes' area area m
    unfolding passive.passify emit
    assume_gives e w = rw (is h.read _ e) (w Passive.assume (λ u. refl))

    pub assert_gives : kind ≡ Kind.Assert → Tests p 36 (as_test (tree p given a)) from nodes nodes' area m → Writes p (form_of p r scope n) from nodes nodes' area area m
    unfolding passive.passify emit
    assert_gives e w = rw (is h.read _ e) (w Passive.assert (λ u. refl))

    -- skip, and what is no statement
    pub rest_gives : Skips kind → Writes p (λ s. form Passive.skip s) from nodes nodes' area area m
        → Writes p (form_of p r scope n) from nodes nodes' area area m
    unfolding passive.passify
    rest_gives o w = rw (is_skip h.read o) w
