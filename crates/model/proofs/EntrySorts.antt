-- Where every node of a passive form is formed, so is every entry of its condition. Assumes nothing.
use Prim.Native.Nat.{ℕ, zero, suc, ◌+◌, ◌*◌, ◌-◌, ◌/◌, ◌<◌, ◌≤◌}
use native.Mathlib.Nat.{add-zero, eq-or-lt_of_le}
use native.Mathlib.Omega.{arith}
use mathlib.Core.Path.{◌≡◌, refl, sym, ap, ◌∙◌}
use mathlib.Core.Logic.{◌⊎◌, inl, inr, ⊎_elim}
use mathlib.Core.Bool.{Bool, true, false, ◌&&◌, false≢true}
use mathlib.Core.List.{List}
use lib.Dec.{ltb, leb}
use lib.ListN.{get_or, length}
use borrow.Author.Tests.{lt-ltb, le-leb, ltb-true}
use Rattle.bits.specs.Width.{fits}
use Rattle.std.specs.Prelude.{if◌then◌else◌}
use Rattle.model.specs.Lists.{each, build, joined, times}
use Rattle.model.specs.Blocks.{node, words, plain_node}
use Rattle.model.specs.Nodes.{number_of, kinds, kind_in, kind_of, allowed, roles, renumbered_in, zero_in, unused_zero, width_of, is_test, is_statement, is_formed, is_width, is_value, alike, only, sort_by, sort_of}
use Rattle.model.specs.Condition.{node_count, no, not_entry, on, entries_of, condition_of}
use Rattle.model.specs.declared.Node.{Node}
use Rattle.model.specs.declared.Connective.{Connective}
use Rattle.model.specs.declared.Kind.{Kind}
use Rattle.model.specs.declared.Role.{Role}
use Rattle.model.specs.declared.Stage.{Stage}
use Rattle.model.specs.declared.Sort.{Sort}
use Rattle.model.proofs.Booleans.{both_true}
use Rattle.model.proofs.Lists.{made, length-each, each_at}
use Rattle.model.proofs.Every.{from-below}
use Rattle.model.proofs.KindNumbers.{kind_or_unknown, entry-below, binary-allowed, compare-allowed, connect-allowed}
use Rattle.model.proofs.SortTests.{only-formed, test_is, statement_is, alike-parts, value-formed, formed-before}
use Rattle.model.proofs.NodeList.{node_count-words, plain_node-words}
use Rattle.model.proofs.Entries.{over_entries, expression_entry, length-condition, entry_at, Owned, each-entry, first_entry, owned_entries, last_entry}
use Rattle.model.proofs.Formed.{step, sort, sort_before, node_sort_lem}

-- ---- what a formed node is

-- the kind and the words of a formed node, and its sort
pub record HasKind (stage : Stage) (ws : List ℕ) (before : List Sort) (m : Node) (k : Kind) : Type 0 where
  pub is : m ≡ node (number_of k) m.a m.b m.c
  pub may : allowed stage (number_of k) ≡ true
  pub zeros : unused_zero k m ≡ true
  pub good : is_formed (sort_by ws 0 (λ x. get_or before x Sort.Malformed) k m.a m.b m.c) ≡ true

pub formed-node : (stage : Stage) (ws : List ℕ) (before : List Sort) (m : Node) → is_formed (sort_of stage ws 0 before m) ≡ true
    → HasKind stage ws before m (kind_of stage m.kind)
unfolding sort_of
formed-node stage ws before m h = go (allowed stage m.kind) refl (kind_or_unknown kinds m.kind) h
  where
    unknown : {A : Type 0} → is_formed (only (unused_zero Kind.Unknown m) Sort.Malformed) ≡ true → A
    unknown e = absurd (false≢true (only-formed (unused_zero Kind.Unknown m) Sort.Malformed e).1)

    found : (k : Kind) → m.kind ≡ number_of k → allowed stage m.kind ≡ true
        → is_formed (only (unused_zero k m) (sort_by ws 0 (λ x. get_or before x Sort.Malformed) k m.a m.b m.c)) ≡ true
        → HasKind stage ws before m k
    found k e a f =
        let o = only-formed (unused_zero k m) (sort_by ws 0 (λ x. get_or before x Sort.Malformed) k m.a m.b m.c) f in
        record { is = λ i. node (e i) m.a m.b m.c; may = rw e at a; zeros = o.0; good = o.1 }

    go : (b : Bool) → allowed stage m.kind ≡ b → (kind_in kinds m.kind ≡ Kind.Unknown) ⊎ (m.kind ≡ number_of (kind_in kinds m.kind))
        → let k = if b then kind_in kinds m.kind else Kind.Unknown in
        is_formed (only (unused_zero k m) (sort_by ws 0 (λ x. get_or before x Sort.Malformed) k m.a m.b m.c)) ≡ true → HasKind stage ws before m k
    go false e s f = unknown f
    go true e (inl u) f = unknown (rw u at f)
    go true e (inr u) f = found (kind_in kinds m.kind) u e f

-- ---- values and tests

-- the sort of a node's first entry: a statement's is a test
abbrev pub entry_sort : Sort → Sort
entry_sort Sort.Malformed = Sort.Malformed
entry_sort (Sort.Value w) = Sort.Value w
entry_sort Sort.Test = Sort.Test
entry_sort Sort.Statement = Sort.Test

value_kept : (s : Sort) → is_value s ≡ true → entry_sort s ≡ s
value_kept Sort.Malformed h = refl
value_kept (Sort.Value w) h = refl
value_kept Sort.Test h = refl
value_kept Sort.Statement h = cc

entry_kept : (s : Sort) → is_formed s ≡ true → is_formed (entry_sort s) ≡ true
entry_kept Sort.Malformed h = h
entry_kept (Sort.Value w) h = h
entry_kept Sort.Test h = h
entry_kept Sort.Statement h = h

-- Over children that sort_kept their sorts at new numbers, a value or a test keeps its own.
module _ (ws : List ℕ) (g g' : ℕ → Sort) (f : ℕ → ℕ) (value : (x : ℕ) → is_value (g x) ≡ true → g' (f x) ≡ g x)
    (test : (x : ℕ) → is_test (g x) ≡ true → g' (f x) ≡ g x) where
  abbrev Keeps : Kind → ℕ → ℕ → ℕ → Type 0
  Keeps k a b c =
      is_formed (sort_by ws 0 g k a b c) ≡ true
      → sort_by ws 0 g' k (renumbered_in f (roles k).a a) (renumbered_in f (roles k).b b) (renumbered_in f (roles k).c c)
      ≡ entry_sort (sort_by ws 0 g k a b c)

  slice_kept : (a b c : ℕ) → Keeps Kind.Slice a b c
  slice_kept a b c e =
      let q = (only-formed (ltb b (width_of (g a)) && leb c b) (Sort.Value (b - c + 1)) e).0 in
      let l = both_true (ltb b (width_of (g a))) (leb c b) q in
      let v = lt-ltb 0 (width_of (g a)) (omega (arith, ltb-true b (width_of (g a)) l.0)) in
      rw (value a v, q)

  join_kept : (a b c : ℕ) → Keeps Kind.Join a b c
  join_kept a b c e =
      let total = width_of (g a) + width_of (g b) in
      let q = (only-formed (is_value (g a) && is_value (g b) && leb total 32) (Sort.Value total) e).0 in
      let v = both_true (is_value (g a)) (is_value (g b)) (both_true (is_value (g a) && is_value (g b)) (leb total 32) q).0 in
      rw (value a v.0, value b v.1, q)

  select_kept : (a b c : ℕ) → Keeps Kind.Select a b c
  select_kept a b c e =
      let q = (only-formed (is_test (g a) && alike (g b) (g c)) (g b) e).0 in
      let t = both_true (is_test (g a)) (alike (g b) (g c)) q in
      let v = alike-parts (g b) (g c) t.1 in
      rw (test a t.0, value b v.0, value c v.1, q, value_kept (g b) v.0)

  sort_kept : (k : Kind) (a b c : ℕ) → allowed Stage.Condition (number_of k) ≡ true → Keeps k a b c
  unfolding times
  sort_kept Kind.Constant a b c h e = rw (only-formed (is_width b && fits b a) (Sort.Value b) e).0
  sort_kept Kind.Field a b c h e = rw (only-formed (ltb a (length ws)) (Sort.Value (get_or ws a 0)) e).0
  sort_kept Kind.Parameter a b c h e = cc
  sort_kept (Kind.Binary o) a b c h e =
      let q = (only-formed (alike (g a) (g b)) (g a) e).0 in
      let v = alike-parts (g a) (g b) q in
      rw (value a v.0, value b v.1, q, value_kept (g a) v.0)
  sort_kept Kind.Complement a b c h e = let q = (only-formed (is_value (g a)) (g a) e).0 in rw (value a q, q, value_kept (g a) q)
  sort_kept Kind.Slice a b c h e = slice_kept a b c e
  sort_kept Kind.Join a b c h e = join_kept a b c e
  sort_kept Kind.Select a b c h e = select_kept a b c e
  sort_kept Kind.Truth a b c h e = rw (only-formed (leb a 1) Sort.Test e).0
  sort_kept (Kind.Compare o) a b c h e =
      let q = (only-formed (alike (g a) (g b)) Sort.Test e).0 in
      let v = alike-parts (g a) (g b) q in
      rw (value a v.0, value b v.1, q)
  sort_kept Kind.Not a b c h e = let q = (only-formed (is_test (g a)) Sort.Test e).0 in rw (test a q, q)
  sort_kept (Kind.Connect o) a b c h e =
      let q = (only-formed (is_test (g a) && is_test (g b)) Sort.Test e).0 in
      let t = both_true (is_test (g a)) (is_test (g b)) q in
      rw (test a t.0, test b t.1, q)
  sort_kept Kind.Skip a b c h e = cc
  sort_kept Kind.Assign a b c h e = cc
  sort_kept Kind.Havoc a b c h e = cc
  sort_kept Kind.Assume a b c h e = cc
  sort_kept Kind.Assert a b c h e = cc
  sort_kept Kind.Sequence a b c h e = cc
  sort_kept Kind.Choice a b c h e = cc
  sort_kept Kind.Apply a b c h e = cc
  sort_kept Kind.Unknown a b c h e = refl

zero_kept : (f : ℕ → ℕ) (r : Role) (x : ℕ) → zero_in r (renumbered_in f r x) ≡ zero_in r x
zero_kept f Role.Child x = refl
zero_kept f Role.Number x = refl
zero_kept f Role.Unused x = refl

zeros_kept : (k : Kind) (m : Node) → unused_zero k m ≡ true → unused_zero k (over_entries k m.a m.b m.c) ≡ true
zeros_kept k m h = rw (zero_kept on (roles k).a m.a, zero_kept on (roles k).b m.b, zero_kept on (roles k).c m.c) h

-- ---- entries

module _ (ws : List ℕ) (nodes entries : ℕ → Node) (n : ℕ)
    (owned : Owned nodes entries n) where
  abbrev pub node_sort : ℕ → Sort
  node_sort = sort Stage.Passive ws nodes

  abbrev pub sort_of_entry : ℕ → Sort
  sort_of_entry = sort Stage.Condition ws entries

  -- the sorts of node i's three entries
  pub record Owns (i : ℕ) : Type 0 where
    pub first : sort_of_entry (3 * i) ≡ entry_sort (node_sort i)
    pub second : sort_of_entry (3 * i + 1) ≡ Sort.Test
    pub third : sort_of_entry (3 * i + 2) ≡ Sort.Test

  truth_sort : (j a : ℕ) → a ≤ 1 → entries j ≡ node 16 a 0 0 → sort_of_entry j ≡ Sort.Test
  unfolding times
  truth_sort j a h e = node_sort_lem Stage.Condition ws entries Kind.Truth refl refl e ∙ rw (le-leb a 1 h)

  no_sort : (j : ℕ) → entries j ≡ no → sort_of_entry j ≡ Sort.Test
  no_sort j e = truth_sort j 0 (omega arith) e

  not_sort : (j : ℕ) {x : ℕ} → x < j → sort_of_entry x ≡ Sort.Test → entries j ≡ not_entry x → sort_of_entry j ≡ Sort.Test
  unfolding times
  not_sort j {x} h s e = node_sort_lem Stage.Condition ws entries Kind.Not refl refl e ∙ rw (sort_before Stage.Condition ws entries j x h s)

  connect_sort : (o : Connective) (j : ℕ) {x y : ℕ} → x < j → y < j → sort_of_entry x ≡ Sort.Test → sort_of_entry y ≡ Sort.Test
      → entries j ≡ node (number_of (Kind.Connect o)) x y 0 → sort_of_entry j ≡ Sort.Test
  connect_sort o j {x} {y} h k s t e =
      let left = sort_before Stage.Condition ws entries j x h s in
      let right = sort_before Stage.Condition ws entries j y k t in
      node_sort_lem Stage.Condition ws entries (Kind.Connect o) (connect-allowed o) refl e ∙ rw (left, right)

  -- node i over the entries of the nodes before it
  module _ (i : ℕ) (l : i < n) (before : (x : ℕ) → x < i → Owns x) where
    -- a child's sort, as the node's reads it
    abbrev own : ℕ → Sort
    own x = get_or (build (step Stage.Passive ws nodes) i) x Sort.Malformed

    there : (x : ℕ) → is_formed (own x) ≡ true → x < i
    there x f = formed-before (step Stage.Passive ws nodes) i x f

    child_first : (x : ℕ) → is_formed (own x) ≡ true → sort_of_entry (3 * x) ≡ entry_sort (own x)
    child_first x f = (before x (there x f)).first ∙ ap entry_sort (sym (sort_before Stage.Passive ws nodes i x (there x f) refl))

    -- an entry's sort, as the node's first entry reads it
    abbrev entry_own : ℕ → Sort
    entry_own x = get_or (build (step Stage.Condition ws entries) (3 * i)) x Sort.Malformed

    -- a value's or a test's first entry keeps its sort
    child_kept : (x : ℕ) → is_formed (own x) ≡ true → entry_sort (own x) ≡ own x → entry_own (3 * x) ≡ own x
    child_kept x f e = sort_before Stage.Condition ws entries (3 * i) (3 * x) (omega (arith, there x f)) (child_first x f ∙ e)

    test_child : (x : ℕ) → is_test (own x) ≡ true → (x < i) × (sort_of_entry (3 * x) ≡ Sort.Test)
    test_child x h = let e = test_is (own x) h in let f : is_formed (own x) ≡ true = rw e in (there x f, child_first x f ∙ rw e)

    -- a statement's entries that a parent reads
    record Child (x : ℕ) : Type 0 where
      below : x < i
      on : sort_of_entry (3 * x) ≡ Sort.Test
      wrong : sort_of_entry (3 * x + 2) ≡ Sort.Test

    statement_child : (x : ℕ) → is_statement (own x) ≡ true → Child x
    statement_child x h =
        let e = statement_is (own x) h in
        let f : is_formed (own x) ≡ true = rw e in
        record { below = there x f; on = child_first x f ∙ rw e; wrong = (before x (there x f)).third }

    -- the node is of a kind
    abbrev Is : Kind → Type 0
    Is k = HasKind Stage.Passive ws (build (step Stage.Passive ws nodes) i) (nodes i) k

    module _ (k : Kind) (known : Is k) where
      its_sort : node_sort i ≡ sort_by ws 0 own k (nodes i).a (nodes i).b (nodes i).c
      its_sort = node_sort_lem Stage.Passive ws nodes k known.may known.zeros known.is

      expression : allowed Stage.Condition (number_of k) ≡ true → Owns i
      unfolding entries_of
      expression h =
          let m = nodes i in
          let value : (x : ℕ) → is_value (own x) ≡ true → entry_own (3 * x) ≡ own x = λ x v. child_kept x (value-formed (own x) v) (value_kept (own x) v) in
          let test : (x : ℕ) → is_test (own x) ≡ true → entry_own (3 * x) ≡ own x = λ x t. child_kept x (rw (test_is (own x) t)) (rw (test_is (own x) t)) in
          let zeros = zeros_kept k m known.zeros in
          let e = first_entry owned l known.is ∙ expression_entry k i m.a m.b m.c h in
          record {
            first =
                node_sort_lem Stage.Condition ws entries k h zeros e
                ∙ sort_kept ws own entry_own on value test k m.a m.b m.c h known.good
                ∙ ap entry_sort (sym its_sort);
            second = no_sort (3 * i + 1) (each-entry owned 1 (omega arith) l known.is ∙ rw (entry-below (number_of k) h));
            third = no_sort (3 * i + 2) (each-entry owned 2 (omega arith) l known.is ∙ rw (entry-below (number_of k) h));
          }

    -- a statement's entries are tests
    owns : node_sort i ≡ Sort.Statement → sort_of_entry (3 * i) ≡ Sort.Test → sort_of_entry (3 * i + 1) ≡ Sort.Test → sort_of_entry (3 * i + 2) ≡ Sort.Test
        → Owns i
    owns e x y z = record { first = x ∙ rw e; second = y; third = z }

    skip-owns : Is Kind.Skip → Owns i
    unfolding entries_of
    skip-owns h =
        owns (its_sort Kind.Skip h) (truth_sort (3 * i) 1 (omega arith) (first_entry owned l h.is))
        (no_sort (3 * i + 1) (each-entry owned 1 (omega arith) l h.is)) (no_sort (3 * i + 2) (each-entry owned 2 (omega arith) l h.is))

    -- a statement over a test, and one over two statements
    module _ (k : Kind) (known : Is k) where
      over-test : sort_by ws 0 own k (nodes i).a (nodes i).b (nodes i).c ≡ only (is_test (own (nodes i).a)) Sort.Statement
          → (node_sort i ≡ Sort.Statement) × ((nodes i).a < i) × (sort_of_entry (3 * (nodes i).a) ≡ Sort.Test)
      over-test e =
          let q = (only-formed (is_test (own (nodes i).a)) Sort.Statement (rw e at known.good)).0 in
          let x = test_child (nodes i).a q in
          (its_sort k known ∙ e ∙ rw q, x.0, x.1)

      over_statements : sort_by ws 0 own k (nodes i).a (nodes i).b (nodes i).c ≡ only (is_statement (own (nodes i).a) && is_statement (own (nodes i).b)) Sort.Statement
          → (node_sort i ≡ Sort.Statement) × Child (nodes i).a × Child (nodes i).b
      over_statements e =
          let q = (only-formed (is_statement (own (nodes i).a) && is_statement (own (nodes i).b)) Sort.Statement (rw e at known.good)).0 in
          let both = both_true (is_statement (own (nodes i).a)) (is_statement (own (nodes i).b)) q in
          (its_sort k known ∙ e ∙ rw q, statement_child (nodes i).a both.0, statement_child (nodes i).b both.1)

    assume-owns : Is Kind.Assume → Owns i
    unfolding entries_of
    assume-owns h =
        let x = over-test Kind.Assume h refl in
        owns x.0 (connect_sort Connective.And (3 * i) (omega arith) (omega arith) x.2 x.2 (first_entry owned l h.is))
        (no_sort (3 * i + 1) (each-entry owned 1 (omega arith) l h.is)) (no_sort (3 * i + 2) (each-entry owned 2 (omega arith) l h.is))

    assert-owns : Is Kind.Assert → Owns i
    unfolding entries_of
    assert-owns h =
        let x = over-test Kind.Assert h refl in
        owns x.0 (connect_sort Connective.And (3 * i) (omega arith) (omega arith) x.2 x.2 (first_entry owned l h.is))
        (no_sort (3 * i + 1) (each-entry owned 1 (omega arith) l h.is)) (not_sort (3 * i + 2) (omega arith) x.2 (each-entry owned 2 (omega arith) l h.is))

    sequence-owns : Is Kind.Sequence → Owns i
    unfolding entries_of
    sequence-owns h =
        let x = over_statements Kind.Sequence h refl in
        let second = connect_sort Connective.And (3 * i + 1) (omega arith) (omega arith) x.1.on x.2.wrong (each-entry owned 1 (omega arith) l h.is) in
        owns x.0 (connect_sort Connective.And (3 * i) (omega arith) (omega arith) x.1.on x.2.on (first_entry owned l h.is))
        second (connect_sort Connective.Or (3 * i + 2) (omega arith) (omega arith) x.1.wrong second (each-entry owned 2 (omega arith) l h.is))

    choice-owns : Is Kind.Choice → Owns i
    unfolding entries_of
    choice-owns h =
        let x = over_statements Kind.Choice h refl in
        owns x.0 (connect_sort Connective.Or (3 * i) (omega arith) (omega arith) x.1.on x.2.on (first_entry owned l h.is))
        (no_sort (3 * i + 1) (each-entry owned 1 (omega arith) l h.is))
        (connect_sort Connective.Or (3 * i + 2) (omega arith) (omega arith) x.1.wrong x.2.wrong (each-entry owned 2 (omega arith) l h.is))

    known_owns : (k : Kind) → Is k → Owns i
    unfolding times
    known_owns Kind.Constant h = expression Kind.Constant h refl
    known_owns Kind.Field h = expression Kind.Field h refl
    known_owns Kind.Parameter h = absurd (false≢true h.may)
    known_owns (Kind.Binary o) h = expression (Kind.Binary o) h (binary-allowed o)
    known_owns Kind.Complement h = expression Kind.Complement h refl
    known_owns Kind.Slice h = expression Kind.Slice h refl
    known_owns Kind.Join h = expression Kind.Join h refl
    known_owns Kind.Select h = expression Kind.Select h refl
    known_owns Kind.Truth h = expression Kind.Truth h refl
    known_owns (Kind.Compare o) h = expression (Kind.Compare o) h (compare-allowed o)
    known_owns Kind.Not h = expression Kind.Not h refl
    known_owns (Kind.Connect o) h = expression (Kind.Connect o) h (connect-allowed o)
    known_owns Kind.Skip h = skip-owns h
    known_owns Kind.Assign h = absurd (false≢true h.may)
    known_owns Kind.Havoc h = absurd (false≢true h.may)
    known_owns Kind.Assume h = assume-owns h
    known_owns Kind.Assert h = assert-owns h
    known_owns Kind.Sequence h = sequence-owns h
    known_owns Kind.Choice h = choice-owns h
    known_owns Kind.Apply h = absurd (false≢true h.may)
    known_owns Kind.Unknown h = absurd (false≢true h.good)

  -- ---- all entries

  module _ (formed : (i : ℕ) → i < n → is_formed (node_sort i) ≡ true) where
    node-owns : (i : ℕ) → i < n → ((x : ℕ) → x < i → Owns x) → Owns i
    unfolding sort made step
    node-owns i l before =
        known_owns i l before (kind_of Stage.Passive (nodes i).kind) (formed-node Stage.Passive ws (build (step Stage.Passive ws nodes) i) (nodes i) (formed i l))

    pub owns-all : (i : ℕ) → i < n → Owns i
    owns-all = from-below (λ i. i < n → Owns i) (λ i before l. node-owns i l (λ x h. before x h (omega arith)))

    -- the last entry is a test, and each is formed
    module _ (some : 0 < n) (end : entries (3 * n) ≡ not_entry (3 * n - 1)) where
      pub last-test : sort_of_entry (3 * n) ≡ Sort.Test
      last-test =
          let e : 3 * (n - 1) + 2 ≡ 3 * n - 1 = omega arith in
          not_sort (3 * n) (omega arith) (ap sort_of_entry (sym e) ∙ (owns-all (n - 1) (omega arith)).third) end

      pub entry-formed : (j : ℕ) → j ≤ 3 * n → is_formed (sort_of_entry j) ≡ true
      entry-formed j h =
          ⊎_elim (λ e. ap is_formed (ap sort_of_entry e ∙ last-test)) (λ k. go (j - 3 * (j / 3)) (omega arith) (omega arith)) (eq-or-lt_of_le h)
        where
          go : (r : ℕ) → j ≡ 3 * (j / 3) + r → j / 3 < n → is_formed (sort_of_entry j) ≡ true
          go zero e k =
              ap is_formed (ap sort_of_entry (e ∙ add-zero (3 * (j / 3))) ∙ (owns-all (j / 3) k).first) ∙ entry_kept (node_sort (j / 3)) (formed (j / 3) k)
          go (suc zero) e k = ap is_formed (ap sort_of_entry e ∙ (owns-all (j / 3) k).second)
          go (suc (suc zero)) e k = ap is_formed (ap sort_of_entry e ∙ (owns-all (j / 3) k).third)
          go (suc (suc (suc r))) e k = absurd (omega arith)

-- ---- the condition of any words

joined_same : {A : Type 0} (f g : ℕ → List A) (n : ℕ) → ((i : ℕ) → i < n → f i ≡ g i) → joined f n ≡ joined g n
unfolding joined
joined_same f g zero h = refl
joined_same f g (suc n) h = rw (joined_same f g n (λ i k. h i (omega arith)), h n (omega arith))

module _ (form : List ℕ) where
  -- the nodes that the words hold
  abbrev nodes_in : List Node
  nodes_in = each (plain_node form) (node_count form)

  length_in : length nodes_in ≡ node_count form
  length_in = length-each (plain_node form) (node_count form)

  node_in : (i : ℕ) → i < node_count form → plain_node (words nodes_in) i ≡ plain_node form i
  node_in i h = plain_node-words nodes_in i no (rw length_in h) ∙ each_at (plain_node form) (node_count form) i no h

  condition_in : condition_of (words nodes_in) ≡ condition_of form
  unfolding condition_of
  condition_in =
      rw (
        node_count-words nodes_in,
        length_in,
        joined_same (λ i. entries_of i (plain_node (words nodes_in) i)) (λ i. entries_of i (plain_node form i)) (node_count form) (λ i h. ap (entries_of i) (node_in i h)),
      )

  pub length-built : length (condition_of form) ≡ 3 * node_count form + 1
  length-built = ap length (sym condition_in) ∙ length-condition nodes_in ∙ omega (arith, length_in)

  abbrev built_at : ℕ → Node
  built_at = plain_node (words (condition_of form))

  built-entry : (j : ℕ) → built_at j ≡ entry_at nodes_in j
  built-entry j = ap (λ (es : List Node). plain_node (words es) j) (sym condition_in)

  built_owned : Owned (plain_node form) built_at (node_count form)
  built_owned = record { owns = λ i r h k. built-entry (3 * i + r) ∙ each-entry (owned_entries nodes_in) r k (rw length_in h) (node_in i h) }

  built-last : built_at (3 * node_count form) ≡ not_entry (3 * node_count form - 1)
  built-last = built-entry (3 * node_count form) ∙ rw length_in at (last_entry nodes_in)

  -- where every node is formed, so is every entry, and the last is a test
  module _ (ws : List ℕ) (some : 0 < node_count form) (formed : (i : ℕ) → i < node_count form → is_formed (sort Stage.Passive ws (plain_node form) i) ≡ true) where
    pub entries_formed : (j : ℕ) → j < length (condition_of form) → is_formed (sort Stage.Condition ws built_at j) ≡ true
    entries_formed j h = entry-formed ws (plain_node form) built_at (node_count form) built_owned formed some built-last j (omega (arith, length-built))

    pub entries_end : (j : ℕ) → suc j ≡ length (condition_of form) → is_test (sort Stage.Condition ws built_at j) ≡ true
    entries_end j e =
        let z : j ≡ 3 * node_count form = omega (arith, length-built) in
        rw (z, last-test ws (plain_node form) built_at (node_count form) built_owned formed some built-last)
