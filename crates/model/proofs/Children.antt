-- The children of a node that has a sort stand before it. Assumes nothing.
use Prim.Native.Nat.{ℕ, ◌+◌, ◌-◌, ◌<◌}
use native.Mathlib.Omega.{arith}
use mathlib.Core.Path.{◌≡◌}
use mathlib.Core.Bool.{true, ◌&&◌}
use mathlib.Core.List.{List, ◌++◌}
use lib.Dec.{ltb, leb}
use lib.ListN.{get_or, length}
use borrow.Author.Tests.{lt-ltb, ltb-true}
use Rattle.model.specs.Lists.{build}
use Rattle.model.specs.Nodes.{kind_of, roles, child_in, unused_zero, width_of, is_test, is_statement, is_formed, is_value, alike, sort_by, sort_of}
use Rattle.model.specs.declared.Kind.{Kind}
use Rattle.model.specs.declared.Node.{Node}
use Rattle.model.specs.declared.Role.{Role}
use Rattle.model.specs.declared.Role.TheVariants.{Child, Number, Unused}
use Rattle.model.specs.declared.Sort.{Sort}
use Rattle.model.specs.declared.Stage.{Stage}
use Rattle.model.proofs.Booleans.{both_true}
use Rattle.model.proofs.Every.{All, all_append}
use Rattle.model.proofs.SortTests.{only-formed, test_is, statement_is, alike-parts, value-formed, formed-before}

module _ (i : ℕ) where
  -- a word of node i that is a child's number is below i; the other words may be anything
  abbrev pub BeforeIn : Role → ℕ → Type 0
  BeforeIn Child x = x < i
  BeforeIn Number x = Unit {0}
  BeforeIn Unused x = Unit {0}

  child_before : (r : Role) (x : ℕ) → BeforeIn r x → All (λ y. y < i) (child_in r x)
  child_before Child x h = (h, tt)
  child_before Number x h = tt
  child_before Unused x h = tt

  abbrev pub BeforeAll : Kind → ℕ → ℕ → ℕ → Type 0
  BeforeAll k a b c = BeforeIn (roles k).a a × BeforeIn (roles k).b b × BeforeIn (roles k).c c

  module _ (ws : List ℕ) (tables : ℕ) (sort : ℕ → Sort) (before : (x : ℕ) → is_formed (sort x) ≡ true → x < i) where
    value_before : (x : ℕ) → is_value (sort x) ≡ true → x < i
    value_before x h = before x (value-formed (sort x) h)

    test-before : (x : ℕ) → is_test (sort x) ≡ true → x < i
    test-before x h = before x (rw (test_is (sort x) h))

    tests_before : (x y : ℕ) → is_test (sort x) && is_test (sort y) ≡ true → (x < i) × (y < i)
    tests_before x y h = let b = both_true (is_test (sort x)) (is_test (sort y)) h in (test-before x b.0, test-before y b.1)

    statements_before : (x y : ℕ) → is_statement (sort x) && is_statement (sort y) ≡ true → (x < i) × (y < i)
    statements_before x y h =
        let b = both_true (is_statement (sort x)) (is_statement (sort y)) h in
        (before x (rw (statement_is (sort x) b.0)), before y (rw (statement_is (sort y) b.1)))

    alike-before : (x y : ℕ) → alike (sort x) (sort y) ≡ true → (x < i) × (y < i)
    alike-before x y h = let v = alike-parts (sort x) (sort y) h in (value_before x v.0, value_before y v.1)

    slice-before : (a b c : ℕ) → ltb b (width_of (sort a)) && leb c b ≡ true → a < i
    slice-before a b c e =
        let high = ltb-true b (width_of (sort a)) (both_true (ltb b (width_of (sort a))) (leb c b) e).0 in
        value_before a (lt-ltb 0 (width_of (sort a)) (omega arith))

    join-before : (a b : ℕ) → is_value (sort a) && is_value (sort b) && leb (width_of (sort a) + width_of (sort b)) 32 ≡ true → (a < i) × (b < i)
    join-before a b e =
        let h = both_true (is_value (sort a) && is_value (sort b)) (leb (width_of (sort a) + width_of (sort b)) 32) e in
        let v = both_true (is_value (sort a)) (is_value (sort b)) h.0 in
        (value_before a v.0, value_before b v.1)

    select-before : (a b c : ℕ) → is_test (sort a) && alike (sort b) (sort c) ≡ true → BeforeAll Kind.Select a b c
    select-before a b c e =
        let h = both_true (is_test (sort a)) (alike (sort b) (sort c)) e in
        let v = alike-before b c h.1 in
        (test-before a h.0, v.0, v.1)

    assign-before : (a b : ℕ) → ltb a (length ws) && alike (sort b) (Sort.Value (get_or ws a 0)) ≡ true → b < i
    assign-before a b e =
        let v = Sort.Value (get_or ws a 0) in
        value_before b (alike-parts (sort b) v (both_true (ltb a (length ws)) (alike (sort b) v) e).1).0

    pub kind_before : (k : Kind) (a b c : ℕ) → is_formed (sort_by ws tables sort k a b c) ≡ true → BeforeAll k a b c
    kind_before Kind.Constant a b c e = (tt, tt, tt)
    kind_before Kind.Field a b c e = (tt, tt, tt)
    kind_before Kind.Parameter a b c e = (tt, tt, tt)
    kind_before (Kind.Binary o) a b c e = let v = alike-before a b (only-formed (alike (sort a) (sort b)) (sort a) e).0 in (v.0, v.1, tt)
    kind_before Kind.Complement a b c e = (value_before a (only-formed (is_value (sort a)) (sort a) e).0, tt, tt)
    kind_before Kind.Slice a b c e = (slice-before a b c (only-formed (ltb b (width_of (sort a)) && leb c b) (Sort.Value (b - c + 1)) e).0, tt, tt)
    kind_before Kind.Join a b c e =
        let total = width_of (sort a) + width_of (sort b) in
        let v = join-before a b (only-formed (is_value (sort a) && is_value (sort b) && leb total 32) (Sort.Value total) e).0 in
        (v.0, v.1, tt)
    kind_before Kind.Select a b c e = select-before a b c (only-formed (is_test (sort a) && alike (sort b) (sort c)) (sort b) e).0
    kind_before Kind.Truth a b c e = (tt, tt, tt)
    kind_before (Kind.Compare o) a b c e = let v = alike-before a b (only-formed (alike (sort a) (sort b)) Sort.Test e).0 in (v.0, v.1, tt)
    kind_before Kind.Not a b c e = (test-before a (only-formed (is_test (sort a)) Sort.Test e).0, tt, tt)
    kind_before (Kind.Connect o) a b c e = let v = tests_before a b (only-formed (is_test (sort a) && is_test (sort b)) Sort.Test e).0 in (v.0, v.1, tt)
    kind_before Kind.Skip a b c e = (tt, tt, tt)
    kind_before Kind.Assign a b c e =
        (tt, assign-before a b (only-formed (ltb a (length ws) && alike (sort b) (Sort.Value (get_or ws a 0))) Sort.Statement e).0, tt)
    kind_before Kind.Havoc a b c e = (tt, tt, tt)
    kind_before Kind.Assume a b c e = (test-before a (only-formed (is_test (sort a)) Sort.Statement e).0, tt, tt)
    kind_before Kind.Assert a b c e = (test-before a (only-formed (is_test (sort a)) Sort.Statement e).0, tt, tt)
    kind_before Kind.Sequence a b c e = let v = statements_before a b (only-formed (is_statement (sort a) && is_statement (sort b)) Sort.Statement e).0 in (v.0, v.1, tt)
    kind_before Kind.Choice a b c e = let v = statements_before a b (only-formed (is_statement (sort a) && is_statement (sort b)) Sort.Statement e).0 in (v.0, v.1, tt)
    kind_before Kind.Apply a b c e = (tt, tt, tt)
    kind_before Kind.Unknown a b c e = (tt, tt, tt)

-- where the sorts are made front to back: the children of node i by its kind at a stage
pub formed-children : (f : List Sort → ℕ → Sort) (stage : Stage) (ws : List ℕ) (tables i : ℕ) (n : Node)
    → is_formed (sort_of stage ws tables (build f i) n) ≡ true
    → let w = roles (kind_of stage n.kind) in All (λ x. x < i) (child_in w.a n.a ++ child_in w.b n.b ++ child_in w.c n.c)
unfolding sort_of
formed-children f stage ws tables i n e =
    let k = kind_of stage n.kind in
    let sort : ℕ → Sort = λ x. get_or (build f i) x Sort.Malformed in
    let h = kind_before i ws tables sort (formed-before f i) k n.a n.b n.c
    (only-formed (unused_zero k n) (sort_by ws tables sort k n.a n.b n.c) e).1 in
    let below : ℕ → Type 0 = λ x. x < i in
    let a = child_in (roles k).a n.a in
    let b = child_in (roles k).b n.b in
    all_append below (a ++ b) (child_in (roles k).c n.c)
    (all_append below a b (child_before i (roles k).a n.a h.0) (child_before i (roles k).b n.b h.1))
    (child_before i (roles k).c n.c h.2)
