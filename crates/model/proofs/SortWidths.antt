-- A sort's width is at most 32 where the widths of the fields (the variables) are. Assumes nothing.
use Prim.Native.Nat.{ℕ, ◌+◌, ◌-◌, ◌≤◌}
use native.Mathlib.Omega.{arith}
use mathlib.Core.Path.{◌≡◌, refl}
use mathlib.Core.Bool.{Bool, true, false, ◌&&◌}
use mathlib.Core.List.{List}
use lib.Dec.{ltb, leb}
use lib.ListN.{get_or, length, get_or-eq_default}
use borrow.Author.Tests.{ltb-true, ltb-false, leb-true}
use Rattle.bits.specs.Width.{fits}
use Rattle.model.specs.Nodes.{kind_of, unused_zero, width_of, is_test, is_statement, is_width, is_value, alike, only, sort_by, sort_of, sorts}
use Rattle.model.specs.declared.Node.{Node}
use Rattle.model.specs.declared.Kind.{Kind}
use Rattle.model.specs.declared.Stage.{Stage}
use Rattle.model.specs.declared.Sort.{Sort}
use Rattle.model.proofs.Booleans.{both_true}
use Rattle.model.proofs.Every.{made_has, build-has}
use Rattle.model.proofs.SortTests.{width-true, only-has}
use Rattle.model.proofs.GoodForms.{AllWidths}

-- where every width that is there is at most 32, so is every one, since past the end it is 0
pub all-narrow : (ws : List ℕ) → AllWidths ws → (x : ℕ) → get_or ws x 0 ≤ 32
all-narrow ws all x = go (ltb x (length ws)) refl
  where
    go : (b : Bool) → ltb x (length ws) ≡ b → get_or ws x 0 ≤ 32
    go true e = (all x (ltb-true x (length ws) e)).1
    go false e = omega (arith, get_or-eq_default ws 0 (ltb-false x (length ws) e))

only-narrow : (b : Bool) (s : Sort) → (b ≡ true → width_of s ≤ 32) → width_of (only b s) ≤ 32
only-narrow = only-has (λ s. width_of s ≤ 32) (omega arith)

module _ (ws : List ℕ) (tables : ℕ) (low : (x : ℕ) → get_or ws x 0 ≤ 32) where
  module _ (g : ℕ → Sort) (narrow : (x : ℕ) → width_of (g x) ≤ 32) where
    narrow_by : (k : Kind) (a b c : ℕ) → width_of (sort_by ws tables g k a b c) ≤ 32
    narrow_by Kind.Constant a b c =
        only-narrow (is_width b && fits b a) (Sort.Value b) λ e.
        (width-true b (both_true (is_width b) (fits b a) e).0).1
    narrow_by Kind.Field a b c = only-narrow (ltb a (length ws)) (Sort.Value (get_or ws a 0)) λ e. low a
    narrow_by Kind.Parameter a b c = only-narrow (is_width b) (Sort.Value b) λ e. (width-true b e).1
    narrow_by (Kind.Binary o) a b c = only-narrow (alike (g a) (g b)) (g a) λ e. narrow a
    narrow_by Kind.Complement a b c = only-narrow (is_value (g a)) (g a) λ e. narrow a
    narrow_by Kind.Slice a b c =
        only-narrow (ltb b (width_of (g a)) && leb c b) (Sort.Value (b - c + 1)) λ e.
        omega (arith, narrow a, ltb-true b (width_of (g a)) (both_true (ltb b (width_of (g a))) (leb c b) e).0)
    narrow_by Kind.Join a b c =
        let total = width_of (g a) + width_of (g b) in
        only-narrow (is_value (g a) && is_value (g b) && leb total 32) (Sort.Value total) λ e.
        leb-true total 32 (both_true (is_value (g a) && is_value (g b)) (leb total 32) e).1
    narrow_by Kind.Select a b c = only-narrow (is_test (g a) && alike (g b) (g c)) (g b) λ e. narrow b
    narrow_by Kind.Truth a b c = only-narrow (leb a 1) Sort.Test λ e. omega arith
    narrow_by (Kind.Compare o) a b c = only-narrow (alike (g a) (g b)) Sort.Test λ e. omega arith
    narrow_by Kind.Not a b c = only-narrow (is_test (g a)) Sort.Test λ e. omega arith
    narrow_by (Kind.Connect o) a b c = only-narrow (is_test (g a) && is_test (g b)) Sort.Test λ e. omega arith
    narrow_by Kind.Skip a b c = omega arith
    narrow_by Kind.Assign a b c = only-narrow (ltb a (length ws) && alike (g b) (Sort.Value (get_or ws a 0))) Sort.Statement λ e. omega arith
    narrow_by Kind.Havoc a b c = only-narrow (ltb a (length ws)) Sort.Statement λ e. omega arith
    narrow_by Kind.Assume a b c = only-narrow (is_test (g a)) Sort.Statement λ e. omega arith
    narrow_by Kind.Assert a b c = only-narrow (is_test (g a)) Sort.Statement λ e. omega arith
    narrow_by Kind.Sequence a b c = only-narrow (is_statement (g a) && is_statement (g b)) Sort.Statement λ e. omega arith
    narrow_by Kind.Choice a b c = only-narrow (is_statement (g a) && is_statement (g b)) Sort.Statement λ e. omega arith
    narrow_by Kind.Apply a b c = only-narrow (ltb a tables) Sort.Statement λ e. omega arith
    narrow_by Kind.Unknown a b c = omega arith

  module _ (stage : Stage) (nodes : ℕ → Node) where
    narrow_step : (before : List Sort) (i : ℕ) → ((x : ℕ) → width_of (get_or before x Sort.Malformed) ≤ 32) → width_of (sort_of stage ws tables before (nodes i)) ≤ 32
    unfolding sort_of
    narrow_step before i h =
        let m = nodes i in
        let k = kind_of stage m.kind in
        let g : ℕ → Sort = λ x. get_or before x Sort.Malformed in
        only-narrow (unused_zero k m) (sort_by ws tables g k m.a m.b m.c) λ e. narrow_by g h k m.a m.b m.c

    pub sort_width : (n x : ℕ) → width_of (get_or (sorts stage ws tables nodes n) x Sort.Malformed) ≤ 32
    sort_width n x =
        let f : List Sort → ℕ → Sort = λ before i. sort_of stage ws tables before (nodes i) in
        let narrow : Sort → Type 0 = λ s. width_of s ≤ 32 in
        build-has f narrow Sort.Malformed (omega arith) n x (λ j _. made_has f narrow Sort.Malformed (omega arith) narrow_step j)
