-- A node's sort and its tree, from those of its children: where there is a sort, the tree is well formed and of that sort.
-- Assumes nothing.
use Prim.Native.Nat.{ℕ, ◌+◌, ◌-◌, ◌^◌, ◌<◌}
use native.Mathlib.Omega.{arith}
use mathlib.Core.Path.{subst, ◌≡◌, refl, sym, ◌∙◌}
use mathlib.Core.Bool.{Bool, true, ◌&&◌}
use mathlib.Core.List.{List, ◌++◌}
use lib.Dec.{ltb, leb}
use lib.ListN.{get_or, length}
use borrow.Author.Tests.{ltb-true, leb-true, lt-ltb}
use Rattle.bits.specs.Width.{fits}
use Rattle.model.specs.Nodes.{roles, child_in, width_of, is_test, is_statement, is_width, is_value, alike, only, sort_by}
use Rattle.model.specs.Trees.{Val, Tree, as_value, as_test, as_statement, tree_by}
use Rattle.model.specs.Good.{Width, width_of_value, GoodValue, GoodTest, Good}
use Rattle.model.specs.declared.Kind.{Kind}
use Rattle.model.specs.declared.Sort.{Sort}
use Rattle.model.proofs.Booleans.{both_true}
use Rattle.model.proofs.Every.{All}
use Rattle.model.proofs.SortTests.{width-true, only-has, value_is, test_is, statement_is, alike-parts}
use Rattle.model.proofs.GoodForms.{AllWidths}

module _ (ws : List ℕ) (tables : ℕ) where
  pub record Valued (w : ℕ) (t : Tree) : Type 0 where
    pub good : GoodValue ws (as_value t)
    pub width : width_of_value ws (as_value t) ≡ w
    pub bounds : Width w

  abbrev pub GoodAs : Sort → Tree → Type 0
  GoodAs Sort.Malformed t = Unit {0}
  GoodAs (Sort.Value w) t = Valued w t
  GoodAs Sort.Test t = GoodTest ws (as_test t)
  GoodAs Sort.Statement t = Good ws tables (as_statement t)

  -- the tree is well formed and of the sort; what has no sort may be anything
  pub record OfSort (s : Sort) (t : Tree) : Type 0 where
    pub formed : GoodAs s t

  pub fit : (s : Sort) {t : Tree} → GoodAs s t → OfSort s t
  fit s h = record { formed = h }

  pub only-fits : (good : Bool) (s : Sort) {t : Tree} → (good ≡ true → OfSort s t) → OfSort (only good s) t
  only-fits good s {t} h = only-has (λ s. OfSort s t) (fit Sort.Malformed tt) good s h

  -- a sort that passes a test, read as what the test says
  as_value_lem : {s : Sort} {t : Tree} → is_value s ≡ true → OfSort s t → Valued (width_of s) t
  as_value_lem {s} {t} e h = (subst (λ (s : Sort). OfSort s t) (value_is s e) h).formed

  of_value : (s : Sort) {t : Tree} → is_value s ≡ true → Valued (width_of s) t → OfSort s t
  of_value s {t} e h = subst (λ (s : Sort). OfSort s t) (sym (value_is s e)) (fit (Sort.Value (width_of s)) h)

  as_test_lem : {s : Sort} {t : Tree} → is_test s ≡ true → OfSort s t → GoodTest ws (as_test t)
  as_test_lem {s} {t} e h = (subst (λ (s : Sort). OfSort s t) (test_is s e) h).formed

  pub as_statement_lem : {s : Sort} {t : Tree} → is_statement s ≡ true → OfSort s t → Good ws tables (as_statement t)
  as_statement_lem {s} {t} e h = (subst (λ (s : Sort). OfSort s t) (statement_is s e) h).formed

  -- two values of equal widths
  record Same (s : Sort) (x y : Tree) : Type 0 where
    is_one : is_value s ≡ true
    left : Valued (width_of s) x
    right : GoodValue ws (as_value y)
    same : width_of_value ws (as_value x) ≡ width_of_value ws (as_value y)

  both_alike : {s t : Sort} {x y : Tree} → alike s t ≡ true → OfSort s x → OfSort t y → Same s x y
  both_alike {s} {t} e h k =
      let b = alike-parts s t e in
      let hx = as_value_lem b.0 h in
      let ky = as_value_lem b.1 k in
      record { is_one = b.0; left = hx; right = ky.good; same = hx.width ∙ b.2 ∙ sym ky.width }

  -- a value whose width is that of the first of two
  over-same : {s : Sort} {x y : Tree} (t : Tree) → Same s x y → GoodValue ws (as_value t)
      → width_of_value ws (as_value t) ≡ width_of_value ws (as_value x) → OfSort s t
  over-same {s} t h good same = of_value s h.is_one (record { good = good; width = same ∙ h.left.width; bounds = h.left.bounds })

  both_tests : {s t : Sort} {x y : Tree} → is_test s && is_test t ≡ true → OfSort s x → OfSort t y → GoodTest ws (as_test x) × GoodTest ws (as_test y)
  both_tests {s} {t} e h k = let b = both_true (is_test s) (is_test t) e in (as_test_lem b.0 h, as_test_lem b.1 k)

  both_statements : {s t : Sort} {x y : Tree} → is_statement s && is_statement t ≡ true → OfSort s x → OfSort t y
      → Good ws tables (as_statement x) × Good ws tables (as_statement y)
  both_statements {s} {t} e h k = let b = both_true (is_statement s) (is_statement t) e in (as_statement_lem b.0 h, as_statement_lem b.1 k)

  constant-fits : (n w : ℕ) → is_width w ≡ true → n < 2 ^ w → OfSort (Sort.Value w) (Tree.value (Val.constant n w))
  unfolding GoodValue width_of_value
  constant-fits n w e h = fit (Sort.Value w) (record { good = (width-true w e, h); width = refl; bounds = width-true w e })

  -- what a node's place must give beside its sort: a datum that fits, a table that may be applied
  pub record Placed (count : ℕ) (given : List ℕ) (k : Kind) (a b : ℕ) : Type 0 where
    pub parameter : k ≡ Kind.Parameter → get_or given a 0 < 2 ^ b
    pub apply : k ≡ Kind.Apply → a < count → a < tables

  module _ (all : AllWidths ws) (count : ℕ) (given : List ℕ) (sort : ℕ → Sort) (tree : ℕ → Tree) (i : ℕ) where
    -- where the children's trees fit their sorts, the node's fits the sort it has
    abbrev pub Follows : Kind → ℕ → ℕ → ℕ → Type 0
    Follows k a b c = OfSort (sort_by ws count sort k a b c) (tree_by given tree i k a b c)

    slice_fits : (a b c : ℕ) → OfSort (sort a) (tree a) → Follows Kind.Slice a b c
    unfolding GoodValue width_of_value
    slice_fits a b c h =
        only-fits (ltb b (width_of (sort a)) && leb c b) (Sort.Value (b - c + 1)) λ e.
        let x = both_true (ltb b (width_of (sort a))) (leb c b) e in
        let high = ltb-true b (width_of (sort a)) x.0 in
        let low = leb-true c b x.1 in
        let v = as_value_lem (lt-ltb 0 (width_of (sort a)) (omega arith)) h in
        fit (Sort.Value (b - c + 1)) (record { good = (v.good, rw v.width high, low); width = refl; bounds = (omega arith, omega arith) })

    join-fits : (a b c : ℕ) → OfSort (sort a) (tree a) → OfSort (sort b) (tree b) → Follows Kind.Join a b c
    unfolding GoodValue width_of_value
    join-fits a b c h k =
        let total = width_of (sort a) + width_of (sort b) in
        only-fits (is_value (sort a) && is_value (sort b) && leb total 32) (Sort.Value total) λ e.
        let x = both_true (is_value (sort a) && is_value (sort b)) (leb total 32) e in
        let y = both_true (is_value (sort a)) (is_value (sort b)) x.0 in
        let most = leb-true total 32 x.1 in
        let l = as_value_lem y.0 h in
        let r = as_value_lem y.1 k in
        fit (Sort.Value total)
        (record { good = (l.good, r.good, rw (l.width, r.width) most); width = rw (l.width, r.width); bounds = (omega arith, most) })

    select-fits : (a b c : ℕ) → OfSort (sort a) (tree a) → OfSort (sort b) (tree b) → OfSort (sort c) (tree c) → Follows Kind.Select a b c
    unfolding GoodValue width_of_value
    select-fits a b c h k l =
        only-fits (is_test (sort a) && alike (sort b) (sort c)) (sort b) λ e.
        let x = both_true (is_test (sort a)) (alike (sort b) (sort c)) e in
        let s = both_alike x.1 k l in
        over-same _ s (as_test_lem x.0 h, s.left.good, s.right, s.same) refl

    field_fits : (a : ℕ) → a < length ws → OfSort (Sort.Value (get_or ws a 0)) (Tree.value (Val.field a))
    unfolding GoodValue width_of_value
    field_fits a h = fit (Sort.Value (get_or ws a 0)) (record { good = h; width = refl; bounds = all a h })

    assign-fits : (a b c : ℕ) → OfSort (sort b) (tree b) → Follows Kind.Assign a b c
    unfolding Good width_of_value
    assign-fits a b c h =
        let w = get_or ws a 0 in
        only-fits (ltb a (length ws) && alike (sort b) (Sort.Value w)) Sort.Statement λ e.
        let x = both_true (ltb a (length ws)) (alike (sort b) (Sort.Value w)) e in
        let there = ltb-true a (length ws) x.0 in
        let s = both_alike x.1 h (field_fits a there) in
        fit Sort.Statement (there, s.left.good, s.same)

    pub node-fits : (k : Kind) (a b c : ℕ) → Placed count given k a b
        → All (λ j. OfSort (sort j) (tree j)) (child_in (roles k).a a ++ child_in (roles k).b b ++ child_in (roles k).c c) → Follows k a b c
    unfolding GoodValue GoodTest Good width_of_value
    node-fits Kind.Constant a b c p h =
        only-fits (is_width b && fits b a) (Sort.Value b) λ e.
        let x = both_true (is_width b) (fits b a) e in constant-fits a b x.0 (ltb-true a (2 ^ b) x.1)
    node-fits Kind.Field a b c p h = only-fits (ltb a (length ws)) (Sort.Value (get_or ws a 0)) λ e. field_fits a (ltb-true a (length ws) e)
    node-fits Kind.Parameter a b c p h = only-fits (is_width b) (Sort.Value b) λ e. constant-fits (get_or given a 0) b e (p.parameter refl)
    node-fits (Kind.Binary o) a b c p h =
        only-fits (alike (sort a) (sort b)) (sort a) λ e.
        let s = both_alike e h.0 h.1.0 in over-same _ s (s.left.good, s.right, s.same) refl
    node-fits Kind.Complement a b c p h =
        only-fits (is_value (sort a)) (sort a) λ e.
        let v = as_value_lem e h.0 in of_value (sort a) e (record { good = v.good; width = v.width; bounds = v.bounds })
    node-fits Kind.Slice a b c p h = slice_fits a b c h.0
    node-fits Kind.Join a b c p h = join-fits a b c h.0 h.1.0
    node-fits Kind.Select a b c p h = select-fits a b c h.0 h.1.0 h.1.1.0
    node-fits Kind.Truth a b c p h = only-fits (leb a 1) Sort.Test λ e. fit Sort.Test tt
    node-fits (Kind.Compare o) a b c p h =
        only-fits (alike (sort a) (sort b)) Sort.Test λ e.
        let s = both_alike e h.0 h.1.0 in fit Sort.Test (s.left.good, s.right, s.same)
    node-fits Kind.Not a b c p h = only-fits (is_test (sort a)) Sort.Test λ e. fit Sort.Test (as_test_lem e h.0)
    node-fits (Kind.Connect o) a b c p h =
        only-fits (is_test (sort a) && is_test (sort b)) Sort.Test λ e. fit Sort.Test (both_tests e h.0 h.1.0)
    node-fits Kind.Skip a b c p h = fit Sort.Statement tt
    node-fits Kind.Assign a b c p h = assign-fits a b c h.0
    node-fits Kind.Havoc a b c p h = only-fits (ltb a (length ws)) Sort.Statement λ e. fit Sort.Statement (ltb-true a (length ws) e)
    node-fits Kind.Assume a b c p h = only-fits (is_test (sort a)) Sort.Statement λ e. fit Sort.Statement (as_test_lem e h.0)
    node-fits Kind.Assert a b c p h = only-fits (is_test (sort a)) Sort.Statement λ e. fit Sort.Statement (as_test_lem e h.0)
    node-fits Kind.Sequence a b c p h =
        only-fits (is_statement (sort a) && is_statement (sort b)) Sort.Statement λ e. fit Sort.Statement (both_statements e h.0 h.1.0)
    node-fits Kind.Choice a b c p h =
        only-fits (is_statement (sort a) && is_statement (sort b)) Sort.Statement λ e. fit Sort.Statement (both_statements e h.0 h.1.0)
    node-fits Kind.Apply a b c p h = only-fits (ltb a count) Sort.Statement λ e. fit Sort.Statement (p.apply refl (ltb-true a count e))
    node-fits Kind.Unknown a b c p h = fit Sort.Malformed tt
