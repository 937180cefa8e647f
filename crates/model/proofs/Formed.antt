-- The nodes of a well-formed passive statement have their sorts. Assumes nothing.
use Prim.Native.Nat.{ℕ, suc, ◌+◌, ◌^◌, ◌<◌, ◌≤◌}
use native.Mathlib.Nat.{add-suc}
use native.Mathlib.Omega.{arith}
use mathlib.Core.Path.{◌≡◌, refl, ◌∙◌}
use mathlib.Core.Bool.{Bool, true, false}
use mathlib.Core.List.{List, [], ◌∷◌}
use lib.Dec.{ltb}
use lib.ListN.{get_or, length}
use borrow.Author.Tests.{lt-ltb, le-leb, eq-eqb, ltb-true, ltb-false}
use Rattle.model.specs.Lists.{build, times}
use Rattle.model.specs.Blocks.{node}
use Rattle.model.specs.Nodes.{number_of, allowed, unused_zero, is_formed, alike, sort_by, sort_of, sorts}
use Rattle.model.specs.Trees.{Val, Test}
use Rattle.model.specs.Good.{Width, width_of_value, GoodValue, GoodTest}
use Rattle.model.specs.Passive.{Passive, Equation, ◌then◌}
use Rattle.model.specs.Refusals.{sort_at}
use Rattle.model.specs.declared.Node.{Node}
use Rattle.model.specs.declared.Kind.{Kind}
use Rattle.model.specs.declared.Stage.{Stage}
use Rattle.model.specs.declared.Sort.{Sort}
use Rattle.model.proofs.Lists.{made, build-at}
use Rattle.model.proofs.KindNumbers.{kind_of-number, entry-allowed, binary-allowed, compare-allowed, connect-allowed}
use Rattle.model.proofs.GoodForms.{AllWidths, GoodEquations, GoodPassive}
use Rattle.model.proofs.NodeList.{Own, SpansValue, SpansTest, Tied, Joined, tied_order, SpansStatement, equality}

-- the width of a well-formed value is one
module _ (ws : List ℕ) (all : AllWidths ws) where
  pub value-width : (v : Val) → GoodValue ws v → Width (width_of_value ws v)
  unfolding GoodValue width_of_value
  value-width (Val.constant n w) g = g.0
  value-width (Val.field i) g = all i g
  value-width (Val.binary o a b) g = value-width a g.0
  value-width (Val.complement a) g = value-width a g
  value-width (Val.slice a high low) g = let h = value-width a g.0 in (omega arith, omega arith)
  value-width (Val.join a b) g = let h = value-width a g.0 in (omega arith, omega arith)
  value-width (Val.select t a b) g = value-width a g.1

-- ---- the sort of a node over the sorts of the nodes before it

module _ (stage : Stage) (ws : List ℕ) (nodes : ℕ → Node) where
  unfoldable pub step : List Sort → ℕ → Sort
  step before i = sort_of stage ws 0 before (nodes i)

  -- the sort that node i has
  unfoldable pub sort : ℕ → Sort
  sort i = made step i

  pub sorts-at : (n i : ℕ) → i < n → sort_at (sorts stage ws 0 nodes n) i ≡ sort i
  unfolding sort step
  sorts-at n i h = build-at step n i Sort.Malformed h

  pub sort_before : (i x : ℕ) {s : Sort} → x < i → sort x ≡ s → get_or (build step i) x Sort.Malformed ≡ s
  unfolding sort
  sort_before i x h e = build-at step i x Sort.Malformed h ∙ e

  pub node_sort_lem : (k : Kind) {i a b c : ℕ} → allowed stage (number_of k) ≡ true → unused_zero k (node (number_of k) a b c) ≡ true
      → nodes i ≡ node (number_of k) a b c → sort i ≡ sort_by ws 0 (λ x. get_or (build step i) x Sort.Malformed) k a b c
  unfolding sort step made sort_of
  node_sort_lem k h u e = rw (e, kind_of-number stage k h, u)

-- two values of one width
alike_values : {s t : Sort} (w v : ℕ) → s ≡ Sort.Value w → t ≡ Sort.Value v → w ≡ v → Width w → alike s t ≡ true
alike_values w v e f h k = rw (e, f, lt-ltb 0 w (omega arith), eq-eqb w v h)

module _ (ws : List ℕ) (all : AllWidths ws) (nodes : ℕ → Node) where
  -- the sorts of a passive form's nodes
  abbrev pub sort_here : ℕ → Sort
  sort_here = sort Stage.Passive ws nodes

  -- every node of a range is formed
  abbrev pub Range : ℕ → ℕ → Type 0
  Range from to = (j : ℕ) → from ≤ j → j < to → is_formed (sort_here j) ≡ true

  range_one : {i : ℕ} {s : Sort} → is_formed s ≡ true → sort_here i ≡ s → Range i (suc i)
  range_one {i} f e j h k = let z : j ≡ i = omega arith in rw (z, e) f

  range_join : (a b c : ℕ) → Range a b → Range b c → Range a c
  range_join a b c r s j h k = go (ltb j b) refl
    where
      go : (q : Bool) → ltb j b ≡ q → is_formed (sort_here j) ≡ true
      go true e = r j h (ltb-true j b e)
      go false e = s j (ltb-false j b e) k

  -- a piece from `at` to i: its own node has the sort s, and every node is formed
  pub record Well (at i : ℕ) (s : Sort) : Type 0 where
    pub own : sort_here i ≡ s
    pub formed : Range at (suc i)

  own_sort : (k : Kind) {i a b c : ℕ} {s : Sort} → allowed Stage.Passive (number_of k) ≡ true → unused_zero k (node (number_of k) a b c) ≡ true
      → nodes i ≡ node (number_of k) a b c → sort_by ws 0 (λ x. get_or (build (step Stage.Passive ws nodes) i) x Sort.Malformed) k a b c ≡ s
      → sort_here i ≡ s
  own_sort k h u e f = node_sort_lem Stage.Passive ws nodes k h u e ∙ f

  own-well : (k : Kind) {at i a b c : ℕ} {s : Sort} → allowed Stage.Passive (number_of k) ≡ true → unused_zero k (node (number_of k) a b c) ≡ true
      → is_formed s ≡ true → Own nodes (node (number_of k) a b c) at i
      → sort_by ws 0 (λ x. get_or (build (step Stage.Passive ws nodes) i) x Sort.Malformed) k a b c ≡ s → Well at i s
  own-well k {at} {i} h u f o e =
      let own = own_sort k h u o.is e in
      record { own = own; formed = rw o.alone (range_one f own) }

  -- a piece behind another
  behind : {at x i : ℕ} {s t : Sort} → Well at x s → Well (suc x) i t → Well at i t
  behind {at} {x} {i} a b = record { own = b.own; formed = range_join at (suc x) (suc i) a.formed b.formed }

  -- a child, as its parent's sort reads it
  child : {at x : ℕ} {s : Sort} (i : ℕ) → x < i → Well at x s → get_or (build (step Stage.Passive ws nodes) i) x Sort.Malformed ≡ s
  child i h w = sort_before Stage.Passive ws nodes i _ h w.own

  mutual
    unfolding SpansValue SpansTest GoodValue GoodTest width_of_value times

    pub value-well : (v : Val) (at i : ℕ) → GoodValue ws v → SpansValue nodes v at i → Well at i (Sort.Value (width_of_value ws v))
    value-well (Val.constant n w) at i g s =
        own-well Kind.Constant refl refl refl s (rw (le-leb 1 w g.0.0, le-leb w 32 g.0.1, lt-ltb n (2 ^ w) g.1))
    value-well (Val.field x) at i g s = own-well Kind.Field refl refl refl s (rw (lt-ltb x (length ws) g))
    value-well (Val.binary o a b) at i g s =
        let x = value-well a _ _ g.0 s.spans in
        let y = value-well b _ _ g.1 s.rest.spans in
        let e = child i (omega arith) x in
        let same = alike_values _ _ e (child i (omega arith) y) g.2 (value-width ws all a g.0) in
        behind x (behind y (own-well (Kind.Binary o) (entry-allowed (number_of (Kind.Binary o)) (binary-allowed o)) refl refl s.rest.rest (rw same e)))
    value-well (Val.complement a) at i g s =
        let x = value-well a _ _ g s.spans in
        let h = lt-ltb 0 (width_of_value ws a) (value-width ws all a g).0 in
        behind x (own-well Kind.Complement refl refl refl s.rest (rw (child i (omega arith) x, h)))
    value-well (Val.slice a high low) at i g s =
        let x = value-well a _ _ g.0 s.spans in
        let h = lt-ltb high (width_of_value ws a) g.1 in
        behind x (own-well Kind.Slice refl refl refl s.rest (rw (child i (omega arith) x, h, le-leb low high g.2)))
    value-well (Val.join a b) at i g s =
        let x = value-well a _ _ g.0 s.spans in
        let y = value-well b _ _ g.1 s.rest.spans in
        let h = lt-ltb 0 (width_of_value ws a) (value-width ws all a g.0).0 in
        let k = lt-ltb 0 (width_of_value ws b) (value-width ws all b g.1).0 in
        let l = le-leb (width_of_value ws a + width_of_value ws b) 32 g.2 in
        behind x (behind y (own-well Kind.Join refl refl refl s.rest.rest (rw (child i (omega arith) x, child i (omega arith) y, h, k, l))))
    value-well (Val.select t a b) at i g s =
        let x = test-well t _ _ g.0 s.spans in
        let y = value-well a _ _ g.1 s.rest.spans in
        let z = value-well b _ _ g.2 s.rest.rest.spans in
        let e = child i (omega arith) y in
        let same = alike_values _ _ e (child i (omega arith) z) g.3 (value-width ws all a g.1) in
        behind x (behind y (behind z (own-well Kind.Select refl refl refl s.rest.rest.rest (rw (child i (omega arith) x, same) e))))

    pub test-well : (t : Test) (at i : ℕ) → GoodTest ws t → SpansTest nodes t at i → Well at i Sort.Test
    test-well (Test.truth true) at i g s = own-well Kind.Truth refl refl refl s refl
    test-well (Test.truth false) at i g s = own-well Kind.Truth refl refl refl s refl
    test-well (Test.compare o a b) at i g s =
        let x = value-well a _ _ g.0 s.spans in
        let y = value-well b _ _ g.1 s.rest.spans in
        let same = alike_values _ _ (child i (omega arith) x) (child i (omega arith) y) g.2 (value-width ws all a g.0) in
        behind x (behind y (own-well (Kind.Compare o) (entry-allowed (number_of (Kind.Compare o)) (compare-allowed o)) refl refl s.rest.rest (rw same)))
    test-well (Test.not_test t) at i g s =
        let x = test-well t _ _ g s.spans in
        behind x (own-well Kind.Not refl refl refl s.rest (rw (child i (omega arith) x)))
    test-well (Test.connect o t u) at i g s =
        let x = test-well t _ _ g.0 s.spans in
        let y = test-well u _ _ g.1 s.rest.spans in
        let h = entry-allowed (number_of (Kind.Connect o)) (connect-allowed o) in
        behind x (behind y (own-well (Kind.Connect o) h refl refl s.rest.rest (rw (child i (omega arith) x, child i (omega arith) y))))

  -- a side's equations, behind a side that is a statement
  tied_well : (es : List Equation) (side at last end : ℕ) → GoodEquations ws es → Tied nodes es side at last end → side < at
      → sort_here side ≡ Sort.Statement → (sort_here last ≡ Sort.Statement) × Range at end
  unfolding Tied GoodEquations GoodValue GoodTest width_of_value times
  tied_well [] side at last end g t h e = (rw (← t.0) e, λ j l m. absurd (omega (arith, t.1)))
  tied_well (q ∷ es) side at last end g t h e =
      let x = test-well (equality q) _ _ (g.0, g.1, g.2) t.0.spans in
      let test-before = child (at + 3) (omega (arith, t.0.rest.alone)) x in
      let assumed : Well at (at + 3) Sort.Statement = behind x (own-well Kind.Assume refl refl refl t.0.rest (rw test-before)) in
      let o : Own nodes (node 37 side (at + 3) 0) (suc (at + 3)) (at + 4) = record { alone = omega arith; is = t.1 } in
      let before = sort_before Stage.Passive ws nodes (at + 4) side (omega arith) e in
      let assumed-before = child (at + 4) (omega arith) assumed in
      let five : Well at (at + 4) Sort.Statement = behind assumed (own-well Kind.Sequence refl refl refl o (rw (before, assumed-before))) in
      let more = tied_well es (at + 4) (at + 5) last end g.3 t.2 (omega arith) five.own in
      (more.0, range_join at (suc (at + 4)) end five.formed (rw (add-suc at 4) at more.1))

  joint_well : (xs ys : List Equation) (a b at i : ℕ) → GoodEquations ws xs → GoodEquations ws ys → Joined nodes xs ys a b at i → a < at → b < at
      → sort_here a ≡ Sort.Statement → sort_here b ≡ Sort.Statement → Well at i Sort.Statement
  unfolding times
  joint_well xs ys a b at i gx gy j ha hb ea eb =
      let left = tied_order nodes xs _ _ _ _ j.on_left ha in
      let right = tied_order nodes ys _ _ _ _ j.on_right (omega arith) in
      let l = tied_well xs _ _ _ _ gx j.on_left ha ea in
      let r = tied_well ys _ _ _ _ gy j.on_right (omega arith) eb in
      let x = sort_before Stage.Passive ws nodes i j.left (omega arith) l.0 in
      let y = sort_before Stage.Passive ws nodes i j.right (omega arith) r.0 in
      let own : sort_here i ≡ Sort.Statement = own_sort Kind.Choice refl refl j.is (rw (x, y)) in
      record { own = own; formed = range_join at j.between (suc i) l.1 (range_join j.between i (suc i) r.1 (range_one refl own)) }

  pub statement-well : (q : Passive) (at i : ℕ) → GoodPassive ws q → SpansStatement nodes q at i → Well at i Sort.Statement
  unfolding SpansStatement GoodPassive times
  statement-well Passive.skip at i g s = own-well Kind.Skip refl refl refl s refl
  statement-well (Passive.havoced x) at i g s = own-well Kind.Skip refl refl refl s refl
  statement-well (Passive.assume t) at i g s =
      let x = test-well t _ _ g s.spans in
      behind x (own-well Kind.Assume refl refl refl s.rest (rw (child i (omega arith) x)))
  statement-well (Passive.assert t) at i g s =
      let x = test-well t _ _ g s.spans in
      behind x (own-well Kind.Assert refl refl refl s.rest (rw (child i (omega arith) x)))
  statement-well (a then b) at i g s =
      let x = statement-well a _ _ g.0 s.spans in
      let y = statement-well b _ _ g.1 s.rest.spans in
      behind x (behind y (own-well Kind.Sequence refl refl refl s.rest.rest (rw (child i (omega arith) x, child i (omega arith) y))))
  statement-well (Passive.choice o a xs b ys) at i g s =
      let x = statement-well a _ _ g.0 s.spans in
      let y = statement-well b _ _ g.2 s.rest.spans in
      behind x (behind y (joint_well xs ys _ _ _ i g.1 g.3 s.rest.rest (omega arith) (omega arith) x.own y.own))
