-- The condition's words, evaluated in order, say what the passive tree says. Assumes nothing.
use Prim.Native.Nat.{ℕ, suc, ◌+◌, ◌*◌, ◌-◌, ◌<◌, ◌≤◌}
use native.Mathlib.Omega.{arith}
use mathlib.Core.Bool.{Bool, true, false, not, ◌&&◌, ◌||◌}
use mathlib.Core.Path.{◌≡◌, refl, sym, ap, ap₂, subst, ◌∙◌}
use mathlib.Core.List.{List, [], ◌∷◌}
use lib.Dec.{eqb}
use lib.ListN.{get_or, length}
use Rattle.model.specs.Lists.{build, times}
use Rattle.model.specs.Blocks.{node, words, plain_node}
use Rattle.model.specs.Nodes.{number_of, allowed}
use Rattle.model.specs.Trees.{Val, Test, of_width, binary_bits, complement_bits, slice_bits, join_bits, compare_bits, connected, bits_of, truth_of, bits_in}
use Rattle.model.specs.Passive.{Passive, Equation, ◌then◌}
use Rattle.model.specs.Emit.{emit, top}
use Rattle.model.specs.Condition.{node_count, not_entry, entries_of, condition_of, bit, is_on, bits_by, entry_bits, evaluated}
use Rattle.model.specs.Walk.{equal, goes_on, goes_wrong}
use Rattle.model.specs.Calls.{condition_truth}
use Rattle.model.specs.declared.Bits.{Bits}
use Rattle.model.specs.declared.Node.{Node}
use Rattle.model.specs.declared.Connective.{Connective}
use Rattle.model.specs.declared.Kind.{Kind}
use Rattle.model.specs.declared.Stage.{Stage}
use Rattle.model.proofs.Booleans.{and_self, and_true, and_assoc, no-more-wrong}
use Rattle.model.proofs.Lists.{made, build-at, build-last}
use Rattle.model.proofs.KindNumbers.{kind_of-number, binary-allowed, compare-allowed, connect-allowed}
use Rattle.model.proofs.NodeList.{node_count-words, SpansValue, SpansTest, Tied, tied_order, SpansStatement, gives_statement, emitted_spans, equality}
use Rattle.model.proofs.Entries.{over_entries, expression_entry, length-condition, entry_at, Owned, each-entry, first_entry, owned_entries, last_entry}

-- ---- bits of tests

is_bit : (b : Bool) → is_on (bit b) ≡ b
is_bit true = refl
is_bit false = refl

-- ---- an entry over the entries before it

module _ (vals : ℕ → Bits) (entries : ℕ → Node) where
  step : List Bits → ℕ → Bits
  step before i = entry_bits vals before (entries i)

  -- the bits that entry j comes to
  comes : ℕ → Bits
  comes j = made step j

  read : (j c : ℕ) {x : Bits} → c < j → comes c ≡ x → get_or (build step j) c (of_width 0 0) ≡ x
  unfolding comes
  read j c h e = build-at step j c (of_width 0 0) h ∙ e

  entry_bits_lem : (k : Kind) {j a b c : ℕ} → allowed Stage.Condition (number_of k) ≡ true → entries j ≡ node (number_of k) a b c
      → comes j ≡ bits_by vals (λ x. get_or (build step j) x (of_width 0 0)) k a b c
  unfolding comes step made
  entry_bits_lem k h e = rw (e, kind_of-number Stage.Condition k h)

  -- entry j is a test's, and p is its truth
  record Says (j : ℕ) (p : Bool) : Type 0 where
    is : comes j ≡ bit p

  connect_says : (o : Connective) {j a b : ℕ} {p q : Bool} → entries j ≡ node (number_of (Kind.Connect o)) a b 0 → a < j → b < j
      → Says a p → Says b q → Says j (connected o p q)
  connect_says o {j} {a} {b} {p} {q} e ha hb x y =
      record { is = entry_bits_lem (Kind.Connect o) (connect-allowed o) e ∙ rw (read j a ha x.is, read j b hb y.is, is_bit p, is_bit q) }

  not_says : {j a : ℕ} {p : Bool} → entries j ≡ not_entry a → a < j → Says a p → Says j (not p)
  unfolding times
  not_says {j} {a} {p} e h x = record { is = entry_bits_lem Kind.Not refl e ∙ rw (read j a h x.is, is_bit p) }

  truth_says : {j a : ℕ} → entries j ≡ node 16 a 0 0 → Says j (eqb a 1)
  unfolding times
  truth_says e = record { is = entry_bits_lem Kind.Truth refl e }

  -- ---- the entries of the nodes, of which each owns three

  module _ (nodes : ℕ → Node) (n : ℕ) (owned : Owned nodes entries n) where
    own-entry : (k : Kind) {i a b c : ℕ} → allowed Stage.Condition (number_of k) ≡ true → i < n → nodes i ≡ node (number_of k) a b c
        → entries (3 * i) ≡ over_entries k a b c
    own-entry k {i} {a} {b} {c} h l e = first_entry owned l e ∙ expression_entry k i a b c h

    own_bits : (k : Kind) {i a b c : ℕ} → allowed Stage.Condition (number_of k) ≡ true → i < n → nodes i ≡ node (number_of k) a b c
        → let m = over_entries k a b c in comes (3 * i) ≡ bits_by vals (λ x. get_or (build step (3 * i)) x (of_width 0 0)) k m.a m.b m.c
    own_bits k h l e = entry_bits_lem k h (own-entry k h l e)

    -- a child's first entry, as its parent's reads it
    child_bits : {i x : ℕ} {v : Bits} → i < n → (x < n → comes (3 * x) ≡ v) → x < i → get_or (build step (3 * i)) (3 * x) (of_width 0 0) ≡ v
    child_bits {i} {x} l f h = read (3 * i) (3 * x) (omega arith) (f (omega arith))

    -- ---- values and tests

    mutual
      unfolding SpansValue SpansTest bits_of truth_of times

      value_bits : (v : Val) (at i : ℕ) → SpansValue nodes v at i → i < n → comes (3 * i) ≡ bits_of vals v
      value_bits (Val.constant m w) at i s l = own_bits Kind.Constant refl l s.is
      value_bits (Val.field x) at i s l = own_bits Kind.Field refl l s.is
      value_bits (Val.binary o a b) at i s l =
          let x = child_bits l (λ h. value_bits a _ _ s.spans h) (omega arith) in
          let y = child_bits l (λ h. value_bits b _ _ s.rest.spans h) (omega arith) in
          own_bits (Kind.Binary o) (binary-allowed o) l s.rest.rest.is ∙ ap₂ (binary_bits o) x y
      value_bits (Val.complement a) at i s l =
          let x = child_bits l (λ h. value_bits a _ _ s.spans h) (omega arith) in
          own_bits Kind.Complement refl l s.rest.is ∙ ap complement_bits x
      value_bits (Val.slice a high low) at i s l =
          let x = child_bits l (λ h. value_bits a _ _ s.spans h) (omega arith) in
          own_bits Kind.Slice refl l s.rest.is ∙ ap (λ (v : Bits). slice_bits v high low) x
      value_bits (Val.join a b) at i s l =
          let x = child_bits l (λ h. value_bits a _ _ s.spans h) (omega arith) in
          let y = child_bits l (λ h. value_bits b _ _ s.rest.spans h) (omega arith) in
          own_bits Kind.Join refl l s.rest.rest.is ∙ ap₂ join_bits x y
      value_bits (Val.select t a b) at i s l =
          let x = child_bits l (λ h. (test_says t _ _ s.spans h).is) (omega arith) in
          let y = child_bits l (λ h. value_bits a _ _ s.rest.spans h) (omega arith) in
          let z = child_bits l (λ h. value_bits b _ _ s.rest.rest.spans h) (omega arith) in
          own_bits Kind.Select refl l s.rest.rest.rest.is ∙ rw (x, y, z, is_bit (truth_of vals t))

      test_says : (t : Test) (at i : ℕ) → SpansTest nodes t at i → i < n → Says (3 * i) (truth_of vals t)
      test_says (Test.truth b) at i s l = subst (Says (3 * i)) (is_bit b) (truth_says (own-entry Kind.Truth refl l s.is))
      test_says (Test.compare o a b) at i s l =
          let x = child_bits l (λ h. value_bits a _ _ s.spans h) (omega arith) in
          let y = child_bits l (λ h. value_bits b _ _ s.rest.spans h) (omega arith) in
          record { is = own_bits (Kind.Compare o) (compare-allowed o) l s.rest.rest.is ∙ ap₂ (λ (v w : Bits). bit (compare_bits o v w)) x y }
      test_says (Test.not_test t) at i s l = not_says (own-entry Kind.Not refl l s.rest.is) (omega arith) (test_says t _ _ s.spans (omega arith))
      test_says (Test.connect o t u) at i s l =
          let x = test_says t _ _ s.spans (omega arith) in
          let y = test_says u _ _ s.rest.spans (omega arith) in
          connect_says o (own-entry (Kind.Connect o) (connect-allowed o) l s.rest.rest.is) (omega arith) (omega arith) x y

    -- ---- statements

    -- node i goes on, and goes wrong
    record Both (i : ℕ) (p w : Bool) : Type 0 where
      goes : Says (3 * i) p
      fails : Says (3 * i + 2) w

    skip_both : {i : ℕ} → i < n → nodes i ≡ node 32 0 0 0 → Both i true false
    unfolding entries_of
    skip_both l e = record { goes = truth_says (first_entry owned l e); fails = truth_says (each-entry owned 2 (omega arith) l e) }

    assume_both : {i x : ℕ} {p : Bool} → i < n → nodes i ≡ node 35 x 0 0 → x < i → Says (3 * x) p → Both i p false
    unfolding entries_of
    assume_both {i} {x} {p} l e h c = record {
      goes = subst (Says (3 * i)) (and_self p) (connect_says Connective.And (first_entry owned l e) (omega arith) (omega arith) c c);
      fails = truth_says (each-entry owned 2 (omega arith) l e);
    }

    assert_both : {i x : ℕ} {p : Bool} → i < n → nodes i ≡ node 36 x 0 0 → x < i → Says (3 * x) p → Both i p (not p)
    unfolding entries_of
    assert_both {i} {x} {p} l e h c = record {
      goes = subst (Says (3 * i)) (and_self p) (connect_says Connective.And (first_entry owned l e) (omega arith) (omega arith) c c);
      fails = not_says (each-entry owned 2 (omega arith) l e) (omega arith) c;
    }

    module _ {i x y : ℕ} {p w q v : Bool} (l : i < n) (hx : x < i) (hy : y < i) (a : Both x p w) (b : Both y q v) where
      sequence_both : nodes i ≡ node 37 x y 0 → Both i (p && q) (w || (p && v))
      unfolding entries_of
      sequence_both e =
          let helper = connect_says Connective.And (each-entry owned 1 (omega arith) l e) (omega arith) (omega arith) a.goes b.fails in
          record {
            goes = connect_says Connective.And (first_entry owned l e) (omega arith) (omega arith) a.goes b.goes;
            fails = connect_says Connective.Or (each-entry owned 2 (omega arith) l e) (omega arith) (omega arith) a.fails helper;
          }

      choice_both : nodes i ≡ node 38 x y 0 → Both i (p || q) (w || v)
      unfolding entries_of
      choice_both e = record {
        goes = connect_says Connective.Or (first_entry owned l e) (omega arith) (omega arith) a.goes b.goes;
        fails = connect_says Connective.Or (each-entry owned 2 (omega arith) l e) (omega arith) (omega arith) a.fails b.fails;
      }

    -- a side's equations: the side goes on where it went on and they hold, and goes wrong where it did
    tied_both : (es : List Equation) (side at last end : ℕ) (p w : Bool) → Tied nodes es side at last end → side < at → end ≤ n → Both side p w
        → Both last (p && equal vals es) w
    unfolding Tied equal SpansTest SpansValue bits_of truth_of
    tied_both [] side at last end p w t h l b = subst (λ (s : ℕ). Both s (p && true) w) t.0 (subst (λ (q : Bool). Both side q w) (sym (and_true p)) b)
    tied_both (e ∷ es) side at last end p w t h l b =
        let o = tied_order nodes es (at + 4) (at + 5) last end t.2 (omega arith) in
        let q = truth_of vals (equality e) in
        let c = test_says (equality e) _ _ t.0.spans (omega arith) in
        let assumed : Both (at + 3) q false = assume_both (omega arith) t.0.rest.is (omega arith) c in
        let both : Both (at + 4) (p && q) (w || (p && false)) = sequence_both (omega arith) (omega arith) (omega arith) b assumed t.1 in
        let both' = subst (Both (at + 4) (p && q)) (no-more-wrong w p) both in
        subst (λ (r : Bool). Both last r w) (and_assoc p q (equal vals es)) (tied_both es (at + 4) (at + 5) last end (p && q) w t.2 (omega arith) l both')

    statement_both : (q : Passive) (at i : ℕ) → SpansStatement nodes q at i → i < n → Both i (goes_on vals q) (goes_wrong vals q)
    unfolding SpansStatement goes_on goes_wrong
    statement_both Passive.skip at i s l = skip_both l s.is
    statement_both (Passive.havoced x) at i s l = skip_both l s.is
    statement_both (Passive.assume t) at i s l = assume_both l s.rest.is (omega arith) (test_says t _ _ s.spans (omega arith))
    statement_both (Passive.assert t) at i s l = assert_both l s.rest.is (omega arith) (test_says t _ _ s.spans (omega arith))
    statement_both (a then b) at i s l =
        let x = statement_both a _ _ s.spans (omega arith) in
        let y = statement_both b _ _ s.rest.spans (omega arith) in
        sequence_both l (omega arith) (omega arith) x y s.rest.rest.is
    statement_both (Passive.choice o a xs b ys) at i s l =
        let j = s.rest.rest in
        let left = tied_order nodes xs _ _ _ _ j.on_left (omega arith) in
        let right = tied_order nodes ys _ _ _ _ j.on_right (omega arith) in
        let x = tied_both xs _ _ _ _ _ _ j.on_left (omega arith) (omega arith) (statement_both a _ _ s.spans (omega arith)) in
        let y = tied_both ys _ _ _ _ _ _ j.on_right (omega arith) (omega arith) (statement_both b _ _ s.rest.spans (omega arith)) in
        choice_both l (omega arith) (omega arith) x y j.is

-- the last entry: the form's own node doesn't go wrong
module _ (q : Passive) (vals : ℕ → Bits) where
  condition_says : Says vals (entry_at (emit q 0)) (3 * length (emit q 0)) (not (goes_wrong vals q))
  condition_says =
      let ns = emit q 0 in
      let nodes = plain_node (words ns) in
      let some : 0 < length ns = (gives_statement nodes q).some 0 in
      let own = statement_both vals (entry_at ns) nodes (length ns) (owned_entries ns) q 0 (top 0 ns) (emitted_spans q) (omega arith) in
      let e : 3 * top 0 ns + 2 ≡ 3 * length ns - 1 = omega arith in
      not_says vals (entry_at ns) (last_entry ns) (omega arith) (subst (λ (j : ℕ). Says vals (entry_at ns) j (goes_wrong vals q)) e own.fails)

pub condition-truth : (q : Passive) (ws valuation : List ℕ)
    → condition_truth (record { nodes = emit q 0; widths = ws }) valuation ≡ not (goes_wrong (bits_in ws valuation) q)
unfolding condition_truth evaluated step comes
condition-truth q ws valuation =
    let ns = emit q 0 in
    let vals = bits_in ws valuation in
    let entries = words (condition_of (words ns)) in
    let count : node_count entries ≡ suc (3 * length ns) = omega (arith, node_count-words (condition_of (words ns)), length-condition ns) in
    let last = build-last (step vals (entry_at ns)) (node_count entries) (3 * length ns) (of_width 0 0) count in
    ap is_on (last ∙ (condition_says q vals).is) ∙ is_bit (not (goes_wrong vals q))
