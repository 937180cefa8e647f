-- What is known at a node of a kind, what the calls on its children ask, and what its tree says. Assumes nothing.
use Prim.Native.Nat.{ℕ, ◌+◌, ◌^◌, ◌<◌, ◌≤◌}
use native.Mathlib.Omega.{arith}
use mathlib.Core.Path.{◌≡◌, sym, ◌∙◌}
use mathlib.Core.List.{List}
use Rattle.bits.specs.declared.Op.{Op}
use Rattle.model.specs.Blocks.{N, widths, pipeline_node}
use Rattle.model.specs.Nodes.{kinds, kind_in}
use Rattle.model.specs.Trees.{Tree, as_value, as_test, tree, tree_by, bits_of, bits_in}
use Rattle.model.specs.Good.{GoodValue, GoodTest}
use Rattle.model.specs.declared.Bits.{Bits}
use Rattle.model.specs.declared.Kind.{Kind}
use Rattle.model.specs.declared.Node.{Node}
use Rattle.model.proofs.Children.{BeforeAll}
use Rattle.values.specs.Ready.{Ready}
use Rattle.values.proofs.Trees.{node-before, tree-at}
use Rattle.values.proofs.Fits.{fit}

-- a tree that is a good value; a good test
abbrev pub ValueOf : List ℕ → Tree → Type 0
ValueOf p x = GoodValue (widths p) (as_value x)

abbrev pub TestOf : List ℕ → Tree → Type 0
TestOf p x = GoodTest (widths p) (as_test x)

-- at node n, whose words m has and whose kind is o, with the measure t
pub record Here (Good : List ℕ → Tree → Type 0) (p given packet : List ℕ) (n t : ℕ) (m : Node) (o : Kind) : Type 0 where
  pub start : n ≡ t
  pub ready : Ready p packet
  pub below : n < N p
  pub before : BeforeAll n o m.a m.b m.c
  pub is : tree p given n ≡ tree_by given (tree p given) n o m.a m.b m.c
  pub good : Good p (tree_by given (tree p given) n o m.a m.b m.c)

pub here : (Good : List ℕ → Tree → Type 0) (p given packet : List ℕ) (n t : ℕ) (m : Node) (k o : Kind) → n ≡ t → Ready p packet → n < N p
    → Good p (tree p given n) → m ≡ pipeline_node p n → k ≡ kind_in kinds m.kind → k ≡ o → Here Good p given packet n t m o
here Good p given packet n t m k o s r l g d e q =
    let children : BeforeAll n o m.a m.b m.c = rw (← q, e, d) (node-before p r.below n l) in
    let same : tree p given n ≡ tree_by given (tree p given) n o m.a m.b m.c = rw (← q, e, d) (tree-at p r.below given n l) in
    record { start = s; ready = r; below = l; before = children; is = same; good = rw same at g }

-- what a call on a child asks
abbrev Asks : (List ℕ → Tree → Type 0) → List ℕ → List ℕ → List ℕ → ℕ → ℕ → Type 0
Asks Own p given packet t j = (j < t) × (Ready p packet × ((j < N p) × Own p (tree p given j)))

pub child : {Good : List ℕ → Tree → Type 0} {p given packet : List ℕ} {n t : ℕ} {m : Node} {o : Kind} → Here Good p given packet n t m o
    → (Own : List ℕ → Tree → Type 0) {j : ℕ} → j < n → Own p (tree p given j) → Asks Own p given packet t j
child h Own l g = (omega arith, (h.ready, (omega arith, g)))

-- a select calls on either
pub arms : {p given packet : List ℕ} {n t : ℕ} {m : Node} → Here ValueOf p given packet n t m Kind.Select
    → Asks ValueOf p given packet t m.b × Asks ValueOf p given packet t m.c
unfolding GoodValue
arms h = (child h ValueOf h.before.1 h.good.1, child h ValueOf h.before.2 h.good.2)

abbrev bits_at : List ℕ → List ℕ → List ℕ → ℕ → Bits
bits_at p given packet j = bits_of (bits_in (widths p) packet) (as_value (tree p given j))

-- what the operations on bits ask of the bits of the node's children
module _ {p given packet : List ℕ} {n t : ℕ} {m : Node} {x : Bits} where
  pub complement_asks : Here ValueOf p given packet n t m Kind.Complement → x ≡ bits_at p given packet m.a → (x.width ≤ 32) × (x.number < 2 ^ x.width)
  unfolding GoodValue
  complement_asks h e = let v = fit h.ready (as_value (tree p given m.a)) h.good e in (v.narrow, v.below)

  pub slice_asks : Here ValueOf p given packet n t m Kind.Slice → x ≡ bits_at p given packet m.a → (m.c ≤ m.b) × (m.b < 32)
  unfolding GoodValue
  slice_asks h e = let v = fit h.ready (as_value (tree p given m.a)) h.good.0 e in (h.good.2, omega (arith, h.good.1, v.wide, v.narrow))

  pub binary_asks : {o : Op} {y : Bits} → Here ValueOf p given packet n t m (Kind.Binary o) → x ≡ bits_at p given packet m.a → y ≡ bits_at p given packet m.b
      → (x.width ≤ 32) × (y.number < 2 ^ x.width)
  unfolding GoodValue
  binary_asks h e d =
      let v = fit h.ready (as_value (tree p given m.a)) h.good.0 e in
      let w = fit h.ready (as_value (tree p given m.b)) h.good.1 d in
      (v.narrow, rw (v.wide ∙ h.good.2 ∙ sym w.wide) w.below)

  pub join_asks : {y : Bits} → Here ValueOf p given packet n t m Kind.Join → x ≡ bits_at p given packet m.a → y ≡ bits_at p given packet m.b
      → (x.width + y.width ≤ 32) × ((x.number < 2 ^ x.width) × (y.number < 2 ^ y.width))
  unfolding GoodValue
  join_asks h e d =
      let v = fit h.ready (as_value (tree p given m.a)) h.good.0 e in
      let w = fit h.ready (as_value (tree p given m.b)) h.good.1 d in
      (omega (arith, h.good.2, v.wide, w.wide), (v.below, w.below))
