-- What the two ask of each other is below the node, and each answer is the tree's. Assumes nothing.
use Prim.Native.Nat.{ℕ}
use mathlib.Core.Path.{◌≡◌, refl, ap, ◌∙◌}
use Rattle.model.specs.Trees.{bits_of, of_width}
use Rattle.model.specs.Good.{GoodValue}
use Rattle.model.specs.Nodes.{kinds, kind_in}
use Rattle.model.specs.declared.Kind.{Kind}
use Rattle.values.proofs.Nodes.{Here, ValueOf, TestOf, here, child, arms, complement_asks, slice_asks, binary_asks, join_asks}
use Rattle.values.proofs.Others.{no_value, no_test}
use Rattle.values.proofs.+bits_at_truth_at.Goals as goal
use Rattle.values.proofs.+bits_at_truth_at.Goals.{bits_at-After-node-node, truth_at-After-node-node}

-- what is known where the node has been read, and is of kind o
value : (t : ℕ) (c : bits_at-After-node-node t) {o : Kind} → o ≡ kind_in kinds c.node-node.result.kind
    → Here ValueOf c.args.p.now c.args.given.now c.args.packet.now c.args.n t c.node-node.result o
value t c e = here ValueOf _ _ _ _ _ _ _ _ c.decreases c.requires.ready c.requires.n_bound c.requires.good_value c.node-node.ensures e refl

test : (t : ℕ) (c : truth_at-After-node-node t) {o : Kind} → o ≡ kind_in kinds c.node-node.result.kind
    → Here TestOf c.args.p.now c.args.given.now c.args.packet.now c.args.n t c.node-node.result o
test t c e = here TestOf _ _ _ _ _ _ _ _ c.decreases c.requires.ready c.requires.n_bound c.requires.good_test c.node-node.ensures e refl

pub bits_at-field_bits-requires-clause-i_in_bounds : goal.bits_at-field_bits-requires-clause-i_in_bounds
unfolding GoodValue bits_of
bits_at-field_bits-requires-clause-i_in_bounds t c = let h = value t (goal.at.bits_at-field_bits-requires-clause-i_in_bounds t c).After-node-node c.in-Field.ensures in h.good

pub bits_at-bits_at-x-requires : goal.bits_at-bits_at-x-requires
unfolding GoodValue bits_of
bits_at-bits_at-x-requires t c = let h = value t (goal.at.bits_at-bits_at-x-requires t c).After-node-node c.in-Binary.ensures in child h ValueOf h.before.0 h.good.0

pub bits_at-bits_at-y-requires : goal.bits_at-bits_at-y-requires
unfolding GoodValue bits_of
bits_at-bits_at-y-requires t c = let h = value t (goal.at.bits_at-bits_at-y-requires t c).After-node-node c.in-Binary.ensures in child h ValueOf h.before.1 h.good.1

pub bits_at-binary_bits-requires-clause-width_bound : goal.bits_at-binary_bits-requires-clause-width_bound
unfolding GoodValue bits_of
bits_at-binary_bits-requires-clause-width_bound t c = let h = value t (goal.at.bits_at-binary_bits-requires-clause-width_bound t c).After-node-node c.in-Binary.ensures in (binary_asks h c.bits_at-x.ensures c.bits_at-y.ensures).0

pub bits_at-binary_bits-requires-clause-number_bound : goal.bits_at-binary_bits-requires-clause-number_bound
unfolding GoodValue bits_of
bits_at-binary_bits-requires-clause-number_bound t c = let h = value t (goal.at.bits_at-binary_bits-requires-clause-number_bound t c).After-node-node c.in-Binary.ensures in (binary_asks h c.bits_at-x.ensures c.bits_at-y.ensures).1

pub bits_at-bits_at-requires : goal.bits_at-bits_at-requires
unfolding GoodValue bits_of
bits_at-bits_at-requires t c = let h = value t (goal.at.bits_at-bits_at-requires t c).After-node-node c.in-Complement.ensures in child h ValueOf h.before.0 h.good

pub bits_at-complement_bits-requires-clause-width_bound : goal.bits_at-complement_bits-requires-clause-width_bound
unfolding GoodValue bits_of
bits_at-complement_bits-requires-clause-width_bound t c = let h = value t (goal.at.bits_at-complement_bits-requires-clause-width_bound t c).After-node-node c.in-Complement.ensures in (complement_asks h c.bits_at.ensures).0

pub bits_at-complement_bits-requires-clause-number_bound : goal.bits_at-complement_bits-requires-clause-number_bound
unfolding GoodValue bits_of
bits_at-complement_bits-requires-clause-number_bound t c = let h = value t (goal.at.bits_at-complement_bits-requires-clause-number_bound t c).After-node-node c.in-Complement.ensures in (complement_asks h c.bits_at.ensures).1

pub bits_at-bits_at-requires-in-Slice : goal.bits_at-bits_at-requires-in-Slice
unfolding GoodValue bits_of
bits_at-bits_at-requires-in-Slice t c = let h = value t (goal.at.bits_at-bits_at-requires-in-Slice t c).After-node-node c.in-Slice.ensures in child h ValueOf h.before.0 h.good.0

pub bits_at-slice_bits-requires-clause-low_le_high : goal.bits_at-slice_bits-requires-clause-low_le_high
unfolding GoodValue bits_of
bits_at-slice_bits-requires-clause-low_le_high t c = let h = value t (goal.at.bits_at-slice_bits-requires-clause-low_le_high t c).After-node-node c.in-Slice.ensures in (slice_asks h c.bits_at-in-Slice.ensures).0

pub bits_at-slice_bits-requires-clause-high_bound : goal.bits_at-slice_bits-requires-clause-high_bound
unfolding GoodValue bits_of
bits_at-slice_bits-requires-clause-high_bound t c = let h = value t (goal.at.bits_at-slice_bits-requires-clause-high_bound t c).After-node-node c.in-Slice.ensures in (slice_asks h c.bits_at-in-Slice.ensures).1

pub bits_at-bits_at-x-requires-in-Join : goal.bits_at-bits_at-x-requires-in-Join
unfolding GoodValue bits_of
bits_at-bits_at-x-requires-in-Join t c = let h = value t (goal.at.bits_at-bits_at-x-requires-in-Join t c).After-node-node c.in-Join.ensures in child h ValueOf h.before.0 h.good.0

pub bits_at-bits_at-y-requires-in-Join : goal.bits_at-bits_at-y-requires-in-Join
unfolding GoodValue bits_of
bits_at-bits_at-y-requires-in-Join t c = let h = value t (goal.at.bits_at-bits_at-y-requires-in-Join t c).After-node-node c.in-Join.ensures in child h ValueOf h.before.1 h.good.1

pub bits_at-join_bits-requires-clause-width_bound : goal.bits_at-join_bits-requires-clause-width_bound
unfolding GoodValue bits_of
bits_at-join_bits-requires-clause-width_bound t c = let h = value t (goal.at.bits_at-join_bits-requires-clause-width_bound t c).After-node-node c.in-Join.ensures in (join_asks h c.bits_at-x-in-Join.ensures c.bits_at-y-in-Join.ensures).0

pub bits_at-join_bits-requires-clause-number_bound : goal.bits_at-join_bits-requires-clause-number_bound
unfolding GoodValue bits_of
bits_at-join_bits-requires-clause-number_bound t c = let h = value t (goal.at.bits_at-join_bits-requires-clause-number_bound t c).After-node-node c.in-Join.ensures in (join_asks h c.bits_at-x-in-Join.ensures c.bits_at-y-in-Join.ensures).1.0

pub bits_at-join_bits-requires-clause-y_bound : goal.bits_at-join_bits-requires-clause-y_bound
unfolding GoodValue bits_of
bits_at-join_bits-requires-clause-y_bound t c = let h = value t (goal.at.bits_at-join_bits-requires-clause-y_bound t c).After-node-node c.in-Join.ensures in (join_asks h c.bits_at-x-in-Join.ensures c.bits_at-y-in-Join.ensures).1.1

pub bits_at-truth_at-requires : goal.bits_at-truth_at-requires
unfolding GoodValue bits_of
bits_at-truth_at-requires t c = let h = value t (goal.at.bits_at-truth_at-requires t c).After-node-node c.in-Select.ensures in child h TestOf h.before.0 h.good.0

pub bits_at-bits_at-requires-then-truth_at : goal.bits_at-bits_at-requires-then-truth_at
unfolding GoodValue bits_of
bits_at-bits_at-requires-then-truth_at t c = let h = value t (goal.at.bits_at-bits_at-requires-then-truth_at t c).After-node-node c.in-Select.ensures in search (arms h)

pub bits_at-bits_at-requires-else-truth_at : goal.bits_at-bits_at-requires-else-truth_at
unfolding GoodValue bits_of
bits_at-bits_at-requires-else-truth_at t c = let h = value t (goal.at.bits_at-bits_at-requires-else-truth_at t c).After-node-node c.in-Select.ensures in search (arms h)

pub bits_at-returns-in-Constant : goal.bits_at-returns-in-Constant
unfolding GoodValue bits_of
bits_at-returns-in-Constant t c = let h = value t (goal.at.bits_at-returns-in-Constant t c).After-node-node c.in-Constant.ensures in rw h.is c.of_width.ensures

pub bits_at-returns-in-Field : goal.bits_at-returns-in-Field
unfolding GoodValue bits_of
bits_at-returns-in-Field t c = let h = value t (goal.at.bits_at-returns-in-Field t c).After-node-node c.in-Field.ensures in rw h.is c.field_bits.ensures

pub bits_at-returns-in-Parameter : goal.bits_at-returns-in-Parameter
unfolding GoodValue bits_of
bits_at-returns-in-Parameter t c = let h = value t (goal.at.bits_at-returns-in-Parameter t c).After-node-node c.in-Parameter.ensures in rw h.is (c.of_width-in-Parameter.ensures ∙ ap (of_width _) c.word_in.ensures)

pub bits_at-returns-in-Binary : goal.bits_at-returns-in-Binary
unfolding GoodValue bits_of
bits_at-returns-in-Binary t c = let h = value t (goal.at.bits_at-returns-in-Binary t c).After-node-node c.in-Binary.ensures in rw (h.is, ← c.bits_at-x.ensures, ← c.bits_at-y.ensures) c.binary_bits.ensures

pub bits_at-returns-in-Complement : goal.bits_at-returns-in-Complement
unfolding GoodValue bits_of
bits_at-returns-in-Complement t c = let h = value t (goal.at.bits_at-returns-in-Complement t c).After-node-node c.in-Complement.ensures in rw (h.is, ← c.bits_at.ensures) c.complement_bits.ensures

pub bits_at-returns-in-Slice : goal.bits_at-returns-in-Slice
unfolding GoodValue bits_of
bits_at-returns-in-Slice t c = let h = value t (goal.at.bits_at-returns-in-Slice t c).After-node-node c.in-Slice.ensures in rw (h.is, ← c.bits_at-in-Slice.ensures) c.slice_bits.ensures

pub bits_at-returns-in-Join : goal.bits_at-returns-in-Join
unfolding GoodValue bits_of
bits_at-returns-in-Join t c = let h = value t (goal.at.bits_at-returns-in-Join t c).After-node-node c.in-Join.ensures in rw (h.is, ← c.bits_at-x-in-Join.ensures, ← c.bits_at-y-in-Join.ensures) c.join_bits.ensures

pub bits_at-returns-then-truth_at : goal.bits_at-returns-then-truth_at
unfolding GoodValue bits_of
bits_at-returns-then-truth_at t c = let h = value t (goal.at.bits_at-returns-then-truth_at t c).After-node-node c.in-Select.ensures in rw (h.is, ← c.truth_at.ensures, c.if-truth_at.true) c.bits_at-then-truth_at.ensures

pub bits_at-returns-else-truth_at : goal.bits_at-returns-else-truth_at
unfolding GoodValue bits_of
bits_at-returns-else-truth_at t c = let h = value t (goal.at.bits_at-returns-else-truth_at t c).After-node-node c.in-Select.ensures in rw (h.is, ← c.truth_at.ensures, c.if-truth_at.false) c.bits_at-else-truth_at.ensures

pub bits_at-returns-in_default : goal.bits_at-returns-in_default
unfolding GoodValue bits_of
bits_at-returns-in_default t c =
    let h = value t (goal.at.bits_at-returns-in_default t c).After-node-node c.kind_in.ensures in
    rw (h.is, no_value _ _ _ _ _ _ _ (record { constant = c.in_default.not-Constant; field = c.in_default.not-Field; parameter = c.in_default.not-Parameter; binary = c.in_default.not-Binary; complement = c.in_default.not-Complement; slice = c.in_default.not-Slice; join = c.in_default.not-Join; select = c.in_default.not-Select })) c.of_width-in_default.ensures

pub truth_at-bits_at-x-requires : goal.truth_at-bits_at-x-requires
unfolding GoodValue bits_of
truth_at-bits_at-x-requires t c = let h = test t (goal.at.truth_at-bits_at-x-requires t c).After-node-node c.in-Compare.ensures in child h ValueOf h.before.0 h.good.0

pub truth_at-bits_at-y-requires : goal.truth_at-bits_at-y-requires
unfolding GoodValue bits_of
truth_at-bits_at-y-requires t c = let h = test t (goal.at.truth_at-bits_at-y-requires t c).After-node-node c.in-Compare.ensures in child h ValueOf h.before.1 h.good.1

pub truth_at-truth_at-requires : goal.truth_at-truth_at-requires
unfolding GoodValue bits_of
truth_at-truth_at-requires t c = let h = test t (goal.at.truth_at-truth_at-requires t c).After-node-node c.in-Not.ensures in child h TestOf h.before.0 h.good

pub truth_at-truth_at-x-requires : goal.truth_at-truth_at-x-requires
unfolding GoodValue bits_of
truth_at-truth_at-x-requires t c = let h = test t (goal.at.truth_at-truth_at-x-requires t c).After-node-node c.in-Connect.ensures in child h TestOf h.before.0 h.good.0

pub truth_at-truth_at-y-requires : goal.truth_at-truth_at-y-requires
unfolding GoodValue bits_of
truth_at-truth_at-y-requires t c = let h = test t (goal.at.truth_at-truth_at-y-requires t c).After-node-node c.in-Connect.ensures in child h TestOf h.before.1 h.good.1

pub truth_at-returns-in-Truth : goal.truth_at-returns-in-Truth
unfolding GoodValue bits_of
truth_at-returns-in-Truth t c = let h = test t (goal.at.truth_at-returns-in-Truth t c).After-node-node c.in-Truth.ensures in rw h.is

pub truth_at-returns-in-Compare : goal.truth_at-returns-in-Compare
unfolding GoodValue bits_of
truth_at-returns-in-Compare t c = let h = test t (goal.at.truth_at-returns-in-Compare t c).After-node-node c.in-Compare.ensures in rw (h.is, ← c.bits_at-x.ensures, ← c.bits_at-y.ensures) c.compare_bits.ensures

pub truth_at-returns-in-Not : goal.truth_at-returns-in-Not
unfolding GoodValue bits_of
truth_at-returns-in-Not t c = let h = test t (goal.at.truth_at-returns-in-Not t c).After-node-node c.in-Not.ensures in rw (h.is, c.truth_at.ensures)

pub truth_at-returns-in-Connect : goal.truth_at-returns-in-Connect
unfolding GoodValue bits_of
truth_at-returns-in-Connect t c = let h = test t (goal.at.truth_at-returns-in-Connect t c).After-node-node c.in-Connect.ensures in rw (h.is, ← c.truth_at-x.ensures, ← c.truth_at-y.ensures) c.connected.ensures

pub truth_at-returns-in_default : goal.truth_at-returns-in_default
unfolding GoodValue bits_of
truth_at-returns-in_default t c =
    let h = test t (goal.at.truth_at-returns-in_default t c).After-node-node c.kind_in.ensures in
    rw (h.is, no_test _ _ _ _ _ _ _ (record { truth = c.in_default.not-Truth; compare = c.in_default.not-Compare; not = c.in_default.not-Not; connect = c.in_default.not-Connect }))
