-- Document 01, "Passive form": the nodes that a passive form is written as. Nodes are emitted children first, in order a, b, c.
-- Each piece is a list of nodes, of which the first has the number `at`, and the last is the piece's own node.
-- Assumes nothing: these are definitions.
use Rattle.std.specs.Prelude.{ℕ, ◌+◌, ◌-◌, List, [], ◌∷◌, ◌++◌, length, if◌then◌else◌}
use Rattle.model.specs.Blocks.{node}
use Rattle.model.specs.Nodes.{number_of}
use Rattle.model.specs.declared.Node.{Node}
use Rattle.model.specs.declared.Kind.{Kind}
use Rattle.model.specs.Trees.{Val, Test}
use Rattle.model.specs.Passive.{Passive, Equation, ◌then◌, passive}

-- the number behind a piece, and the number of its own node
abbrev pub past : ℕ → List Node → ℕ
past at ns = at + length ns

abbrev pub top : ℕ → List Node → ℕ
top at ns = past at ns - 1

-- a piece, wherever it is put
abbrev pub Piece : Type 0
Piece = ℕ → List Node

-- a node without children, and a node behind its one, two or three
abbrev pub leaf : Node → Piece
leaf own at = own ∷ []

abbrev pub one : Piece → (ℕ → Node) → Piece
one a own at = let x = a at in x ++ (own (top at x) ∷ [])

abbrev pub two : Piece → Piece → (ℕ → ℕ → Node) → Piece
two a b own at =
    let x = a at in
    let y = b (past at x) in
    x ++ (y ++ (own (top at x) (top (past at x) y) ∷ []))

abbrev pub three : Piece → Piece → Piece → (ℕ → ℕ → ℕ → Node) → Piece
three a b c own at =
    let x = a at in
    let y = b (past at x) in
    let z = c (past (past at x) y) in
    x ++ (y ++ (z ++ (own (top at x) (top (past at x) y) (top (past (past at x) y) z) ∷ [])))

unfoldable mutual
  pub emit_value : Val → Piece
  emit_value (Val.constant n w) = leaf (node 1 n w 0)
  emit_value (Val.field x) = leaf (node 2 x 0 0)
  emit_value (Val.binary o a b) = two (emit_value a) (emit_value b) (λ x y. node (number_of (Kind.Binary o)) x y 0)
  emit_value (Val.complement a) = one (emit_value a) (λ x. node 9 x 0 0)
  emit_value (Val.slice a high low) = one (emit_value a) (λ x. node 10 x high low)
  emit_value (Val.join a b) = two (emit_value a) (emit_value b) (λ x y. node 11 x y 0)
  emit_value (Val.select t a b) = three (emit_test t) (emit_value a) (emit_value b) (λ x y z. node 12 x y z)

  pub emit_test : Test → Piece
  emit_test (Test.truth b) = leaf (node 16 (if b then 1 else 0) 0 0)
  emit_test (Test.compare o a b) = two (emit_value a) (emit_value b) (λ x y. node (number_of (Kind.Compare o)) x y 0)
  emit_test (Test.not_test t) = one (emit_test t) (λ x. node 19 x 0 0)
  emit_test (Test.connect o t u) = two (emit_test t) (emit_test u) (λ x y. node (number_of (Kind.Connect o)) x y 0)

-- one side of a join: for each equation its variable, the joined one, equal, assume, and 37 over the side so far, whose node is `side`
pub record Side : Type 0 where
  pub nodes : List Node
  pub side : ℕ

unfoldable pub emit_equations : List Equation → ℕ → ℕ → Side
emit_equations [] side at = record { nodes = []; side = side }
emit_equations (e ∷ es) side at =
    let rest = emit_equations es (at + 4) (at + 5) in
    record {
      nodes = node 2 e.own 0 0 ∷ node 2 e.joined 0 0 ∷ node 17 at (at + 1) 0 ∷ node 35 (at + 2) 0 0 ∷ node 37 side (at + 3) 0 ∷ rest.nodes;
      side = rest.side;
    }

-- both sides, then the left's equations, then the right's, then the choice
abbrev pub sides : Piece → List Equation → Piece → List Equation → Piece
sides a xs b ys at =
    let l = a at in
    let r = b (past at l) in
    let x = emit_equations xs (top at l) (past (past at l) r) in
    let y = emit_equations ys (top (past at l) r) (past (past (past at l) r) x.nodes) in
    l ++ (r ++ (x.nodes ++ (y.nodes ++ (node 38 x.side y.side 0 ∷ []))))

unfoldable pub emit : Passive → Piece
emit Passive.skip = leaf (node 32 0 0 0)
emit (Passive.havoced x) = leaf (node 32 0 0 0)
emit (Passive.assume t) = one (emit_test t) (λ x. node 35 x 0 0)
emit (Passive.assert t) = one (emit_test t) (λ x. node 36 x 0 0)
emit (a then b) = two (emit a) (emit b) (λ x y. node 37 x y 0)
emit (Passive.choice o a xs b ys) = sides (emit a) xs (emit b) ys

-- a form above so many nodes is too large
abbrev pub form_limit : ℕ
form_limit = 65536

-- what Passify writes: the nodes of the form, and the widths of its variables
pub record Emitted : Type 0 where
  pub nodes : List Node
  pub widths : List ℕ

unfoldable pub passive_form : List ℕ → List ℕ → Emitted
passive_form p r = let q = passive p r in record { nodes = emit q.body 0; widths = q.after.widths }
