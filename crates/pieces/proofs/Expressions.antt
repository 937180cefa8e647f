-- What a value or a test emits at a node, by the roles of its words. Assumes nothing.
use Prim.Native.Nat.{ℕ, zero, suc, ◌+◌, ◌*◌, ◌≤◌, ◌<◌}
use native.Mathlib.Omega.{arith}
use mathlib.Core.Path.{◌≡◌, refl, sym, ap, ◌∙◌}
use mathlib.Core.List.{List, [], ◌∷◌, ◌++◌, append_assoc}
use borrow.Author.Tests.{ne_eqb}
use lib.Dec.{eqb}
use lib.ListN.{get_or, length}
use Rattle.bits.specs.declared.Op.{Op}
use Rattle.std.specs.Prelude.{if◌then◌else◌}
use Rattle.model.specs.Blocks.{N, node, pipeline_node}
use Rattle.model.specs.Nodes.{kinds, kind_in, number_of, roles}
use Rattle.model.specs.Trees.{Tree, as_value, as_test, tree, tree_by}
use Rattle.model.specs.Passive.{renamed, renamed_test}
use Rattle.model.specs.Emit.{Piece, past, form_limit, emit_value, emit_test}
use Rattle.model.specs.declared.Comparison.{Comparison}
use Rattle.model.specs.declared.Connective.{Connective}
use Rattle.model.specs.declared.Kind.{Kind}
use Rattle.model.specs.declared.Node.{Node}
use Rattle.model.specs.declared.Role.{Role}
use Rattle.model.specs.declared.Role.TheVariants.{Child, Number, Unused}
use Rattle.model.specs.declared.Roles.{Roles}
use Rattle.model.proofs.Children.{BeforeIn, BeforeAll}
use Rattle.model.proofs.KindNumbers.{kind_number, kind_in-number}
use Rattle.model.proofs.NodeList.{gives_value, gives_test}
use Rattle.values.proofs.Trees.{node-before, tree-at}
use Rattle.pieces.specs.Pieces.{Emitted, Behind, Start, emit_tree, child_nodes, shown, placed}
use Rattle.pieces.specs.Sound.{IsValue, IsTest, Expression, Reads, ChildThere, Sound}
use Rattle.pieces.proofs.Pieces.{lent, back, fits_so, numbered, past-append, lent_behind, alone, above_none}

-- a child is below its parent, in a cycle of two functions
abbrev pub child_depth : Role → ℕ → ℕ
child_depth Child x = 2 * x + 2
child_depth Number x = 0
child_depth Unused x = 0

-- ---- a tree that is what it is read as

pub value_expression : (x : Tree) → IsValue x → Expression x
value_expression x e = rw e tt

pub test_expression : (x : Tree) → IsTest x → Expression x
test_expression x e = rw e tt

module _ (current : List ℕ) (at : ℕ) where
  value-nodes : (x : Tree) → IsValue x → emit_tree current x at ≡ emit_value (renamed current (as_value x)) at
  value-nodes x e = ap (λ (z : Tree). emit_tree current z at) e

  test-nodes : (x : Tree) → IsTest x → emit_tree current x at ≡ emit_test (renamed_test current (as_test x)) at
  test-nodes x e = ap (λ (z : Tree). emit_tree current z at) e

  pub tree-some : (x : Tree) → Expression x → 0 < length (emit_tree current x at)
  tree-some (Tree.value v) e = (gives_value (λ i. node 0 0 0 0) (renamed current v)).some at
  tree-some (Tree.test t) e = (gives_test (λ i. node 0 0 0 0) (renamed_test current t)).some at
  tree-some (Tree.statement s) e = absurd e
  tree-some Tree.nothing e = absurd e

-- ---- the kinds

-- a kind that is neither a field nor a parameter is shown as it is
module _ (current given : List ℕ) (a b c : ℕ) where
  abbrev Plain : Kind → Type 0
  Plain k = shown current given (node (number_of k) a b c) ≡ node (number_of k) a b c

  binary_plain : (o : Op) → Plain (Kind.Binary o)
  binary_plain Op.Sum = refl
  binary_plain Op.Difference = refl
  binary_plain Op.And = refl
  binary_plain Op.Or = refl
  binary_plain Op.Xor = refl

  compare_plain : (o : Comparison) → Plain (Kind.Compare o)
  compare_plain Comparison.Equal = refl
  compare_plain Comparison.Less = refl

  connect_plain : (o : Connective) → Plain (Kind.Connect o)
  connect_plain Connective.And = refl
  connect_plain Connective.Or = refl

truth-word : (a : ℕ) → a ≤ 1 → (if eqb a 1 then 1 else 0) ≡ a
truth-word zero h = refl
truth-word (suc zero) h = refl
truth-word (suc (suc a)) h = let k : ⊥ = omega arith in absurd k

-- the children's nodes in order a, b, c, and then the own node
module _ (current given : List ℕ) (tree : ℕ → Tree) where
  abbrev pub first : Kind → ℕ → ℕ → List Node
  first k a at = child_nodes current tree (roles k).a a at

  abbrev pub second : Kind → ℕ → ℕ → List Node
  second k b at = child_nodes current tree (roles k).b b at

  abbrev pub third : Kind → ℕ → ℕ → List Node
  third k c at = child_nodes current tree (roles k).c c at

  abbrev pub own_node : Kind → Node → ℕ → ℕ → ℕ → Node
  own_node k n x y z = placed (roles k) (shown current given n) x y z

  abbrev pub in_order : Kind → Node → ℕ → List Node
  in_order k n at =
      let x = first k n.a at in
      let y = second k n.b (past at x) in
      let z = third k n.c (past (past at x) y) in
      x ++ (y ++ (z ++ (own_node k n (past at x) (past (past at x) y) (past (past (past at x) y) z) ∷ [])))

  module _ (i at : ℕ) where
    abbrev Emits : Kind → ℕ → ℕ → ℕ → Type 0
    Emits k a b c = emit_tree current (tree_by given tree i k a b c) at ≡ in_order k (node (number_of k) a b c) at

    kind_nodes : (k : Kind) (a b c : ℕ) → Expression (tree_by given tree i k a b c) → Reads tree k a b c → Emits k a b c
    unfolding emit_value renamed
    kind_nodes Kind.Constant a b c e h = refl
    kind_nodes Kind.Field a b c e h = refl
    kind_nodes Kind.Parameter a b c e h = refl
    kind_nodes (Kind.Binary o) a b c e h = rw (binary_plain current given a b c o, value-nodes current at (tree a) h.0, value-nodes current _ (tree b) h.1)
    kind_nodes Kind.Complement a b c e h = rw (value-nodes current at (tree a) h)
    kind_nodes Kind.Slice a b c e h = rw (value-nodes current at (tree a) h)
    kind_nodes Kind.Join a b c e h = rw (value-nodes current at (tree a) h.0, value-nodes current _ (tree b) h.1)
    kind_nodes Kind.Select a b c e h = rw (test-nodes current at (tree a) h.0, value-nodes current _ (tree b) h.1, value-nodes current _ (tree c) h.2)
    kind_nodes Kind.Truth a b c e h = rw (truth-word a h)
    kind_nodes (Kind.Compare o) a b c e h = rw (compare_plain current given a b c o, value-nodes current at (tree a) h.0, value-nodes current _ (tree b) h.1)
    kind_nodes Kind.Not a b c e h = rw (test-nodes current at (tree a) h)
    kind_nodes (Kind.Connect o) a b c e h = rw (connect_plain current given a b c o, test-nodes current at (tree a) h.0, test-nodes current _ (tree b) h.1)
    kind_nodes Kind.Skip a b c e h = absurd e
    kind_nodes Kind.Assign a b c e h = absurd e
    kind_nodes Kind.Havoc a b c e h = absurd e
    kind_nodes Kind.Assume a b c e h = absurd e
    kind_nodes Kind.Assert a b c e h = absurd e
    kind_nodes Kind.Sequence a b c e h = absurd e
    kind_nodes Kind.Choice a b c e h = absurd e
    kind_nodes Kind.Apply a b c e h = absurd e
    kind_nodes Kind.Unknown a b c e h = absurd e

    -- a node's children are values and tests
    kind_children : (k : Kind) (a b c : ℕ) → Expression (tree_by given tree i k a b c) → Reads tree k a b c → (m : ℕ) → i ≤ m → BeforeAll i k a b c
        → ChildThere m tree (roles k).a a × (ChildThere m tree (roles k).b b × ChildThere m tree (roles k).c c)
    kind_children Kind.Constant a b c e h m l q = (tt, (tt, tt))
    kind_children Kind.Field a b c e h m l q = (tt, (tt, tt))
    kind_children Kind.Parameter a b c e h m l q = (tt, (tt, tt))
    kind_children (Kind.Binary o) a b c e h m l q =
        ((omega (arith, q.0), value_expression (tree a) h.0), ((omega (arith, q.1), value_expression (tree b) h.1), tt))
    kind_children Kind.Complement a b c e h m l q = ((omega (arith, q.0), value_expression (tree a) h), (tt, tt))
    kind_children Kind.Slice a b c e h m l q = ((omega (arith, q.0), value_expression (tree a) h), (tt, tt))
    kind_children Kind.Join a b c e h m l q =
        ((omega (arith, q.0), value_expression (tree a) h.0), ((omega (arith, q.1), value_expression (tree b) h.1), tt))
    kind_children Kind.Select a b c e h m l q = (
      (omega (arith, q.0), test_expression (tree a) h.0),
      ((omega (arith, q.1), value_expression (tree b) h.1), (omega (arith, q.2), value_expression (tree c) h.2)),
    )
    kind_children Kind.Truth a b c e h m l q = (tt, (tt, tt))
    kind_children (Kind.Compare o) a b c e h m l q =
        ((omega (arith, q.0), value_expression (tree a) h.0), ((omega (arith, q.1), value_expression (tree b) h.1), tt))
    kind_children Kind.Not a b c e h m l q = ((omega (arith, q.0), test_expression (tree a) h), (tt, tt))
    kind_children (Kind.Connect o) a b c e h m l q =
        ((omega (arith, q.0), test_expression (tree a) h.0), ((omega (arith, q.1), test_expression (tree b) h.1), tt))
    kind_children Kind.Skip a b c e h m l q = absurd e
    kind_children Kind.Assign a b c e h m l q = absurd e
    kind_children Kind.Havoc a b c e h m l q = absurd e
    kind_children Kind.Assume a b c e h m l q = absurd e
    kind_children Kind.Assert a b c e h m l q = absurd e
    kind_children Kind.Sequence a b c e h m l q = absurd e
    kind_children Kind.Choice a b c e h m l q = absurd e
    kind_children Kind.Apply a b c e h m l q = absurd e
    kind_children Kind.Unknown a b c e h m l q = absurd e

-- ---- what is known where a node has been read

pub record Here (p given : List ℕ) (n t : ℕ) (read : Node) (kind : Kind) (rs : Roles) : Type 0 where
  pub start : 2 * n + 1 ≡ t
  pub sound : Sound p
  pub below : n < N p
  pub good : Expression (tree p given n)
  pub words : read ≡ pipeline_node p n
  pub is_kind : kind ≡ kind_in kinds read.kind
  pub are : rs ≡ roles kind

module _ {p given : List ℕ} {n t : ℕ} {read : Node} {kind : Kind} {rs : Roles} (h : Here p given n t read kind rs) where
  abbrev tree_is : Tree
  tree_is = tree_by given (tree p given) n kind read.a read.b read.c

  is : tree p given n ≡ tree_is
  is = rw (h.is_kind, h.words) (tree-at p h.sound.below given n h.below)

  expression : Expression tree_is
  expression = rw (← is) h.good

  reads : Reads (tree p given) kind read.a read.b read.c
  reads = rw (h.is_kind, h.words) (h.sound.reads given n h.below)

  before : BeforeAll n kind read.a read.b read.c
  before = rw (h.is_kind, h.words) (node-before p h.sound.below n h.below)

  number : (k : Kind) → Expression (tree_by given (tree p given) n k read.a read.b read.c) → 1 ≤ number_of k
  number Kind.Constant e = omega arith
  number Kind.Field e = omega arith
  number Kind.Parameter e = omega arith
  number (Kind.Binary Op.Sum) e = omega arith
  number (Kind.Binary Op.Difference) e = omega arith
  number (Kind.Binary Op.And) e = omega arith
  number (Kind.Binary Op.Or) e = omega arith
  number (Kind.Binary Op.Xor) e = omega arith
  number Kind.Complement e = omega arith
  number Kind.Slice e = omega arith
  number Kind.Join e = omega arith
  number Kind.Select e = omega arith
  number Kind.Truth e = omega arith
  number (Kind.Compare Comparison.Equal) e = omega arith
  number (Kind.Compare Comparison.Less) e = omega arith
  number Kind.Not e = omega arith
  number (Kind.Connect Connective.And) e = omega arith
  number (Kind.Connect Connective.Or) e = omega arith
  number Kind.Skip e = omega arith
  number Kind.Assign e = omega arith
  number Kind.Havoc e = omega arith
  number Kind.Assume e = omega arith
  number Kind.Assert e = omega arith
  number Kind.Sequence e = omega arith
  number Kind.Choice e = omega arith
  number Kind.Apply e = omega arith
  number Kind.Unknown e = absurd e

  there : ChildThere (N p) (tree p given) rs.a read.a
      × (ChildThere (N p) (tree p given) rs.b read.b × ChildThere (N p) (tree p given) rs.c read.c)
  there =
      rw h.are
      (kind_children [] given (tree p given) n 0 kind read.a read.b read.c expression reads (N p) (omega (arith, h.below)) before)

  deeper : (r : Role) (x : ℕ) → BeforeIn n r x → child_depth r x < t
  deeper Child x l = omega (arith, h.start)
  deeper Number x l = omega (arith, h.start)
  deeper Unused x l = omega (arith, h.start)

  -- what a call on a word asks, at the number `to` behind `at`
  module _ {at to : ℕ} (on : at ≤ to) where
    abbrev pub Asks : Role → ℕ → Type 0
    Asks r x = (child_depth r x < t) × (Sound p × ((at ≤ to) × ChildThere (N p) (tree p given) r x))

    pub first_asks : Asks rs.a read.a
    first_asks = (rw h.are (deeper (roles kind).a read.a before.0), (h.sound, (on, there.0)))

    pub second_asks : Asks rs.b read.b
    second_asks = (rw h.are (deeper (roles kind).b read.b before.1), (h.sound, (on, there.1.0)))

    pub third_asks : Asks rs.c read.c
    third_asks = (rw h.are (deeper (roles kind).c read.c before.2), (h.sound, (on, there.1.1)))

  -- the whole piece
  module _ (current : List ℕ) where
    abbrev word : Role → ℕ → Piece
    word r x at = child_nodes current (tree p given) r x at

    nodes-are : (at : ℕ) → emit_tree current (tree p given n) at ≡ in_order current given (tree p given) kind read at
    nodes-are at =
        let e : read.kind ≡ number_of kind = kind_number kinds read.kind kind (number kind expression) (sym h.is_kind) in
        let same : node (number_of kind) read.a read.b read.c ≡ read = rw e in
        ap (λ (z : Tree). emit_tree current z at) is
        ∙ kind_nodes current given (tree p given) n at kind read.a read.b read.c expression reads
        ∙ ap (λ (m : Node). in_order current given (tree p given) kind m at) same

    pub tree-emitted : {at a b c to : ℕ} {area area₁ area₂ area₃ area₄ : List ℕ} {m own : Node} → Behind (word rs.a read.a) at at area area₁ a
        → length area₁ ≡ length area → Behind (word rs.b read.b) at a area₁ area₂ b → length area₂ ≡ length area₁
        → Behind (word rs.c read.c) at b area₂ area₃ c → length area₃ ≡ length area₂ → m ≡ shown current given read → own ≡ placed rs m a b c
        → Behind (λ _. own ∷ []) at c area₃ area₄ to → Emitted (emit_tree current (tree p given n) at) at area area₄ to
    tree-emitted {at} {a} {b} {c} {to} {area} {area₁} {area₂} {area₃} {area₄} {m} {own} e₁ l₁ e₂ l₂ e₃ l₃ w d e₄ =
        let x = word rs.a read.a at in
        let y = word rs.b read.b (past at x) in
        let z = word rs.c read.c (past (past at x) y) in
        let one = alone e₁ in
        let two = e₂.extends l₁ one in
        let q : past at (x ++ y) ≡ past (past at x) y = past-append at x y in
        let three : Emitted ((x ++ y) ++ z) at area area₃ c = rw q at (e₃.extends (l₂ ∙ l₁) two) in
        let r : past at ((x ++ y) ++ z) ≡ past (past (past at x) y) z = past-append at (x ++ y) z ∙ ap (λ k. past k z) q in
        let last = placed rs (shown current given read) (past at x) (past (past at x) y) (past (past (past at x) y) z) ∷ [] in
        let own_is : c ≤ form_limit → own ∷ [] ≡ last =
        λ k.
        let f = one.exact (fits_so one (omega (arith, e₂.onward, e₃.onward))) in
        let g = two.exact (fits_so two (omega (arith, e₃.onward))) ∙ q in
        let i = three.exact (fits_so three k) ∙ r in
        rw (d, w, f, g, i) in
        let all : ((x ++ y) ++ z) ++ last ≡ emit_tree current (tree p given n) at =
        rw (nodes-are at, ← h.are) (append_assoc (x ++ y) z last ∙ append_assoc x y (z ++ last)) in
        rw all at (numbered (l₃ ∙ l₂ ∙ l₁) three own_is (λ _. e₄) e₄.onward)

-- ---- a node as it is shown

module _ (current given : List ℕ) (n : Node) {k : Kind} (e : k ≡ kind_in kinds n.kind) where
  -- the number is the kind's
  of_kind : (o : Kind) → 1 ≤ number_of o → k ≡ o → n.kind ≡ number_of o
  of_kind o some d = kind_number kinds n.kind o some (sym e ∙ d)

  -- and the kind the number's
  of_number : (o : Kind) → n.kind ≡ number_of o → k ≡ o
  of_number o d = e ∙ ap (kind_in kinds) d ∙ kind_in-number o

  pub shows_field : k ≡ Kind.Field → node 2 (get_or current n.a 0) 0 0 ≡ shown current given n
  shows_field d = rw (of_kind Kind.Field (omega arith) d)

  pub shows_parameter : k ≡ Kind.Parameter → node 1 (get_or given n.a 0) n.b 0 ≡ shown current given n
  shows_parameter d = rw (of_kind Kind.Parameter (omega arith) d)

  pub shows_other : (k ≡ Kind.Field → ⊥) → (k ≡ Kind.Parameter → ⊥) → n ≡ shown current given n
  shows_other f q = rw (ne_eqb n.kind 2 (λ d. f (of_number Kind.Field d)), ne_eqb n.kind 3 (λ d. q (of_number Kind.Parameter d)))

-- ---- a word that is a child

module _ (p given : List ℕ) (r : Role) (x : ℕ) where
  pub child_gives : (current : List ℕ) {before ys : List ℕ} {from at s to : ℕ} → r ≡ Child → ChildThere (N p) (tree p given) r x
      → Start from at (length before) s → Emitted (emit_tree current (tree p given x) at) at (lent s before) ys to
      → Behind (child_nodes current (tree p given) r x) from at before (back s before ys) to × (r ≡ Child → 1 ≤ to)
  child_gives current e h st f =
      let k = rw e at h in (rw e (lent_behind st (λ at. emit_tree current (tree p given x) at) f), λ _. above_none (tree-some current _ (tree p given x) k.1) f)
