-- Nodes as words, and where the nodes of an emitted piece stand. Assumes nothing.
use Prim.Native.Nat.{ℕ, zero, suc, ◌+◌, ◌*◌, ◌<◌, ◌≤◌}
use native.Mathlib.Nat.{not-suc-le-zero, le_of_suc-le-suc, zero-add, add-zero, add_assoc, mul-div_cancel_left}
use native.Mathlib.Omega.{arith}
use mathlib.Core.Path.{◌≡◌, refl, sym, ap, subst, subst₂, ◌∙◌}
use mathlib.Core.List.{List, [], ◌∷◌, ◌++◌}
use lib.ListN.{get_or, length, length-append, get_or-append}
use lib.Seq.{get_or-append-add}
use Rattle.std.specs.Prelude.{if◌then◌else◌}
use Rattle.model.specs.Lists.{word}
use Rattle.model.specs.Blocks.{node, words, plain_node}
use Rattle.model.specs.Nodes.{number_of}
use Rattle.model.specs.Trees.{Val, Test}
use Rattle.model.specs.Passive.{Passive, Equation, ◌then◌}
use Rattle.model.specs.Emit.{Piece, past, top, leaf, one, two, three, emit_value, emit_test, emit_equations, emit}
use Rattle.model.specs.Condition.{node_count}
use Rattle.model.specs.declared.Node.{Node}
use Rattle.model.specs.declared.Comparison.{Comparison}
use Rattle.model.specs.declared.Kind.{Kind}

-- ---- words

pub length-words : (ns : List Node) → length (words ns) ≡ 4 * length ns
unfolding words
length-words [] = refl
length-words (n ∷ ns) = omega (arith, length-words ns)

pub node_count-words : (ns : List Node) → node_count (words ns) ≡ length ns
node_count-words ns = rw length-words (mul-div_cancel_left (length ns) (omega arith))

behind-first : (n : Node) (ns : List Node) (k i : ℕ) → i ≡ suc (suc (suc (suc k))) → word (words (n ∷ ns)) i ≡ word (words ns) k
unfolding words
behind-first n ns k i e = rw e

pub plain_node-words : (ns : List Node) (i : ℕ) (d : Node) → i < length ns → plain_node (words ns) i ≡ get_or ns i d
unfolding words
plain_node-words [] i d h = absurd (not-suc-le-zero h)
plain_node-words (n ∷ ns) zero d h = refl
plain_node-words (n ∷ ns) (suc i) d h =
    rw (
      behind-first n ns (4 * i) (4 * suc i) (omega arith),
      behind-first n ns (4 * i + 1) (4 * suc i + 1) (omega arith),
      behind-first n ns (4 * i + 2) (4 * suc i + 2) (omega arith),
      behind-first n ns (4 * i + 3) (4 * suc i + 3) (omega arith),
    ) (plain_node-words ns i d (le_of_suc-le-suc h))

-- ---- where a list of nodes stands

pub record Stands (nodes : ℕ → Node) (at : ℕ) (ns : List Node) : Type 0 where
  pub there : (k : ℕ) → k < length ns → nodes (at + k) ≡ get_or ns k (node 0 0 0 0)

pub words_stand : (ns : List Node) → Stands (plain_node (words ns)) 0 ns
words_stand ns = record { there = λ k h. rw zero-add (plain_node-words ns k (node 0 0 0 0) h) }

module _ {nodes : ℕ → Node} {at : ℕ} where
  pub stands-left : (x y : List Node) → Stands nodes at (x ++ y) → Stands nodes at x
  stands-left x y s = record { there = λ k h. s.there k (omega (arith, length-append x y)) ∙ get_or-append x y (node 0 0 0 0) k h }

  pub stands-right : (x y : List Node) → Stands nodes at (x ++ y) → Stands nodes (past at x) y
  stands-right x y s = record {
    there = λ k h. ap nodes (add_assoc at (length x) k) ∙ s.there (length x + k) (omega (arith, length-append x y)) ∙ get_or-append-add x y k (node 0 0 0 0);
  }

  pub stands-first : {n : Node} {ns : List Node} → Stands nodes at (n ∷ ns) → nodes at ≡ n
  stands-first s = ap nodes (sym (add-zero at)) ∙ s.there 0 (omega arith)

-- ---- where a piece stands: its nodes are those from `at` to i, and i is its own, behind its children's

abbrev pub Span : Type 1
Span = ℕ → ℕ → Type 0

-- a piece, and behind it another, which knows the first's own node
abbrev follow : Piece → (ℕ → Piece) → Piece
follow p rest at = let x = p at in x ++ rest (top at x) (past at x)

-- behind a choice's sides, whose nodes are a and b: both sides' equations and the choice
abbrev joint : List Equation → List Equation → ℕ → ℕ → Piece
joint xs ys a b at =
    let x = emit_equations xs a at in
    let y = emit_equations ys b (past at x.nodes) in
    x.nodes ++ (y.nodes ++ (node 38 x.side y.side 0 ∷ []))

-- what a join's equation says
abbrev pub equality : Equation → Test
equality e = Test.compare Comparison.Equal (Val.field e.own) (Val.field e.joined)

module _ (nodes : ℕ → Node) where
  pub record Own (n : Node) (at i : ℕ) : Type 0 where
    pub alone : at ≡ i
    pub is : nodes i ≡ n

  pub record Then (A : Span) (B : ℕ → Span) (at i : ℕ) : Type 0 where
    pub child : ℕ
    pub spans : A at child
    pub order : at ≤ child
    pub rest : B child (suc child) i

  -- a node behind its one, two or three children
  abbrev pub One : Span → (ℕ → Node) → Span
  One A own = Then A (λ x. Own (own x))

  abbrev pub Two : Span → Span → (ℕ → ℕ → Node) → Span
  Two A B own = Then A (λ x. Then B (λ y. Own (own x y)))

  abbrev pub Three : Span → Span → Span → (ℕ → ℕ → ℕ → Node) → Span
  Three A B C own = Then A (λ x. Then B (λ y. Then C (λ z. Own (own x y z))))

  unfoldable mutual
    pub SpansValue : Val → Span
    SpansValue (Val.constant n w) = Own (node 1 n w 0)
    SpansValue (Val.field x) = Own (node 2 x 0 0)
    SpansValue (Val.binary o a b) = Two (SpansValue a) (SpansValue b) (λ x y. node (number_of (Kind.Binary o)) x y 0)
    SpansValue (Val.complement a) = One (SpansValue a) (λ x. node 9 x 0 0)
    SpansValue (Val.slice a high low) = One (SpansValue a) (λ x. node 10 x high low)
    SpansValue (Val.join a b) = Two (SpansValue a) (SpansValue b) (λ x y. node 11 x y 0)
    SpansValue (Val.select t a b) = Three (SpansTest t) (SpansValue a) (SpansValue b) (λ x y z. node 12 x y z)

    pub SpansTest : Test → Span
    SpansTest (Test.truth b) = Own (node 16 (if b then 1 else 0) 0 0)
    SpansTest (Test.compare o a b) = Two (SpansValue a) (SpansValue b) (λ x y. node (number_of (Kind.Compare o)) x y 0)
    SpansTest (Test.not_test t) = One (SpansTest t) (λ x. node 19 x 0 0)
    SpansTest (Test.connect o t u) = Two (SpansTest t) (SpansTest u) (λ x y. node (number_of (Kind.Connect o)) x y 0)

  -- a side's equations, from `at` up to `end`: each is assumed, and a sequence puts it behind the side so far, whose node is `side` before
  -- them and `last` after
  unfoldable pub Tied : List Equation → ℕ → ℕ → ℕ → ℕ → Type 0
  Tied [] side at last end = (side ≡ last) × (at ≡ end)
  Tied (e ∷ es) side at last end =
      One (SpansTest (equality e)) (λ x. node 35 x 0 0) at (at + 3)
      × (nodes (at + 4) ≡ node 37 side (at + 3) 0)
      × Tied es (at + 4) (at + 5) last end

  -- where a joint stands
  pub record Joined (xs ys : List Equation) (a b at i : ℕ) : Type 0 where
    pub left : ℕ
    pub right : ℕ
    pub between : ℕ
    pub on_left : Tied xs a at left between
    pub on_right : Tied ys b between right i
    pub is : nodes i ≡ node 38 left right 0

  pub tied_order : (es : List Equation) (side at last end : ℕ) → Tied es side at last end → side < at → (at ≤ end) × (last < end)
  unfolding Tied
  tied_order [] side at last end t h = omega arith
  tied_order (e ∷ es) side at last end t h = let o = tied_order es (at + 4) (at + 5) last end t.2 (omega arith) in omega arith

  unfoldable pub SpansStatement : Passive → Span
  SpansStatement Passive.skip = Own (node 32 0 0 0)
  SpansStatement (Passive.havoced x) = Own (node 32 0 0 0)
  SpansStatement (Passive.assume t) = One (SpansTest t) (λ x. node 35 x 0 0)
  SpansStatement (Passive.assert t) = One (SpansTest t) (λ x. node 36 x 0 0)
  SpansStatement (a then b) = Two (SpansStatement a) (SpansStatement b) (λ x y. node 37 x y 0)
  SpansStatement (Passive.choice o a xs b ys) = Then (SpansStatement a) (λ x. Then (SpansStatement b) (λ y. Joined xs ys x y))

  -- ---- what is emitted stands so

  pub record Gives (piece : Piece) (A : Span) : Type 0 where
    pub some : (at : ℕ) → 0 < length (piece at)
    pub spans : (at : ℕ) → Stands nodes at (piece at) → A at (top at (piece at))

  gives_own : (n : Node) → Gives (leaf n) (Own n)
  gives_own n = record {
    some = λ at. omega arith;
    spans = λ at s. record { alone = omega arith; is = ap nodes (omega arith) ∙ stands-first s };
  }

  gives_then : {p : Piece} {r : ℕ → Piece} {A : Span} {B : ℕ → Span} → Gives p A → ((x : ℕ) → Gives (r x) (B x)) → Gives (follow p r) (Then A B)
  gives_then {p} {r} {A} {B} g k = record {
    some = λ at. let x = p at in omega (arith, g.some at, length-append x (r (top at x) (past at x)));
    spans = λ at s.
        let x = p at in
        let y = r (top at x) (past at x) in
        let e : past at x ≡ suc (top at x) = omega (arith, g.some at) in
        let e' : top (past at x) y ≡ top at (x ++ y) = omega (arith, length-append x y) in
        record {
          child = top at x;
          spans = g.spans at (stands-left x y s);
          order = omega (arith, g.some at);
          rest = subst₂ (B (top at x)) e e' ((k (top at x)).spans (past at x) (stands-right x y s));
        };
  }

  gives_one : {p : Piece} {A : Span} (own : ℕ → Node) → Gives p A → Gives (one p own) (One A own)
  gives_one own g = gives_then g (λ x. gives_own (own x))

  gives_two : {p q : Piece} {A B : Span} (own : ℕ → ℕ → Node) → Gives p A → Gives q B → Gives (two p q own) (Two A B own)
  gives_two own g k = gives_then g (λ x. gives_one (own x) k)

  gives_three : {p q r : Piece} {A B C : Span} (own : ℕ → ℕ → ℕ → Node) → Gives p A → Gives q B → Gives r C
      → Gives (three p q r own) (Three A B C own)
  gives_three own g k l = gives_then g (λ x. gives_two (own x) k l)

  tied : (es : List Equation) (side at : ℕ) → let x = emit_equations es side at in Stands nodes at x.nodes → Tied es side at x.side (past at x.nodes)
  unfolding Tied emit_equations SpansValue SpansTest
  tied [] side at s = (refl, sym (add-zero at))
  tied (e ∷ es) side at s =
      let rest = emit_equations es (at + 4) (at + 5) in
      let five = node 2 e.own 0 0 ∷ node 2 e.joined 0 0 ∷ node 17 at (at + 1) 0 ∷ node 35 (at + 2) 0 0 ∷ node 37 side (at + 3) 0 ∷ [] in
      let own : Own (node 2 e.own 0 0) at at = record { alone = refl; is = stands-first s } in
      let joined : Own (node 2 e.joined 0 0) (suc at) (at + 1) = record { alone = omega arith; is = s.there 1 (omega arith) } in
      let equal : Own (node 17 at (at + 1) 0) (suc (at + 1)) (at + 2) = record { alone = omega arith; is = s.there 2 (omega arith) } in
      let assumed : Own (node 35 (at + 2) 0 0) (suc (at + 2)) (at + 3) = record { alone = omega arith; is = s.there 3 (omega arith) } in
      let test : SpansTest (equality e) at (at + 2) =
      record { child = at; spans = own; order = omega arith; rest = record { child = at + 1; spans = joined; order = omega arith; rest = equal } } in (
        record { child = at + 2; spans = test; order = omega arith; rest = assumed },
        s.there 4 (omega arith),
        subst (λ (m : ℕ). Tied es (at + 4) (at + 5) rest.side m) (omega arith) (tied es (at + 4) (at + 5) (stands-right five rest.nodes s)),
      )

  gives_joint : (xs ys : List Equation) (a b : ℕ) → Gives (joint xs ys a b) (Joined xs ys a b)
  gives_joint xs ys a b = record {
    some = λ at.
        let x = emit_equations xs a at in
        let y = emit_equations ys b (past at x.nodes) in
        let n = node 38 x.side y.side 0 in
        omega (arith, length-append x.nodes (y.nodes ++ (n ∷ [])), length-append y.nodes (n ∷ []));
    spans = λ at s.
        let x = emit_equations xs a at in
        let y = emit_equations ys b (past at x.nodes) in
        let n = node 38 x.side y.side 0 in
        let s₁ = stands-right x.nodes (y.nodes ++ (n ∷ [])) s in
        let e : past (past at x.nodes) y.nodes ≡ top at (x.nodes ++ (y.nodes ++ (n ∷ []))) =
        omega (arith, length-append x.nodes (y.nodes ++ (n ∷ [])), length-append y.nodes (n ∷ [])) in
        record {
          left = x.side;
          right = y.side;
          between = past at x.nodes;
          on_left = tied xs a at (stands-left x.nodes (y.nodes ++ (n ∷ [])) s);
          on_right = subst (λ (m : ℕ). Tied ys b (past at x.nodes) y.side m) e (tied ys b (past at x.nodes) (stands-left y.nodes (n ∷ []) s₁));
          is = ap nodes (sym e) ∙ stands-first (stands-right y.nodes (n ∷ []) s₁);
        };
  }

  mutual
    unfolding emit_value emit_test SpansValue SpansTest

    pub gives_value : (v : Val) → Gives (emit_value v) (SpansValue v)
    gives_value (Val.constant n w) = gives_own _
    gives_value (Val.field x) = gives_own _
    gives_value (Val.binary o a b) = gives_two _ (gives_value a) (gives_value b)
    gives_value (Val.complement a) = gives_one _ (gives_value a)
    gives_value (Val.slice a high low) = gives_one _ (gives_value a)
    gives_value (Val.join a b) = gives_two _ (gives_value a) (gives_value b)
    gives_value (Val.select t a b) = gives_three _ (gives_test t) (gives_value a) (gives_value b)

    pub gives_test : (t : Test) → Gives (emit_test t) (SpansTest t)
    gives_test (Test.truth b) = gives_own _
    gives_test (Test.compare o a b) = gives_two _ (gives_value a) (gives_value b)
    gives_test (Test.not_test t) = gives_one _ (gives_test t)
    gives_test (Test.connect o t u) = gives_two _ (gives_test t) (gives_test u)

  pub gives_statement : (q : Passive) → Gives (emit q) (SpansStatement q)
  unfolding emit SpansStatement
  gives_statement Passive.skip = gives_own _
  gives_statement (Passive.havoced x) = gives_own _
  gives_statement (Passive.assume t) = gives_one _ (gives_test t)
  gives_statement (Passive.assert t) = gives_one _ (gives_test t)
  gives_statement (a then b) = gives_two _ (gives_statement a) (gives_statement b)
  gives_statement (Passive.choice o a xs b ys) = gives_then (gives_statement a) (λ x. gives_then (gives_statement b) (λ y. gives_joint xs ys x y))

pub emitted_spans : (q : Passive) → let ns = emit q 0 in SpansStatement (plain_node (words ns)) q 0 (top 0 ns)
emitted_spans q = let ns = emit q 0 in (gives_statement (plain_node (words ns)) q).spans 0 (words_stand ns)
