-- The condition's entries: three a node, and the last. Assumes nothing.
use Prim.Native.Nat.{ℕ, ◌+◌, ◌*◌, ◌-◌, ◌<◌, ◌≤◌}
use native.Mathlib.Nat.{add-zero}
use native.Mathlib.Omega.{arith}
use mathlib.Core.Bool.{Bool, true, false}
use mathlib.Core.Path.{◌≡◌, refl, sym, ap, ◌∙◌}
use mathlib.Core.List.{List, [], ◌∷◌, ◌++◌}
use lib.Dec.{eqb, ltb}
use lib.ListN.{get_or, length, length-append, get_or-append}
use lib.Seq.{get_or_at}
use Rattle.std.specs.Prelude.{if◌then◌else◌}
use Rattle.model.specs.Lists.{joined}
use Rattle.model.specs.Blocks.{node, words, plain_node}
use Rattle.model.specs.Nodes.{number_of, allowed, roles, renumbered_in}
use Rattle.model.specs.Condition.{no, not_entry, on, entries_of, condition_of}
use Rattle.model.specs.declared.Node.{Node}
use Rattle.model.specs.declared.Kind.{Kind}
use Rattle.model.specs.declared.Stage.{Stage}
use Rattle.model.proofs.Lists.{length-joined, joined_at}
use Rattle.model.proofs.KindNumbers.{kind_in-number, entry-below}
use Rattle.model.proofs.NodeList.{node_count-words, plain_node-words}

either_way : (A : List Node → Type 0) (b : Bool) {x y : List Node} → A x → A y → A (if b then x else y)
either_way A true hx hy = hx
either_way A false hx hy = hy

pub entries_of-length : (i : ℕ) (m : Node) → length (entries_of i m) ≡ 3
unfolding entries_of
entries_of-length i m =
    let A : List Node → Type 0 = λ es. length es ≡ 3 in
    let k = m.kind in
    either_way A (ltb k 32) refl
    (either_way A (eqb k 32) refl
    (either_way A (eqb k 35) refl (either_way A (eqb k 36) refl (either_way A (eqb k 37) refl (either_way A (eqb k 38) refl refl)))))

-- a value's or a test's first entry is the same node over its children's
abbrev pub over_entries : Kind → ℕ → ℕ → ℕ → Node
over_entries k a b c = let w = roles k in node (number_of k) (renumbered_in on w.a a) (renumbered_in on w.b b) (renumbered_in on w.c c)

pub expression_entry : (k : Kind) (i a b c : ℕ) → allowed Stage.Condition (number_of k) ≡ true
    → get_or (entries_of i (node (number_of k) a b c)) 0 no ≡ over_entries k a b c
unfolding entries_of
expression_entry k i a b c h = rw (entry-below (number_of k) h, kind_in-number k)

-- each node owns three entries
pub record Owned (nodes entries : ℕ → Node) (n : ℕ) : Type 0 where
  pub owns : (i r : ℕ) → i < n → r < 3 → entries (3 * i + r) ≡ get_or (entries_of i (nodes i)) r no

-- those of a node that is known: each, and the first
module _ {nodes entries : ℕ → Node} {n : ℕ} (owned : Owned nodes entries n) where
  pub each-entry : (r : ℕ) {i : ℕ} {m : Node} → r < 3 → i < n → nodes i ≡ m → entries (3 * i + r) ≡ get_or (entries_of i m) r no
  each-entry r {i} h l e = owned.owns i r l h ∙ ap (λ (m : Node). get_or (entries_of i m) r no) e

  pub first_entry : {i : ℕ} {m : Node} → i < n → nodes i ≡ m → entries (3 * i) ≡ get_or (entries_of i m) 0 no
  first_entry {i} l e = ap entries (sym (add-zero (3 * i))) ∙ each-entry 0 (omega arith) l e

module _ (ns : List Node) where
  -- three entries a node
  abbrev threes : List Node
  threes = joined (λ i. entries_of i (plain_node (words ns) i)) (length ns)

  pub condition_of-words : condition_of (words ns) ≡ threes ++ (not_entry (3 * length ns - 1) ∷ [])
  unfolding condition_of
  condition_of-words = rw (node_count-words ns)

  length_threes : length threes ≡ 3 * length ns
  length_threes = length-joined (λ i. entries_of i (plain_node (words ns) i)) 3 (λ i. entries_of-length i (plain_node (words ns) i)) (length ns)

  pub length-condition : length (condition_of (words ns)) ≡ 3 * length ns + 1
  length-condition = ap length condition_of-words ∙ omega (arith, length-append threes (not_entry (3 * length ns - 1) ∷ []), length_threes)

  -- what stands at entry j
  abbrev pub entry_at : ℕ → Node
  entry_at = plain_node (words (condition_of (words ns)))

  entry-word : (j : ℕ) → j ≤ 3 * length ns → entry_at j ≡ get_or (threes ++ (not_entry (3 * length ns - 1) ∷ [])) j no
  entry-word j h =
      plain_node-words (condition_of (words ns)) j no (omega (arith, length-condition)) ∙ ap (λ (es : List Node). get_or es j no) condition_of-words

  pub owned_entries : Owned (plain_node (words ns)) entry_at (length ns)
  owned_entries = record {
    owns = λ i r l h.
        entry-word (3 * i + r) (omega arith)
        ∙ get_or-append threes (not_entry (3 * length ns - 1) ∷ []) no (3 * i + r) (omega (arith, length_threes))
        ∙ joined_at (λ i. entries_of i (plain_node (words ns) i)) 3 (λ i. entries_of-length i (plain_node (words ns) i)) (length ns) i r no l h;
  }

  pub last_entry : entry_at (3 * length ns) ≡ not_entry (3 * length ns - 1)
  last_entry = entry-word (3 * length ns) (omega arith) ∙ get_or_at threes (not_entry (3 * length ns - 1)) [] no (3 * length ns) length_threes
