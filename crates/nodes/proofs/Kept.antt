-- What the loop over a list of nodes knows of those before the one it is at: they are formed, and their sorts stand in their places.
-- Assumes nothing.
use Prim.Native.Nat.{ℕ, ◌+◌, ◌<◌, ◌≤◌}
use native.Mathlib.Nat.{eq-or-lt_of_le, le_of_suc-le-suc}
use native.Mathlib.Numerals.{add-one}
use native.Mathlib.Omega.{arith}
use mathlib.Core.Path.{◌≡◌, sym, ◌∙◌}
use mathlib.Core.Logic.{◌⊎◌, inl, inr}
use mathlib.Core.Bool.{Bool, true, false}
use mathlib.Core.List.{List}
use lib.ListN.{length, get_or, set, take, length-take}
use lib.Seq.{ext_get_or, get_or-take, get_or-set_same, get_or-set_other}
use Rattle.std.specs.Prelude.{None, Some}
use Rattle.model.specs.Lists.{first_not, build}
use Rattle.model.specs.Blocks.{plain_node}
use Rattle.model.specs.Condition.{node_count}
use Rattle.model.specs.Nodes.{is_formed, sort_of}
use Rattle.model.specs.declared.Node.{Node}
use Rattle.model.specs.declared.Sort.{Sort}
use Rattle.model.specs.declared.Stage.{Stage}
use Rattle.model.proofs.Lists.{made, build-at, length-build}
use Rattle.model.proofs.Every.{build-before}
use Rattle.model.proofs.First.{first-none, first_more, first_found}
use Rattle.nodes.specs.Codes.{Coded, node_sorts, first_malformed}

-- one more
coded_more : (codes ss : List Sort) (i : ℕ) (s : Sort) → Coded codes ss i → i < length codes → s ≡ get_or ss i Sort.Malformed
    → Coded (set codes i s) ss (i + 1)
coded_more codes ss i s k h e = record { at = λ x l. go x (eq-or-lt_of_le (le_of_suc-le-suc (rw add-one at l))) }
  where
    go : (x : ℕ) → (x ≡ i) ⊎ (x < i) → get_or (set codes i s) x Sort.Malformed ≡ get_or ss x Sort.Malformed
    go x (inl p) = rw (p, get_or-set_same codes i s Sort.Malformed h) e
    go x (inr l) = rw (get_or-set_other codes i x s Sort.Malformed (λ p. omega arith)) (k.at x l)

module _ (stage : Stage) (widths : List ℕ) (tables : ℕ) (ws : List ℕ) where
  abbrev pub sort_at : ℕ → Sort
  sort_at i = get_or (node_sorts stage widths tables ws) i Sort.Malformed

  abbrev over : List Sort → ℕ → Sort
  over before j = sort_of stage widths tables before (plain_node ws j)

  -- what the loop knows at node i
  pub record Kept (codes : List Sort) (i : ℕ) : Type 0 where
    pub formed : first_not (λ x. is_formed (sort_at x)) i ≡ None
    pub coded : Coded codes (node_sorts stage widths tables ws) i

  pub kept_none : (codes : List Sort) → Kept codes 0
  kept_none codes = record { formed = first-none _; coded = record { at = λ x l. absurd (omega arith) } }

module _ {stage : Stage} {widths : List ℕ} {tables : ℕ} {ws : List ℕ} {codes : List Sort} {i : ℕ}
    (k : Kept stage widths tables ws codes i) (l : i < node_count ws) (room : node_count ws ≤ length codes) where
  -- the sorts before node i
  so_far : take i codes ≡ build (over stage widths tables ws) i
  so_far = ext_get_or Sort.Malformed (take i codes) (build (over stage widths tables ws) i) long at
    where
      long : length (take i codes) ≡ length (build (over stage widths tables ws) i)
      long = simp (length-take, length-build) (omega arith)

      at : (x : ℕ) → x < length (take i codes) → get_or (take i codes) x Sort.Malformed ≡ get_or (build (over stage widths tables ws) i) x Sort.Malformed
      at x h =
          let before : x < i = omega (arith, rw length-take at h) in
          rw get_or-take (k.coded.at x before ∙ sym (build-before (over stage widths tables ws) i (node_count ws) x Sort.Malformed before (omega arith)))

  -- its own sort in the whole list
  module _ {m : Node} {s : Sort} (p : m ≡ plain_node ws i) (e : s ≡ sort_of stage widths tables (take i codes) m) where
    kept_own : s ≡ sort_at stage widths tables ws i
    unfolding made
    kept_own = rw (p, so_far) at e ∙ sym (build-at (over stage widths tables ws) (node_count ws) i Sort.Malformed l)

    pub kept_stop : (u : Bool) → u ≡ is_formed s → u ≡ false → Some i ≡ first_malformed stage widths tables ws
    kept_stop u f g = sym (first_found _ (node_count ws) i k.formed (rw kept_own at (sym f ∙ g)) l)

    pub kept_more : (u : Bool) → u ≡ is_formed s → u ≡ true → Kept stage widths tables ws (set codes i s) (i + 1)
    kept_more u f g = record {
      formed = first_more _ i k.formed (rw kept_own at (sym f ∙ g));
      coded = coded_more codes _ i s k.coded (omega arith) kept_own;
    }

pub kept_end : {stage : Stage} {widths : List ℕ} {tables : ℕ} {ws : List ℕ} {codes : List Sort} {i : ℕ} → Kept stage widths tables ws codes i
    → i ≡ node_count ws → None ≡ first_malformed stage widths tables ws
kept_end k e = rw e at (sym k.formed)
