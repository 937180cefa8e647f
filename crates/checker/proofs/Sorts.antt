-- The sorts of the nodes that a pipeline block holds are those of the words that hold them. Assumes nothing.
use Prim.Native.Nat.{ℕ, zero, suc, ◌+◌, ◌*◌, ◌-◌, ◌<◌, ◌≤◌}
use native.Mathlib.Omega.{arith}
use mathlib.Core.Path.{◌≡◌, refl, ap}
use mathlib.Core.List.{List}
use lib.ListN.{length, get_or, take, drop, length-take, length-drop}
use lib.Seq.{ext_get_or, get_or-take, get_or-drop}
use Rattle.std.specs.Prelude.{Option}
use Rattle.model.specs.Lists.{word, build, or_count}
use Rattle.model.specs.Blocks.{N, T, node_place, widths, plain_node, pipeline_node}
use Rattle.model.specs.Condition.{node_count}
use Rattle.model.specs.Nodes.{sort_of}
use Rattle.model.specs.Refusals.{pipeline_sorts, node_row}
use Rattle.model.specs.declared.Sort.{Sort}
use Rattle.model.specs.declared.Stage.{Stage}
use Rattle.model.proofs.Lists.{length-build}
use Rattle.blocks.specs.Whole.{Whole}
use Rattle.nodes.specs.Codes.{Coded, node_sorts, first_malformed}
use Rattle.checker.specs.Rows.{first_in}

pub sorts-length : (p : List ℕ) → length (pipeline_sorts p) ≡ N p
unfolding pipeline_sorts
sorts-length p = length-build (λ before i. sort_of Stage.Pipeline (widths p) (T p) before (pipeline_node p i)) (N p)

-- lists that are built by equal steps are equal
build-same : {A : Type 0} (f g : List A → ℕ → A) (n : ℕ) → ((before : List A) (i : ℕ) → i < n → f before i ≡ g before i) → build f n ≡ build g n
unfolding build
build-same f g zero h = refl
build-same f g (suc n) h = let before = build-same f g n (λ b i l. h b i (omega arith)) in rw (before, h (build g n) n (omega arith))

-- the part of the block that the nodes stand in
module _ (p : List ℕ) (whole : Whole p) where
  abbrev pub node_words : List ℕ
  node_words = take (node_place p (N p) - node_place p 0) (drop (node_place p 0) p)

  words-length : length node_words ≡ 4 * N p
  words-length = simp (length-take, length-drop) (omega arith)

  words-count : node_count node_words ≡ N p
  words-count = rw words-length (omega arith)

  same-word : (i j : ℕ) → i < N p → j < 4 → word node_words (4 * i + j) ≡ word p (node_place p i + j)
  same-word i j h l =
      let inside : 4 * i + j < node_place p (N p) - node_place p 0 = omega arith in
      rw (get_or-take, get_or-drop) (ap (word p) (omega arith))

  same-node : (i : ℕ) → i < N p → plain_node node_words i ≡ pipeline_node p i
  same-node i h =
      let first : word node_words (4 * i) ≡ word p (node_place p i) =
      let d : 4 * i + 0 ≡ 4 * i = omega arith in
      let e : node_place p i + 0 ≡ node_place p i = omega arith in
      rw (d, e) at (same-word i 0 h (omega arith))
      in
      rw (first, same-word i 1 h (omega arith), same-word i 2 h (omega arith), same-word i 3 h (omega arith))

  same-sorts : node_sorts Stage.Pipeline (widths p) (T p) node_words ≡ pipeline_sorts p
  unfolding pipeline_sorts
  same-sorts =
      rw words-count
      (build-same (λ before i. sort_of Stage.Pipeline (widths p) (T p) before (plain_node node_words i))
      (λ before i. sort_of Stage.Pipeline (widths p) (T p) before (pipeline_node p i)) (N p) (λ before i h. rw (same-node i h)))

  -- the first malformed node is the place that 4 gives, and the sorts of those before it are known
  module _ {ws nodes : List ℕ} {tables : ℕ} (d : ws ≡ widths p) (t : tables ≡ T p) (n : nodes ≡ node_words) where
    pub node_found : {x : Option ℕ} → x ≡ first_malformed Stage.Pipeline ws tables nodes → x ≡ first_in (node_row p (pipeline_sorts p))
    node_found e = rw (d, t, n, same-sorts, words-count) at e

    pub node_coded : (x : Option ℕ) {codes : List Sort} → Coded codes (node_sorts Stage.Pipeline ws tables nodes) (or_count (node_count nodes) x)
        → Coded codes (pipeline_sorts p) (or_count (N p) x)
    node_coded x h = rw (d, t, n, same-sorts, words-count) at h

-- where all are known, they are the first of the area
pub coded-all : (p : List ℕ) (codes : List Sort) → Coded codes (pipeline_sorts p) (N p) → N p ≤ length codes → take (N p) codes ≡ pipeline_sorts p
coded-all p codes h l = ext_get_or Sort.Malformed (take (N p) codes) (pipeline_sorts p) long at
  where
    long : length (take (N p) codes) ≡ length (pipeline_sorts p)
    long = simp (length-take, sorts-length) (omega arith)

    at : (x : ℕ) → x < length (take (N p) codes) → get_or (take (N p) codes) x Sort.Malformed ≡ get_or (pipeline_sorts p) x Sort.Malformed
    at x k = let below : x < N p = omega (arith, rw length-take at k) in rw get_or-take (h.at x below)
