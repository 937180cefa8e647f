-- Words that are written at a place of an area, one piece after the other. Assumes nothing.
use Prim.Native.Nat.{ℕ, ◌+◌, ◌*◌, ◌≤◌, ◌<◌}
use native.Mathlib.Nat.{add-zero, zero-add, mul-le-mul_left}
use native.Mathlib.Numerals.{add-one}
use native.Mathlib.Omega.{arith}
use mathlib.Core.Path.{◌≡◌}
use mathlib.Core.List.{List, [], ◌++◌, append_assoc, append-nil}
use lib.ListN.{length, take, drop, take-append-drop, length-append}
use lib.Seq.{length-take-le, take_at, drop_at, drop-drop}
use Rattle.model.specs.Lists.{each, joined}
use Rattle.model.specs.Bytes.{big_endian}
use Rattle.model.specs.Blocks.{size}
use Rattle.model.specs.Files.{bytes}
use Rattle.model.specs.Calls.{over}
use Rattle.model.specs.declared.Group.{Group}
use Rattle.model.proofs.Lists.{length-each, length-joined}
use Rattle.records.specs.declared.Run.{Run}
use Rattle.records.specs.Runs.{words_at, words, onto}

module _ (area : List ℕ) (to : ℕ) where
  pub onto_none : area ≡ onto to [] area
  onto_none = rw (add-zero, append-nil, take-append-drop)

  module _ (ws : List ℕ) where
    -- words behind words
    pub onto-more : (vs : List ℕ) (k : ℕ) → to + length ws ≤ length area → k ≡ to + length ws → onto k vs (onto to ws area) ≡ onto to (ws ++ vs) area
    onto-more vs k h e =
        let front : length (take to area ++ ws) ≡ k = simp length-append (omega (arith, length-take-le to area (omega arith))) in
        let far : to + length ws + length vs ≡ to + length (ws ++ vs) = simp length-append (omega arith) in
        let behind = drop (to + length ws) area in
        let head = take to area ++ ws in
        rw (take_at head behind k front, ← drop-drop (length vs) k (head ++ behind), drop_at head behind k front, drop-drop (length vs) (to + length ws) area, far, append_assoc (take to area) ws vs)

-- so many more words find room
pub room_for : (to k i n room : ℕ) → i < n → to + k * n ≤ room → to + k * i + k ≤ room
room_for to k i n room h l = omega (arith, mul-le-mul_left k h)

pub one_inside : (file : List ℕ) (run : Run) (step i : ℕ) → i < run.count → run.at + step * run.count ≤ length file → run.at + step * i + step ≤ length file
one_inside file run step i h l = room_for run.at step i run.count (length file) h l

pub over-onto : (ws area : List ℕ) → over ws area ≡ onto 0 ws area
over-onto ws area = rw zero-add

-- ---- the records of a run

module _ (file : List ℕ) (g : Group) where
  pub length-words : (run : Run) → length (words file g run) ≡ size g * run.count
  length-words run =
      length-joined (λ i. words_at file (run.at + bytes g * i + 2) (size g)) (size g) (λ i. length-each (λ j. big_endian file (run.at + bytes g * i + 2 + 4 * j)) (size g)) run.count

  module _ (at i end : ℕ) where
    abbrev first : Run
    first = record { at = at; count = i; end = end }

    abbrev more : Run
    more = record { at = at; count = i + 1; end = end }

    -- one record more
    pub one_more : (each step : ℕ) → each ≡ size g → step ≡ bytes g → (before now later : List ℕ) (to : ℕ) → now ≡ onto to (words file g first) before
        → to + each * i + each ≤ length before → later ≡ onto (to + each * i) (words_at file (at + step * i + 2) each) now
        → later ≡ onto to (words file g more) before
    unfolding joined
    one_more each step d b before now later to e room h =
        let long = length-words first in
        rw (h, d, b, e, add-one) (onto-more before to (words file g first) (words_at file (at + bytes g * i + 2) (size g)) (to + size g * i) (omega (arith, long, rw d at room)) (omega (arith, long)))
