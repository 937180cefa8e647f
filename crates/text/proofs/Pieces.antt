-- A text that is written piece by piece: nothing, a byte, and one piece behind another. Assumes nothing.
use Prim.Native.Nat.{ℕ, ◌+◌, ◌≤◌, ◌<◌}
use native.Mathlib.Numerals.{add-one}
use native.Mathlib.Omega.{arith}
use mathlib.Core.Path.{◌≡◌, refl, sym, ◌∙◌}
use mathlib.Core.List.{List, [], ◌∷◌, ◌++◌, append_assoc}
use lib.ListN.{length, take, drop, set, length-append, length-drop, take-append-drop}
use lib.Seq.{length-take-le, take_at, drop_at, drop-drop, set_split}
use Rattle.text.specs.Adds.{Adds, Grows}
use Rattle.text.specs.declared.Text.{Text}

pub nothing : (at : ℕ) (area : List ℕ) → at ≤ length area → Adds [] at area at area
nothing at area h = record { ends = omega arith; room = h; bytes = sym (take-append-drop at area) }

pub byte : (b at : ℕ) (area : List ℕ) → at < length area → Adds (b ∷ []) at area (at + 1) (set area at b)
byte b at area h = record { ends = refl; room = omega arith; bytes = rw (set_split area at b h, add-one) }

module _ {a : List ℕ} {at : ℕ} {x : List ℕ} {m : ℕ} {y : List ℕ} (s : Adds a at x m y) where
  length_text : length (take at x ++ a) ≡ m
  length_text = omega (arith, length-append (take at x) a, length-take-le at x (omega (arith, s.ends, s.room)), s.ends)

  pub so_far : take m y ≡ take at x ++ a
  so_far = rw (s.bytes, ← append_assoc) (take_at (take at x ++ a) (drop m x) m length_text)

  pub left_over : drop m y ≡ drop m x
  left_over = rw (s.bytes, ← append_assoc) (drop_at (take at x ++ a) (drop m x) m length_text)

  pub same_length : length y ≡ length x
  same_length =
      rw (s.bytes, ← append_assoc)
      (omega (arith, length-append (take at x ++ a) (drop m x), length_text, length-drop m x, s.room))

-- one piece behind another
pub follow : {a b : List ℕ} {at m r : ℕ} {x y z : List ℕ} → Adds a at x m y → Adds b m y r z → Adds (a ++ b) at x r z
follow {a} {b} {at} {m} {r} {x} {y} {z} s t =
    record {
      ends = omega (arith, length-append a b, s.ends, t.ends);
      room = omega (arith, same_length s, t.room);
      bytes = t.bytes ∙ rw (so_far s, past) (simp append_assoc);
    }
  where
    past : drop r y ≡ drop r x
    past = rw (t.ends, ← drop-drop (length b) m y, ← drop-drop (length b) m x, left_over s)

-- the same, told of a text
pub grows-nothing : (t : Text) → t.end ≤ length t.area.now → Grows [] t t
grows-nothing t h = record { same_area = refl; same_length = refl; adds = nothing t.end t.area.now h }

pub grows_more : {a b : List ℕ} {x y z : Text} → Grows a x y → Grows b y z → Grows (a ++ b) x z
grows_more s t = record { same_area = t.same_area ∙ s.same_area; same_length = t.same_length ∙ s.same_length; adds = follow s.adds t.adds }
