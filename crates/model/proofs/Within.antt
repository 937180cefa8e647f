-- Packets and valuations within their widths, place by place. Assumes nothing.
use Prim.Native.Nat.{ℕ, zero, suc, ◌^◌, ◌<◌, suc-le-suc}
use native.Mathlib.Nat.{zero-lt-suc, suc_inj}
use native.Mathlib.Omega.{arith}
use mathlib.Core.Path.{◌≡◌, refl, ap}
use mathlib.Core.Bool.{true}
use mathlib.Core.List.{List, [], ◌∷◌}
use lib.Dec.{eqb}
use lib.ListN.{get_or, length, set}
use lib.Pow.{pow_pos}
use borrow.Author.Tests.{eq-eqb, lt-ltb}
use Rattle.bits.specs.Width.{fits}
use Rattle.model.specs.Lists.{word}
use Rattle.model.specs.Good.{Within}

pub within-length : (ws ns : List ℕ) → Within ws ns → length ns ≡ length ws
within-length [] [] h = refl
within-length [] (n ∷ ns) h = absurd h
within-length (w ∷ ws) [] h = absurd h
within-length (w ∷ ws) (n ∷ ns) h = ap suc (within-length ws ns h.1)

-- past the end there is 0, which fits
pub within-at : (ws ns : List ℕ) → Within ws ns → (i : ℕ) → get_or ns i 0 < 2 ^ get_or ws i 0
within-at [] [] h i = pow_pos 0
within-at [] (n ∷ ns) h i = absurd h
within-at (w ∷ ws) [] h i = absurd h
within-at (w ∷ ws) (n ∷ ns) h zero = h.0
within-at (w ∷ ws) (n ∷ ns) h (suc i) = within-at ws ns h.1 i

pub within_of : (ws ns : List ℕ) → length ns ≡ length ws → ((i : ℕ) → i < length ws → get_or ns i 0 < 2 ^ get_or ws i 0) → Within ws ns
within_of [] [] e f = tt
within_of [] (n ∷ ns) e f = let z : ⊥ = omega arith in absurd z
within_of (w ∷ ws) [] e f = let z : ⊥ = omega arith in absurd z
within_of (w ∷ ws) (n ∷ ns) e f = (f zero (zero-lt-suc _), within_of ws ns (suc_inj e) (λ i h. f (suc i) (suc-le-suc h)))

-- a number that fits takes its place
pub within-set : (ws ns : List ℕ) (f n : ℕ) → Within ws ns → n < 2 ^ get_or ws f 0 → Within ws (set ns f n)
within-set [] [] f n h k = tt
within-set [] (m ∷ ns) f n h k = absurd h
within-set (w ∷ ws) [] f n h k = absurd h
within-set (w ∷ ws) (m ∷ ns) zero n h k = (k, h.1)
within-set (w ∷ ws) (m ∷ ns) (suc f) n h k = (h.0, within-set ws ns f n h.1 k)

-- the tests of 11 and of 13
pub within-well : (ws ns : List ℕ) → Within ws ns → (eqb (length ns) (length ws) ≡ true) × ((i : ℕ) → fits (word ws i) (word ns i) ≡ true)
within-well ws ns h = (eq-eqb (length ns) (length ws) (within-length ws ns h), λ i. lt-ltb (word ns i) (2 ^ word ws i) (within-at ws ns h i))
