-- What the rows of Check's table that have passed let the later ones rely on. Assumes nothing.
use Prim.Native.Nat.{ℕ, zero, suc, ◌+◌, ◌<◌, ◌≤◌}
use native.Mathlib.Omega.{arith}
use mathlib.Core.Path.{◌≡◌, ap}
use mathlib.Core.Bool.{Bool, false, ◌&&◌}
use mathlib.Core.List.{List, [], ◌∷◌}
use lib.Dec.{eqb}
use borrow.Author.Tests.{lt-ltb, le-ltb}
use Rattle.bits.specs.Width.{fits, under}
use Rattle.model.specs.Lists.{word, every}
use Rattle.model.specs.Blocks.{F, A, T, width, widths, call_at, parameter_count, parameter_width, key_count, key, table_of, value, mask, call_place}
use Rattle.model.specs.Refusals.{well_or_zero, call_well, pair_well, rule_well, field_row, table_row}
use Rattle.model.proofs.SortTests.{width-true}
use Rattle.model.proofs.SortWidths.{all-narrow}
use Rattle.model.proofs.Accepted.{all-widths, table_keys}
use Rattle.checker.specs.Rows.{Passes}

-- what three words say, by whether their action is there
module _ (p ws : List ℕ) (at : ℕ) where
  abbrev action : ℕ
  action = word ws at

  pub datum_at : (j : ℕ) → j < 2 → word (word ws (at + 1) ∷ word ws (at + 2) ∷ []) j ≡ word ws (at + 1 + j)
  datum_at zero h = ap (word ws) (omega arith)
  datum_at (suc zero) h = ap (word ws) (omega arith)
  datum_at (suc (suc j)) h = absurd (omega arith)

  abbrev pub datum_well : ℕ → Bool
  datum_well j = let x = word (call_at ws at).«data» j in well_or_zero (parameter_count p action) j (fits (parameter_width p action j) x) x

  pub call_there : (b : Bool) → action < A p → b ≡ every datum_well 2 → b ≡ call_well p (call_at ws at)
  unfolding call_well
  call_there b h q = rw (lt-ltb action (A p) h) q

  pub call_nowhere : A p ≤ action → false ≡ call_well p (call_at ws at)
  unfolding call_well
  call_nowhere h = rw (le-ltb action (A p) h)

-- a used key is a field, and a field's width is narrow
pub key_there : (p : List ℕ) (t j f : ℕ) → Passes (table_row p) → t < T p → j < key_count p t → f ≡ key p t j → f < F p
key_there p t j f h k l e = rw e ((table_keys p t (h.at t k)).1 j l)

pub narrow_there : (p : List ℕ) (f w : ℕ) → Passes (field_row p) → f < F p → w ≡ width p f → w ≤ 32
narrow_there p f w h k e = rw e (width-true (width p f) (h.at f k)).1

-- what a rule says, by whether its table is there
module _ (p r : List ℕ) (i t : ℕ) (e : t ≡ table_of r i) where
  pub rule_there : (b : Bool) → t < T p → b ≡ every (pair_well p r i) 4 && call_well p (call_at r (call_place r i)) → b ≡ rule_well p r i
  unfolding rule_well
  rule_there b h q = rw (← e, lt-ltb t (T p) h) q

  pub rule_nowhere : T p ≤ t → false ≡ rule_well p r i
  unfolding rule_well
  rule_nowhere h = rw (← e, le-ltb t (T p) h)

  -- what a pair says, by whether its table has so many keys
  pub pair_used : (j w : ℕ) (b : Bool) → j < key_count p t → w ≡ width p (key p t j)
      → b ≡ fits w (mask r i j) && under (mask r i j) (value r i j) (value r i j) → b ≡ pair_well p r i j
  unfolding pair_well
  pair_used j w b h d q = rw (← e, lt-ltb j (key_count p t) h, ← d) q

  pub pair_unused : (j : ℕ) (b : Bool) → key_count p t ≤ j → b ≡ eqb (value r i j) 0 && eqb (mask r i j) 0 → b ≡ pair_well p r i j
  unfolding pair_well
  pair_unused j b h q = rw (← e, le-ltb j (key_count p t) h) q

-- 3 lets all widths, and what stands past the last, be narrow
pub narrow-words : (p ws : List ℕ) → Passes (field_row p) → ws ≡ widths p → (x : ℕ) → word ws x ≤ 32
narrow-words p ws k d x = rw d (all-narrow (widths p) (all-widths p k.at) x)
