-- The fields' widths are a part of the block. Assumes nothing.
use Prim.Native.Nat.{ℕ, ◌-◌, ◌<◌}
use native.Mathlib.Nat.{one-mul}
use native.Mathlib.Omega.{arith}
use mathlib.Core.Path.{◌≡◌}
use mathlib.Core.List.{List}
use lib.ListN.{length, get_or, take, drop, length-take, length-drop}
use lib.Seq.{ext_get_or, get_or-take, get_or-drop}
use Rattle.model.specs.Blocks.{F, field_place, width, widths}
use Rattle.model.proofs.Lists.{length-each, each_at}
use Rattle.blocks.specs.Whole.{Whole}

widths_there : (p : List ℕ) → Whole p → take (F p) (drop 5 p) ≡ widths p
widths_there p h = ext_get_or 0 (take (F p) (drop 5 p)) (widths p) long at
  where
    long : length (take (F p) (drop 5 p)) ≡ length (widths p)
    long = simp (length-take, length-drop, length-each) (omega arith)

    at : (i : ℕ) → i < length (take (F p) (drop 5 p)) → get_or (take (F p) (drop 5 p)) i 0 ≡ get_or (widths p) i 0
    at i k =
        let l : i < F p = omega (arith, rw (long, length-each (width p) (F p)) at k) in
        rw (get_or-take, get_or-drop, each_at (width p) (F p) i 0 l, one-mul)

pub widths-part : (p : List ℕ) (end : ℕ) → Whole p → end ≡ field_place p (F p) → take (end - 5) (drop 5 p) ≡ widths p
widths-part p end h e = let fields : end - 5 ≡ F p = omega arith in rw (fields, widths_there p h)
