-- A piece behind a piece, where what it is to be depends on the numbers of the first. Assumes nothing.
use Prim.Native.Nat.{ℕ, ◌+◌, ◌≤◌}
use native.Mathlib.Decide.{dec_le}
use native.Mathlib.Omega.{arith}
use mathlib.Core.Path.{◌≡◌}
use mathlib.Core.List.{List, ◌++◌}
use lib.ListN.{length, length-append, length-take, length-drop}
use Rattle.model.specs.Emit.{past, form_limit}
use Rattle.model.specs.declared.Node.{Node}
use Rattle.pieces.specs.Pieces.{Emitted, Start}
use Rattle.pieces.proofs.Pieces.{lent, back, behind}

-- the second piece is the one that is asked for where the first one fits: the numbers of what went beyond the limit say nothing
pub behind_fit : {x y y' : List Node} {at p s q : ℕ} {before mid ys : List ℕ} → Emitted x at before mid p → length mid ≡ length before
    → Start at p (length mid) s → Emitted y p (lent s mid) ys q → (past at x ≤ form_limit → y ≡ y') → Emitted (x ++ y') at before (back s mid ys) q
behind_fit {x} {y} {y'} {at} e same st f fit =
    elim (dec_le (past at x) form_limit) [
      | yes k ↦ rw (← fit k) (behind e same st f)
      | no k ↦
          let far = e.large (omega arith) in
          let both : length (x ++ y') ≡ length x + length y' = length-append x y' in
          record {
            onward = omega (arith, e.onward, f.onward);
            exact = λ h. absurd (omega arith);
            large = λ h. omega (arith, f.onward);
            wrote = λ h. absurd (omega arith);
          }
    ]

-- the area is as long as it was
pub length_back : (s : ℕ) (area ys : List ℕ) → s ≤ length area → length ys ≡ length (lent s area) → length (back s area ys) ≡ length area
length_back s area ys h e = simp (length-append, length-take, length-drop) (omega (arith, simp (length-take, length-drop) at e))
