-- Words that are written one after the other at the start of an area. Assumes nothing.
use Prim.Native.Nat.{ℕ, suc, ◌+◌, ◌≤◌, ◌<◌}
use native.Mathlib.Numerals.{add-one}
use native.Mathlib.Omega.{arith}
use mathlib.Core.Path.{◌≡◌, refl}
use mathlib.Core.List.{List, ◌++◌, append_assoc}
use lib.ListN.{length, get_or, set, take, drop, length-set}
use lib.Seq.{length-take-le, take-length, take-suc, drop-cons, set_at}
use Rattle.model.specs.Calls.{over}

-- the first i words stand at the start of the area, which was `before` and is `now`
pub record Put (ws before : List ℕ) (i : ℕ) (now : List ℕ) : Type 0 where
  pub words : now ≡ take i ws ++ drop i before
  pub within : i ≤ length ws
  pub room : length ws ≤ length before
  pub same : length now ≡ length before

module _ (ws before : List ℕ) where
  pub begins : length ws ≤ length before → Put ws before 0 before
  begins h = record { words = refl; within = omega arith; room = h; same = refl }

  module _ (i : ℕ) (now : List ℕ) (s : Put ws before i now) where
    pub goes_on : i < length ws → Put ws before (i + 1) (set now i (get_or ws i 0))
    goes_on h =
        let there : i < length before = omega (arith, s.room) in
        let long : length (take i ws) ≡ i = length-take-le i ws s.within in
        record {
          words = rw (s.words, add-one, drop-cons before i 0 there, take-suc ws i 0 h, set_at (take i ws) (get_or before i 0) (drop (suc i) before) (get_or ws i 0) i long) (simp append_assoc);
          within = omega arith;
          room = s.room;
          same = simp length-set s.same;
        }

    pub ends : length ws ≤ i → now ≡ over ws before
    ends h = let all : i ≡ length ws = omega (arith, s.within) in rw (s.words, all, take-length)
