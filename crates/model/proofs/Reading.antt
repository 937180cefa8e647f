-- What a test or a value over the current variables says is what it says of the packet that they hold. Assumes nothing.
use Prim.Native.Nat.{ℕ, ◌<◌}
use native.Mathlib.Nat.{lt_of_lt_of_le}
use mathlib.Core.Path.{◌≡◌, sym, ap₂, ◌∙◌}
use mathlib.Core.List.{List, map}
use lib.ListN.{get_or, length}
use Rattle.model.specs.Trees.{Val, Test, of_width, bits_of, truth_of, bits_in}
use Rattle.model.specs.Good.{GoodValue, GoodTest, width_of_value}
use Rattle.model.specs.Passive.{Vars, renamed, renamed_test}
use Rattle.model.proofs.Renaming.{get_or_map, renamed_bits, renamed-truth, renamed-width, renamed-good, renamed-good-test}
use Rattle.model.proofs.Variables.{var, Front, Ready}
use Rattle.model.proofs.Equations.{var_bits}

-- `ws` are the fields' widths, `widths` those of all variables
module _ (ws widths : List ℕ) (e : Vars) (k : Ready ws e) (front : Front e.widths widths) where
  there : (i : ℕ) → i < length ws → var e i < length widths
  there i h = lt_of_lt_of_le (k.low i h) front.shorter

  wide : (i : ℕ) → i < length ws → get_or widths (var e i) 0 ≡ get_or ws i 0
  wide i h = front.same (var e i) (k.low i h) ∙ k.wide i h

  module _ (v : ℕ → ℕ) where
    reads : (i : ℕ) → i < length ws → var_bits widths v (var e i) ≡ bits_in ws (map v e.current) i
    reads i h = ap₂ of_width (wide i h) (sym (get_or_map v e.current i (rw k.size h)))

    pub reads_bits : (x : Val) → GoodValue ws x → bits_of (var_bits widths v) (renamed e.current x) ≡ bits_of (bits_in ws (map v e.current)) x
    reads_bits x g = renamed_bits ws e.current (var_bits widths v) (bits_in ws (map v e.current)) reads x g

    pub reads-truth : (t : Test) → GoodTest ws t
        → truth_of (var_bits widths v) (renamed_test e.current t) ≡ truth_of (bits_in ws (map v e.current)) t
    reads-truth t g = renamed-truth ws e.current (var_bits widths v) (bits_in ws (map v e.current)) reads t g

  pub reads-good : (x : Val) → GoodValue ws x → GoodValue widths (renamed e.current x)
  reads-good x g = renamed-good ws e.current widths there wide x g

  pub reads-width : (x : Val) → GoodValue ws x → width_of_value widths (renamed e.current x) ≡ width_of_value ws x
  reads-width x g = renamed-width ws e.current widths there wide x g

  pub reads-good-test : (t : Test) → GoodTest ws t → GoodTest widths (renamed_test e.current t)
  reads-good-test t g = renamed-good-test ws e.current widths there wide t g
