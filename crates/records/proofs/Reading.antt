-- How a run of records is read: they stand one after the other as long as their mark does, each with all its bytes. Assumes nothing.
use Prim.Native.Nat.{ℕ, ◌+◌, ◌*◌, ◌/◌, ◌≤◌, ◌<◌}
use native.Mathlib.Omega.{arith}
use mathlib.Core.Path.{◌≡◌, refl}
use mathlib.Core.Bool.{true, false}
use mathlib.Core.List.{List}
use lib.Dec.{eqb}
use lib.ListN.{length, take, drop}
use Rattle.std.specs.List.{starts_with}
use Rattle.std.proofs.lemmas.Grind.{common_steps}
use Rattle.model.specs.Files.{mark, marked, bytes}
use Rattle.model.specs.declared.Group.{Group}
use Rattle.records.specs.Runs.{stands, Reads}

module _ (file : List ℕ) (g : Group) (at step : ℕ) (m : List ℕ) (e : m ≡ mark g) (b : step ≡ bytes g) where
  -- the record of its number, where it stands whole
  pub at_chunk : (i : ℕ) → at + step * i + step ≤ length file → starts_with eqb (take step (drop (i * step) (drop at file))) m ≡ marked file (at + step * i) g
  at_chunk i h = grind (arith, common_steps)

  pub as_read : (count : ℕ) → at ≤ length file → count * step ≤ length (drop at file)
      → ((i : ℕ) → i < count → starts_with eqb (take step (drop (i * step) (drop at file))) m ≡ true)
      → (count < length (drop at file) / step → starts_with eqb (take step (drop (count * step) (drop at file))) m ≡ false)
      → Reads file g at (record { at = at; count = count; end = at + step * count })
  unfolding stands
  as_read count inside room all last =
      record {
        begins = refl;
        ends = rw b;
        inside = grind (arith, common_steps);
        all = λ i h. let whole : at + step * i + step ≤ length file = grind (arith, common_steps) in grind (arith, at_chunk i whole, all i h);
        last = grind (arith, common_steps, at_chunk count);
      }
