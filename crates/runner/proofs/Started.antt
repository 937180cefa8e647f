-- What Lookup, Run and Confirm begin with: 2 to 11, and what an accepted start says. Assumes nothing.
use Prim.Native.Nat.{ℕ, ◌^◌, ◌≤◌}
use native.Mathlib.Omega.{arith}
use mathlib.Core.Path.{◌≡◌, refl, sym}
use mathlib.Core.Bool.{true, false}
use mathlib.Core.List.{List, [], ◌∷◌}
use borrow.Author.Tests.{eq-eqb, ne_eqb, eqb-true, ltb-true}
use lib.Dec.{eqb}
use lib.ListN.{length}
use Rattle.bits.specs.Width.{fits}
use Rattle.std.specs.Prelude.{Option, Some, None, Err}
use Rattle.model.specs.Lists.{word, first_not}
use Rattle.model.specs.Blocks.{widths}
use Rattle.model.specs.Answers.{done, refused, told, refusal_of}
use Rattle.model.specs.Refusals.{Row, each_of, judge, check_rows, packet_rows}
use Rattle.model.specs.Calls.{check, start_rows, Checks}
use Rattle.model.specs.Demands.{Clear, Accepted}
use Rattle.model.specs.declared.Refusal.{Refusal}
use Rattle.model.proofs.First.{once_stop, once-on, judge-append}
use Rattle.model.proofs.Refusals.{clear}
use Rattle.model.proofs.Within.{within_of}
use Rattle.model.proofs.SortWidths.{all-narrow}
use Rattle.model.proofs.Accepted.{accepted-good}
use Rattle.model.proofs.Passing.{told-done, check_refuses}
use Rattle.blocks.proofs.Accepted.{whole, few-fields}
use Rattle.blocks.specs.declared.Program.{Program}
use Rattle.runner.specs.Started.{Started}

-- ---- 11

pub narrow : (p r ws : List ℕ) → Accepted p r → ws ≡ widths p → (i : ℕ) → word ws i ≤ 32
narrow p r ws accepted e = rw e (all-narrow (widths p) (accepted-good p r accepted).widths_good)

module _ (p packet ws : List ℕ) (e : ws ≡ widths p) where
  abbrev well_wide : Row
  well_wide = each_of 11 (length (widths p)) (λ i. fits (word (widths p) i) (word packet i))

  pub length_refuses : (length packet ≡ length ws → ⊥) → refused 11 (length packet) ≡ told (λ _. []) (judge (packet_rows p packet))
  length_refuses d =
      let test = ne_eqb (length packet) (length (widths p)) (rw e at d) in
      rw (once_stop 11 (well_wide ∷ []) (λ _. eqb (length packet) (length (widths p))) (λ _. length packet) false (sym test) refl)

  module _ (l : length packet ≡ length ws) (h : Option ℕ) (d : h ≡ first_not (λ i. fits (word ws i) (word packet i)) (length ws)) where
    length_passes : judge (packet_rows p packet) ≡ judge (well_wide ∷ [])
    length_passes =
        let test = eq-eqb (length packet) (length (widths p)) (rw e at l) in
        once-on 11 (well_wide ∷ []) (λ _. eqb (length packet) (length (widths p))) (λ _. length packet) true (sym test) refl

    pub value_refuses : (i : ℕ) → h ≡ Some i → refused 11 i ≡ told (λ _. []) (judge (packet_rows p packet))
    unfolding judge
    value_refuses i k = rw (length_passes, ← rw e at d, k)

    pub packet_passes : h ≡ None → done [] ≡ told (λ _. []) (judge (packet_rows p packet))
    unfolding judge
    packet_passes k = rw (length_passes, ← rw e at d, k)

-- ---- 2 to 11

module _ (p r packet : List ℕ) where
  pub start_refuses : (x : Refusal) → Checks p r (Err x) → refusal_of x ≡ told (λ _. []) (judge (start_rows p r packet))
  start_refuses x h =
      let f = check_refuses p r x h in
      rw (judge-append (check_rows p r) (packet_rows p packet), f.gives) f.names

  -- where the blocks are accepted, the packet decides
  pub packet_refuses : Accepted p r → (x : Refusal) → refusal_of x ≡ told (λ _. []) (judge (packet_rows p packet)) → refusal_of x ≡ told (λ _. []) (judge (start_rows p r packet))
  unfolding check
  packet_refuses accepted x h = rw (judge-append (check_rows p r) (packet_rows p packet), accepted) h

  pub started : (x : Program) → x.pipeline ≡ p → x.rules ≡ r → done [] ≡ told (λ _. []) (judge (packet_rows x.pipeline packet)) → Started p r packet x
  unfolding Clear
  started x e d h =
      let c = clear (packet_rows p packet) (told-done (judge (packet_rows p packet)) (rw e at h)) in
      record {
        pipeline = e;
        rules = d;
        within = within_of (widths p) packet (eqb-true (length packet) (length (widths p)) (c.0 0 (omega arith))) λ i l. ltb-true (word packet i) (2 ^ word (widths p) i) (c.1.0 i l);
      }

-- what Check accepts is within its limits
pub ruleset limits = (whole, few-fields)
