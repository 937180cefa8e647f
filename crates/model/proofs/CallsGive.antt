-- What the calls give for an accepted pipeline: Run and Confirm its run's end, Passify its form, Extract a counterexample. Assumes nothing.
use Prim.Native.Nat.{ℕ, ◌*◌, ◌≤◌}
use mathlib.Core.Path.{◌≡◌, ◌∙◌}
use mathlib.Core.Bool.{true, not}
use mathlib.Core.List.{List, [], ◌∷◌, ◌++◌}
use lib.ListN.{length}
use borrow.Author.Tests.{eq-eqb, le-leb}
use Rattle.model.specs.Blocks.{F}
use Rattle.model.specs.Good.{Within}
use Rattle.model.specs.Runs.{packet_widths, pipeline_run}
use Rattle.model.specs.Emit.{passive_form, form_limit}
use Rattle.model.specs.Walk.{choices_of}
use Rattle.model.specs.Answers.{done, after}
use Rattle.model.specs.Refusals.{once, room, check_rows, packet_rows, valuation_rows}
use Rattle.model.specs.Calls.{check, start_rows, ended, run_rows, run, fails_whole, confirm, large_row, passify_rows, passify, condition_truth, extract_rows, extract, witness}
use Rattle.model.specs.Demands.{WellBefore, Clear, Accepted, Small, variable_widths, Falsifies, FailsWith}
use Rattle.model.proofs.Within.{within-well}
use Rattle.model.proofs.Refusals.{clear, clear_judge, clear_append}

module _ (p r : List ℕ) (accepted : Accepted p r) where
  check_clear : Clear (check_rows p r)
  unfolding check
  check_clear = clear (check_rows p r) accepted

  -- a run may start
  pub start_clear : (packet : List ℕ) → Within (packet_widths p) packet → Clear (start_rows p r packet)
  unfolding Clear
  start_clear packet within =
      let w = within-well (packet_widths p) packet within in
      clear_append (check_rows p r) (packet_rows p packet) check_clear (λ j _. w.0, (λ j _. w.1 j, tt))

  module _ (packet choices : List ℕ) (within : Within (packet_widths p) packet) where
    pub run_gives : (end_room : ℕ) → F p ≤ end_room → run p r packet choices end_room ≡ ended (pipeline_run p r packet choices)
    unfolding run Clear
    run_gives end_room h =
        let clear = clear_append (start_rows p r packet) (room (λ _. F p) end_room ∷ []) (start_clear packet within) (λ j _. le-leb (F p) end_room h, tt) in
        rw (clear_judge (run_rows p r packet end_room) clear)

    pub confirm_gives : confirm p r packet choices ≡ after (ended (pipeline_run p r packet choices)) (λ e. done (fails_whole choices e))
    unfolding confirm
    confirm_gives = rw (clear_judge (start_rows p r packet) (start_clear packet within))

    pub confirm-yes : FailsWith p r packet choices (length choices) → confirm p r packet choices ≡ done true
    confirm-yes f = confirm_gives ∙ rw f.2 (cc (eq-eqb f.1.used (length choices) f.3))

  module _ (small : Small p r) where
    large-well : WellBefore (large_row p r) 1
    large-well j _ = le-leb (length (passive_form p r).nodes) form_limit small

    -- Check's rows, and that the form isn't too large
    form_clear : Clear (check_rows p r ++ (large_row p r ∷ []))
    unfolding Clear
    form_clear = clear_append (check_rows p r) (large_row p r ∷ []) check_clear (large-well, tt)

    pub passify_gives : (node_room width_room : ℕ) → 4 * length (passive_form p r).nodes ≤ node_room → length (variable_widths p r) ≤ width_room
        → passify p r node_room width_room ≡ done (passive_form p r)
    unfolding passify Clear
    passify_gives node_room width_room h k =
        let rooms = room (λ _. 4 * length (passive_form p r).nodes) node_room ∷ room (λ _. length (variable_widths p r)) width_room ∷ [] in
        let clear = clear_append (check_rows p r) (large_row p r ∷ rooms) check_clear (large-well, (λ j _. le-leb _ node_room h, (λ j _. le-leb _ width_room k, tt))) in
        rw (clear_judge (passify_rows p r node_room width_room) clear)

    module _ (valuation : List ℕ) (f : Falsifies p r valuation) where
      extract_clear : (packet_room choice_room : ℕ) → length (packet_widths p) ≤ packet_room → length (choices_of p r valuation) ≤ choice_room
          → Clear (extract_rows p r valuation packet_room choice_room)
      unfolding Clear
      extract_clear packet_room choice_room h k =
          let w = within-well (variable_widths p r) valuation f.0 in
          let form = check_rows p r ++ (large_row p r ∷ []) in
          let values = valuation_rows (variable_widths p r) valuation in
          let truth = once 16 (λ _. not (condition_truth (passive_form p r) valuation)) (λ _. 0) ∷ [] in
          let rooms = room (λ _. length (packet_widths p)) packet_room ∷ room (λ _. length (choices_of p r valuation)) choice_room ∷ [] in
          let in-widths = clear_append form values form_clear (λ j _. w.0, (λ j _. w.1 j, tt)) in
          let is_false = clear_append (form ++ values) truth in-widths (λ j _. rw f.1, tt) in
          clear_append (form ++ values ++ truth) rooms is_false (λ j _. le-leb _ packet_room h, (λ j _. le-leb _ choice_room k, tt))

      pub extract_gives : (packet_room choice_room : ℕ) → length (packet_widths p) ≤ packet_room → length (choices_of p r valuation) ≤ choice_room
          → extract p r valuation packet_room choice_room ≡ done (witness p r valuation)
      unfolding extract
      extract_gives packet_room choice_room h k =
          rw (clear_judge (extract_rows p r valuation packet_room choice_room) (extract_clear packet_room choice_room h k))
