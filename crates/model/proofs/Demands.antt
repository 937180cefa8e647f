-- Demand 2: a run ends as the guarded commands say, and Confirm says yes to what fails with no entry left over. Demand 3: the condition is
-- exact, in both directions, from the words of the pipeline to the words of the condition. Assumes nothing.
use Prim.Native.Nat.{ℕ, ◌+◌, ◌^◌, ◌≤◌, ◌<◌}
use native.Mathlib.Omega.{arith}
use mathlib.Core.Path.{◌≡◌, refl, sym, ap, ◌∙◌}
use mathlib.Core.Bool.{Bool, true, false, not}
use mathlib.Core.List.{List, [], ◌∷◌}
use lib.Dec.{eqb}
use lib.ListN.{length}
use borrow.Author.Tests.{eqb-true, not-false}
use Rattle.std.specs.Prelude.{Result, Ok}
use Rattle.model.specs.Trees.{bits_in}
use Rattle.model.specs.Good.{Within}
use Rattle.model.specs.Runs.{State, Outcome, packet_widths, pipeline_run}
use Rattle.model.specs.Passive.{passive, new_where_differs}
use Rattle.model.specs.Emit.{passive_form, form_limit}
use Rattle.model.specs.Condition.{condition_of}
use Rattle.model.specs.Walk.{goes_wrong, packet_of, choices_of}
use Rattle.model.specs.Answers as said
use Rattle.model.specs.Answers.{done, after, told, yes_or_no}
use Rattle.model.specs.Calls.{written, end_values, end_packet, ended, fails_whole, condition_truth}
use Rattle.model.specs.Demands.{Ends, Falsifies, FailsWith, Accepted, Small, form_words, condition_words, Falsifiable, CanFail, Demand2, Demand3, NotConstant, variable_widths}
use Rattle.model.specs.Examples.{both_false}
use Rattle.model.specs.declared.Ran.{Ran}
use Rattle.model.specs.declared.Refusal.{Refusal}
use Rattle.model.proofs.Compute.{compute}
use Rattle.model.proofs.Every.{All}
use Rattle.model.proofs.GoodForms.{AllWidths, GoodPassive}
use Rattle.model.proofs.Within.{within-length}
use Rattle.model.proofs.Accepted.{WellFormed, accepted-good}
use Rattle.model.proofs.CallRefusals.{never}
use Rattle.model.proofs.Answers.{one_said, speaks_ran, speaks_confirmed}
use Rattle.model.proofs.Joins.{document_joins}
use Rattle.model.proofs.Theorem.{form-sized, form-good, variables-counted, packet-within, taken_fails, found_wrong}
use Rattle.model.proofs.NodeList.{length-words}
use Rattle.model.proofs.Evaluation.{condition-truth}
use Rattle.model.proofs.Accepts.{condition-built, condition-valued}
use Rattle.model.proofs.WordsFit.{form-fits, condition-fits}
use Rattle.model.proofs.CallsGive.{run_gives, confirm_gives, confirm-yes, passify_gives, extract_gives}

-- what says how the run ends is that ending, and the end area is as that ending leaves it
ends : (o : Outcome) (a : Result Ran Refusal) (end end' : List ℕ) → said.ran a ≡ told end_values (ended o)
    → end' ≡ written (ended o) end_packet end → Ends o a end end'
ends (Outcome.passed s) a end end' e w = (one_said speaks_ran a (Ok (Ran.Passed s.used)) _ e refl, w)
ends (Outcome.blocked n s) a end end' e w = (one_said speaks_ran a (Ok (Ran.Blocked n s.used)) _ e refl, w)
ends (Outcome.failed n s) a end end' e w = (one_said speaks_ran a (Ok (Ran.Failed n s.used)) _ e refl, w)
ends (Outcome.refused number place) a end end' e w = (e, w)

-- where Confirm's answer is yes, the run has failed and no entry is left over
yes_fails : (o : Outcome) (choices : List ℕ) → done (yes_or_no true) ≡ told yes_or_no (after (ended o) (λ e. done (fails_whole choices e)))
    → (node : ℕ) × (s : State) × (o ≡ Outcome.failed node s) × (s.used ≡ length choices)
yes_fails (Outcome.passed s) choices e = let z : ◌≡◌ {A = ℕ} 0 1 = cc in absurd (omega arith)
yes_fails (Outcome.blocked n s) choices e = let z : ◌≡◌ {A = ℕ} 0 1 = cc in absurd (omega arith)
yes_fails (Outcome.failed n s) choices e = (n, s, refl, go (eqb s.used (length choices)) refl e)
  where
    go : (b : Bool) → eqb s.used (length choices) ≡ b → done (yes_or_no true) ≡ done (yes_or_no b) → s.used ≡ length choices
    go true h e = eqb-true s.used (length choices) h
    go false h e = let z : ◌≡◌ {A = ℕ} 0 1 = cc in absurd (omega arith)
yes_fails (Outcome.refused number place) choices e = absurd (never e)

pub demand2 : Demand2
demand2 = record {
  run = λ p r packet choices end a end' accepted within h runs.
      let e = run_gives p r accepted packet choices within (length end) h in
      ends (pipeline_run p r packet choices) a end end' (rw e at runs.answers) (rw e at runs.end_area);
  confirm = λ p r packet choices a accepted within confirms. (
    λ yes. yes_fails (pipeline_run p r packet choices) choices (rw (yes, confirm_gives p r accepted packet choices within) at confirms.answers),
    λ f. one_said speaks_confirmed a (Ok true) _ (rw (confirm-yes p r accepted packet choices within f) at confirms.answers) refl,
  );
}

-- the condition's truth is that the form doesn't go wrong
truth_is : (p r valuation : List ℕ) → condition_truth (passive_form p r) valuation ≡ not (goes_wrong (bits_in (variable_widths p r) valuation) (passive p r).body)
unfolding passive_form
truth_is p r valuation = condition-truth (passive p r).body (passive p r).after.widths valuation

module _ (p r : List ℕ) (accepted : Accepted p r) where
  abbrev all : List ℕ
  all = (passive p r).after.widths

  well : WellFormed p r
  well = accepted-good p r accepted

  good : GoodPassive all (passive p r).body
  good = form-good p r well new_where_differs document_joins

  sized : AllWidths all
  sized = form-sized p r well new_where_differs document_joins

  module _ (valuation : List ℕ) (f : Falsifies p r valuation) where
    packet_in_lem : Within (packet_widths p) (packet_of p valuation)
    unfolding passive_form
    packet_in_lem = packet-within p r well new_where_differs document_joins valuation f.0

    fails : FailsWith p r (packet_of p valuation) (choices_of p r valuation) (length (choices_of p r valuation))
    unfolding passive_form
    fails = taken_fails p r well new_where_differs document_joins valuation f.0 (not-false _ (sym (truth_is p r valuation) ∙ f.1))

  falsified : CanFail p r → Falsifiable p r
  unfolding passive_form
  falsified x =
      let f = found_wrong p r well new_where_differs document_joins x.0 x.3 x.1 x.2 x.4 in
      (f.0, (f.1, truth_is p r f.0 ∙ ap not f.3))

pub demand3 : Demand3
unfolding passive_form
demand3 = record {
  translated = λ p r accepted small node_room width_room h k.
      passify_gives p r accepted small node_room width_room (rw (length-words (passive_form p r).nodes) at h) k;
  built = λ p r accepted small lent h.
      condition-built (passive p r).body (all p r accepted) (good p r accepted) (sized p r accepted) small lent (rw (length-words (condition_of (form_words p r))) at h);
  valued = λ p r valuation accepted small within lent.
      condition-valued (passive p r).body (all p r accepted) (good p r accepted) (sized p r accepted) small lent valuation within;
  exact = λ p r accepted small. (
    λ x. (_, _, _, packet_in_lem p r accepted x.0 x.1, fails p r accepted x.0 x.1),
    falsified p r accepted,
  );
  taken = λ p r valuation accepted small f. (packet_in_lem p r accepted valuation f, fails p r accepted valuation f);
  extracted = λ p r valuation accepted small f packet_room choice_room h k.
      let size = within-length (packet_widths p) (packet_of p valuation) (packet_in_lem p r accepted valuation f) in
      extract_gives p r accepted small valuation f packet_room choice_room (rw size at h) k;
  confirmed = λ p r valuation accepted small f.
      confirm-yes p r accepted (packet_of p valuation) (choices_of p r valuation) (packet_in_lem p r accepted valuation f) (fails p r accepted valuation f);
}

-- the words that are written fit 32 bits
module _ (p r : List ℕ) (accepted : Accepted p r) (small : Small p r) where
  -- 32 fields, and at most one new variable a node
  pub few-variables : length (variable_widths p r) ≤ 32 + form_limit
  unfolding passive_form
  few-variables = let w = well p r accepted in omega (arith, variables-counted p r w new_where_differs document_joins, w.counts.most_fields)

  pub form-words_fit : All (λ w. w < 2 ^ 32) (form_words p r)
  unfolding passive_form
  form-words_fit = form-fits (passive p r).body (all p r accepted) (good p r accepted) (sized p r accepted) small (omega (arith, few-variables))

  pub condition-words_fit : All (λ w. w < 2 ^ 32) (condition_words p r)
  unfolding passive_form
  condition-words_fit = condition-fits (passive p r).body (all p r accepted) (good p r accepted) (sized p r accepted) small (omega (arith, few-variables))

-- examples 7 and 6
pub not_constant : NotConstant
unfolding compute
not_constant = record {
  somewhere_false = (both_false 36 35, [], refl, omega arith, (0 ∷ [], ((omega arith, tt), refl)));
  everywhere_true = (both_false 35 36, [], refl, omega arith, λ valuation. refl);
}
