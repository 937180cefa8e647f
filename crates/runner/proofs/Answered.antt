-- What Run, Confirm and Lookup answer once they have started, and where they don't start. Assumes nothing.
use Prim.Native.Nat.{ℕ, ◌<◌, ◌≤◌}
use mathlib.Core.Path.{◌≡◌, refl, sym, ap, ◌∙◌}
use mathlib.Core.Bool.{Bool, false}
use mathlib.Core.List.{List, [], ◌∷◌}
use borrow.Author.Tests.{lt-leb}
use lib.Dec.{leb, ltb}
use lib.ListN.{length}
use Rattle.std.specs.Prelude.{if◌then◌else◌, Ok, Err}
use Rattle.model.specs.Blocks.{F, T}
use Rattle.model.specs.Tables.{hit, part_of}
use Rattle.model.specs.Runs.{Outcome, start_packet, pipeline_run}
use Rattle.model.specs.Answers.{done, after, told, yes_or_no, refusal_of}
use Rattle.model.specs.Refusals.{room, judge}
use Rattle.model.specs.Calls as calls
use Rattle.model.specs.Calls.{written, start_rows, end_packet, ended, fails_whole, lookup, words_into, LooksUp, Tells, Runs, confirm, Confirms}
use Rattle.model.specs.Demands.{Accepted}
use Rattle.model.specs.declared.Part.{Part}
use Rattle.model.specs.declared.Ran.{Ran}
use Rattle.model.specs.declared.Refusal.{Refusal}
use Rattle.model.proofs.First.{once_stop, judge-append}
use Rattle.model.proofs.Refusals.{clear_judge}
use Rattle.model.proofs.CallsGive.{start_clear, run_gives, confirm_gives}
use Rattle.model.proofs.Passing.{refusal_refuses, told_refuses, passed_on, tells_on, told-after}
use Rattle.blocks.specs.declared.Program.{Program}
use Rattle.states.specs.declared.End.{End}
use Rattle.states.specs.States.{state_in, outcome_by, EndsAs, RefusedAs}
use Rattle.runner.specs.Started.{Started}

-- a refusal of the start is passed on unchanged
module _ (p r packet : List ℕ) (x : Refusal) (e : refusal_of x ≡ told (λ _. []) (judge (start_rows p r packet))) where
  pub run_refuses : (choices end : List ℕ) → Runs p r packet choices end (Err x) end
  unfolding calls.run
  run_refuses choices end =
      let refuses = told_refuses x (judge (start_rows p r packet)) e in
      let more = room (λ _. F p) (length end) ∷ [] in
      record { answers = tells_on x (start_rows p r packet) refuses more _ _; end_area = rw (passed_on x (start_rows p r packet) refuses more (λ _. ended (pipeline_run p r packet choices))) }

  pub confirm_refuses : (choices : List ℕ) → Confirms p r packet choices (Err x)
  unfolding confirm
  confirm_refuses choices = record { answers = told-after x (judge (start_rows p r packet)) e _ _ }

  pub lookup_refuses : (t : ℕ) → Part.Empty ≡ lookup p r packet t
  unfolding lookup
  lookup_refuses t = rw (told_refuses x (judge (start_rows p r packet)) e).gives

module _ {p r packet : List ℕ} {x : Program} (s : Started p r packet x) where
  accepted : Accepted p r
  accepted = rw (s.pipeline, s.rules) at x.accepted

  abbrev outcome : List ℕ → Outcome
  outcome = pipeline_run x.pipeline x.rules packet

  same_run : (choices : List ℕ) → pipeline_run p r packet choices ≡ outcome choices
  same_run choices = rw (s.pipeline, s.rules)

  -- ---- Run

  pub room_refuses : (choices end : List ℕ) (count : ℕ) → count ≡ F x.pipeline → length end < count → Runs p r packet choices end (Err (Refusal.Room count)) end
  unfolding calls.run
  room_refuses choices end count e h =
      let same : count ≡ F p = rw (← s.pipeline) e in
      let none = clear_judge (start_rows p r packet) (start_clear p r accepted packet s.within) in
      let test = lt-leb (F p) (length end) (rw same at h) in
      let stop = once_stop 12 [] (λ _. leb (F p) (length end)) (λ _. F p) false (sym test) refl in
      let is = judge-append (start_rows p r packet) (room (λ _. F p) (length end) ∷ []) in
      record { answers = rw (is, none, stop, same); end_area = rw (is, none, stop) }

  module _ (choices end : List ℕ) (room : F x.pipeline ≤ length end) where
    gives : calls.run p r packet choices (length end) ≡ ended (outcome choices)
    gives = run_gives p r accepted packet choices s.within (length end) (rw (← s.pipeline) room) ∙ ap ended (same_run choices)

    pub run_refused : (why : Refusal) → RefusedAs why (outcome choices) → Runs p r packet choices end (Err why) end
    run_refused why k = record { answers = rw gives k; end_area = rw gives (stays (outcome choices) k) }
      where
        stays : (o : Outcome) → RefusedAs why o → end ≡ written (ended o) end_packet end
        stays (Outcome.passed z) k = absurd (refusal_refuses why _ k)
        stays (Outcome.blocked n z) k = absurd (refusal_refuses why _ k)
        stays (Outcome.failed n z) k = absurd (refusal_refuses why _ k)
        stays (Outcome.refused n q) k = refl

    pub run_finishes : (e : End) → EndsAs x.pipeline choices e (outcome choices) → (a : Ran) (end' : List ℕ)
        → ((choices : List ℕ) → Tells (ended (outcome_by e.how (state_in x.pipeline choices e.state))) end (Ok a) end') → Runs p r packet choices end (Ok a) end'
    run_finishes e k a end' f =
        let is = gives ∙ ap ended (sym k.outcome) in
        let done = f choices in
        record { answers = rw is done.answers; end_area = rw is done.end_area }

  -- ---- Confirm

  module _ (choices : List ℕ) where
    confirms : confirm p r packet choices ≡ after (ended (outcome choices)) (λ y. done (fails_whole choices y))
    confirms = confirm_gives p r accepted packet choices s.within ∙ ap (λ o. after (ended o) (λ y. done (fails_whole choices y))) (same_run choices)

    pub confirm_refused : (why : Refusal) → RefusedAs why (outcome choices) → Confirms p r packet choices (Err why)
    confirm_refused why k = record { answers = rw confirms (stays (outcome choices) k) }
      where
        stays : (o : Outcome) → RefusedAs why o → refusal_of why ≡ told yes_or_no (after (ended o) (λ y. done (fails_whole choices y)))
        stays (Outcome.passed z) k = absurd (refusal_refuses why _ k)
        stays (Outcome.blocked n z) k = absurd (refusal_refuses why _ k)
        stays (Outcome.failed n z) k = absurd (refusal_refuses why _ k)
        stays (Outcome.refused n q) k = k

    pub confirm_tells : (e : End) → EndsAs x.pipeline choices e (outcome choices) → (a : Bool) → ((q cs : List ℕ) → length cs ≡ length choices
        → done a ≡ after (ended (outcome_by e.how (state_in q cs e.state))) (λ y. done (fails_whole cs y))) → Confirms p r packet choices (Ok a)
    confirm_tells e k a f =
        let is = confirms ∙ ap (λ o. after (ended o) (λ y. done (fails_whole choices y))) (sym k.outcome) in
        record { answers = rw (is, ← f x.pipeline choices refl) }

  -- ---- Lookup

  pub lookup_found : (t : ℕ) (y : Part)
      → y ≡ (if ltb t (T x.pipeline) then part_of x.pipeline x.rules t (hit x.pipeline x.rules (start_packet x.pipeline packet) t) else Part.Empty) → y ≡ lookup p r packet t
  unfolding lookup
  lookup_found t y h = rw (clear_judge (start_rows p r packet) (start_clear p r accepted packet s.within)) (rw (s.pipeline, s.rules) at h)
