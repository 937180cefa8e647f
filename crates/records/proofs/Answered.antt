-- What Load answers and leaves: 1 for a fault, 12 for each area in turn, the two blocks of a whole file. Assumes nothing.
use Prim.Native.Nat.{ℕ, ◌*◌, ◌<◌, ◌≤◌}
use mathlib.Core.Path.{◌≡◌, refl, sym, ap, ◌∙◌}
use mathlib.Core.Bool.{true, false}
use mathlib.Core.List.{List, [], ◌∷◌}
use borrow.Author.Tests.{lt-leb, le-leb}
use lib.Dec.{leb}
use lib.ListN.{length}
use Rattle.std.specs.Prelude.{Result, Ok, Err}
use Rattle.model.specs.Blocks.{size}
use Rattle.model.specs.Files.{Record, whole, fault, held}
use Rattle.model.specs.Answers.{done, refused, after, refusal_of}
use Rattle.model.specs.Refusals.{Row, once, room, judge}
use Rattle.model.specs.Calls as calls
use Rattle.model.specs.Calls.{over, TwoBlocks, blocks_of, Loads}
use Rattle.model.specs.declared.Group.{Group}
use Rattle.model.specs.declared.Refusal.{Refusal}
use Rattle.model.proofs.First.{once_stop, once-on}
use Rattle.records.specs.declared.Runs.{Runs}
use Rattle.records.specs.Runs.{records_in, words, pipeline_in, pipeline_words, Whole, Ends, onto}
use Rattle.records.proofs.Copied.{over-onto, length-words}
use Rattle.records.proofs.Contents.{pipeline_is, pipeline_long, rules-are}

-- ---- what Load gives, by what the file holds and the room that is lent

module _ (p r : ℕ) where
  abbrev rooms : TwoBlocks → List Row
  rooms b = room (λ _. length b.pipeline) p ∷ room (λ _. length b.rules) r ∷ []

  gives_fault : (file : List ℕ) (at : ℕ) → held file ≡ fault at → calls.load file p r ≡ refused 1 at
  unfolding calls.load
  gives_fault file at e = rw e (ap (λ j. after j (λ _. done (blocks_of (fault at)))) (once_stop 1 (rooms (blocks_of (fault at))) (λ _. false) (λ _. at) false refl refl))

  module _ (b : TwoBlocks) where
    gives_rooms : (file : List ℕ) (xs : List Record) → held file ≡ whole xs → blocks_of (whole xs) ≡ b
        → calls.load file p r ≡ after (judge (rooms b)) (λ _. done b)
    unfolding calls.load
    gives_rooms file xs e d =
        rw e (ap (λ x. after (judge (once 1 (λ _. true) (λ _. 0) ∷ rooms x)) (λ _. done x)) d ∙ ap (λ j. after j (λ _. done b)) (once-on 1 (rooms b) (λ _. true) (λ _. 0) true refl refl))

    pipeline-short : p < length b.pipeline → judge (rooms b) ≡ refused 12 (length b.pipeline)
    pipeline-short h =
        let test = lt-leb (length b.pipeline) p h in
        once_stop 12 (room (λ _. length b.rules) r ∷ []) (λ _. leb (length b.pipeline) p) (λ _. length b.pipeline) false (sym test) refl

    module _ (h : length b.pipeline ≤ p) where
      pipeline_there : judge (rooms b) ≡ judge (room (λ _. length b.rules) r ∷ [])
      pipeline_there =
          let test = le-leb (length b.pipeline) p h in
          once-on 12 (room (λ _. length b.rules) r ∷ []) (λ _. leb (length b.pipeline) p) (λ _. length b.pipeline) true (sym test) refl

      rules-short : r < length b.rules → judge (rooms b) ≡ refused 12 (length b.rules)
      rules-short k =
          let test = lt-leb (length b.rules) r k in
          pipeline_there ∙ once_stop 12 [] (λ _. leb (length b.rules) r) (λ _. length b.rules) false (sym test) refl

      rooms_there : length b.rules ≤ r → judge (rooms b) ≡ done tt
      unfolding judge
      rooms_there k =
          let test = le-leb (length b.rules) r k in
          pipeline_there ∙ once-on 12 [] (λ _. leb (length b.rules) r) (λ _. length b.rules) true (sym test) refl

-- ---- what it answers and leaves

module _ (file pipeline rules : List ℕ) where
  refuses : (n q : ℕ) → calls.load file (length pipeline) (length rules) ≡ refused n q → (x : Refusal) → refusal_of x ≡ refused n q
      → Loads file pipeline rules (Err x) pipeline rules
  refuses n q e x d = record { answers = rw e d; pipeline_area = rw e; rules_area = rw e }

  pub loads_fault : (s : Runs) (why : Refusal) → Ends file s (Err why) → Loads file pipeline rules (Err why) pipeline rules
  loads_fault s why (at, is, h) = rw is (refuses 1 at (gives_fault (length pipeline) (length rules) file at h) (Refusal.File at) refl)

  pub whole-ends : (s : Runs) (x : Result (Unit {0}) Refusal) → Ends file s x → x ≡ Ok tt → Whole file s
  whole-ends s x h d = rw d at h

  module _ (s : Runs) (w : Whole file s) where
    abbrev blocks : TwoBlocks
    blocks = record { pipeline = pipeline_in file s; rules = words file Group.Rule s.rules }

    gives : calls.load file (length pipeline) (length rules) ≡ after (judge (rooms (length pipeline) (length rules) blocks)) (λ _. done blocks)
    unfolding Whole
    gives = gives_rooms (length pipeline) (length rules) blocks file (records_in file s) w.holds (rw (pipeline_is file s, rules-are file s))

    rules_long : length (words file Group.Rule s.rules) ≡ size Group.Rule * s.rules.count
    rules_long = length-words file Group.Rule s.rules

    room_refuses : (n q : ℕ) → judge (rooms (length pipeline) (length rules) blocks) ≡ refused 12 q → n ≡ q
        → Loads file pipeline rules (Err (Refusal.Room n)) pipeline rules
    room_refuses n q e d = refuses 12 q (gives ∙ ap (λ j. after j (λ _. done blocks)) e) (Refusal.Room n) (ap (refused 12) d)

    module _ (n : ℕ) (e : n ≡ pipeline_words s) where
      pub no-pipeline-room : length pipeline < n → Loads file pipeline rules (Err (Refusal.Room n)) pipeline rules
      no-pipeline-room h =
          let long = e ∙ sym (pipeline_long file s) in
          room_refuses n (length (pipeline_in file s)) (pipeline-short (length pipeline) (length rules) blocks (rw long at h)) long

      module _ (h : n ≤ length pipeline) (m : ℕ) (d : m ≡ size Group.Rule * s.rules.count) where
        fits : length (pipeline_in file s) ≤ length pipeline
        fits = rw (pipeline_long file s, ← e) h

        pub no-rule-room : length rules < m → Loads file pipeline rules (Err (Refusal.Room m)) pipeline rules
        no-rule-room k =
            let long = d ∙ sym rules_long in
            room_refuses m (length (words file Group.Rule s.rules)) (rules-short (length pipeline) (length rules) blocks fits (rw long at k)) long

        pub loads_blocks : m ≤ length rules → (pipeline' rules' : List ℕ) → pipeline' ≡ over (pipeline_in file s) pipeline
            → rules' ≡ onto 0 (words file Group.Rule s.rules) rules → Loads file pipeline rules (Ok (record { pipeline = n; rules = m })) pipeline' rules'
        loads_blocks k pipeline' rules' f g =
            let there = rooms_there (length pipeline) (length rules) blocks fits (rw (d ∙ sym rules_long) at k) in
            let is = gives ∙ ap (λ j. after j (λ _. done blocks)) there in
            record {
              answers = rw (is, e, d, pipeline_long file s, rules_long);
              pipeline_area = f ∙ rw is;
              rules_area = g ∙ sym (over-onto (words file Group.Rule s.rules) rules) ∙ rw is;
            }
