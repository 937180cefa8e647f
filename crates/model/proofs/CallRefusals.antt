-- Every call's refusals are exact, and a refused call changes no lent area but the evaluator's scratch: demand 1 but that there is one
-- answer. Each from the call's promise. Assumes nothing.
use Prim.Native.Nat.{ℕ, ◌≤◌, ◌<◌}
use native.Mathlib.Omega.{arith}
use mathlib.Core.Path.{◌≡◌, refl, sym, ◌∙◌}
use mathlib.Core.Logic.Iff
use mathlib.Core.Logic.{◌↔◌, ◌⊎◌, inl, inr, ⊎_elim, ⊎_map}
use mathlib.Core.List.{List, [], ◌∷◌, ◌++◌}
use mathlib.Core.Bool.{Bool, true, false}
use lib.ListN.{length}
use lib.Dec.{ltb}
use borrow.Author.Tests.{le-ltb, ltb-true, ltb-false}
use Rattle.std.specs.Prelude.{if◌then◌else◌, Option, Some, None}
use Rattle.model.specs.Blocks.{T, call_place, default_place}
use Rattle.model.specs.Tables.{matches, hit, part_of, part_words}
use Rattle.model.specs.Runs.{Outcome, pipeline_run}
use Rattle.model.specs.Answers as said
use Rattle.model.specs.Answers.{Answer, done, refused, after, told}
use Rattle.model.specs.Refusals.{Row, judge, counts_well, check_rows, evaluate_rows, late_row}
use Rattle.model.specs.Calls.{written, unless_refused, lookup, end_values, ended, fails_whole, load, check, run, confirm, passify, condition, evaluate, extract, start_rows, run_rows, Ended}
use Rattle.model.specs.Demands.{Exact, ExactOnRun, Kept, Clear, First, Applies, OneAnswer, Demand1}
use Rattle.model.specs.declared.Part.{Part}
use Rattle.model.proofs.Refusals.{judge-exact, clear, clear_judge}
use Rattle.model.proofs.Hits.{hit-below, rule_there, default_there, part_there}

pub never : {A : Type 0} {x : A} {n q : ℕ} → done x ≡ refused n q → ⊥
never e = let z : ◌≡◌ {A = ℕ} 0 1 = cc in omega arith

-- an answer told by its values refuses as it does
pub told-refused : {A : Type 0} (values : A → List ℕ) (m : Answer A) (n q : ℕ) → (told values m ≡ refused n q) ↔ (m ≡ refused n q)
told-refused values (done x) n q = (λ e. absurd (never e), λ e. absurd (never e))
told-refused values (refused number place) n q = (λ e. cc, λ e. cc)

-- what follows the rows refuses where they do, and where it does itself once no row applies
pub after-refused : {A : Type 0} (rows : List Row) (m : Answer A) (n q : ℕ)
    → (after (judge rows) (λ _. m) ≡ refused n q) ↔ (First rows n q ⊎ (Clear rows × (m ≡ refused n q)))
after-refused {A} rows m n q = go (judge rows) refl
  where
    go : (j : Answer (Unit {0})) → judge rows ≡ j → (after j (λ _. m) ≡ refused n q) ↔ (First rows n q ⊎ (Clear rows × (m ≡ refused n q)))
    go (done _) e = (λ h. inr (clear rows e, h), ⊎_elim (λ f. absurd (never (sym e ∙ (judge-exact rows n q).1 f))) (λ h. h.1))
    go (refused k i) e = (
      λ h. inl ((judge-exact rows n q).0 (e ∙ cc)),
      ⊎_elim (λ f. cc ((judge-exact rows n q).1 f)) (λ h. absurd (never (sym (clear_judge rows h.0) ∙ e))),
    )

-- THE LAW. The answer of a call that does something once no row applies.
pub exact-after : {A : Type 0} (values : A → List ℕ) (rows : List Row) (m : Answer A) (a : Answer (List ℕ))
    → a ≡ told values (after (judge rows) (λ _. m))
    → (n q : ℕ) → (a ≡ refused n q) ↔ (First rows n q ⊎ (Clear rows × (m ≡ refused n q)))
exact-after values rows m a e n q =
    rw e (Iff.trans (told-refused values (after (judge rows) (λ _. m)) n q) (after-refused rows m n q))

-- it does not refuse by itself
pub exact : {A : Type 0} (values : A → List ℕ) (rows : List Row) (x : A) (a : Answer (List ℕ))
    → a ≡ told values (after (judge rows) (λ _. done x)) → Exact rows a
exact values rows x a e n q =
    let h = exact-after values rows (done x) a e n q in
    (λ k. ⊎_elim (λ f. f) (λ z. absurd (never z.1)) (h.0 k), λ f. h.1 (inl f))

-- a refusal leaves an area as it was
pub written-refused : {A : Type 0} {n q : ℕ} (m : Answer A) (ws : A → List ℕ) (area : List ℕ) → m ≡ refused n q → written m ws area ≡ area
written-refused (done x) ws area e = absurd (never e)
written-refused (refused number place) ws area e = refl

pub kept : {A : Type 0} (values ws : A → List ℕ) (m : Answer A) (a : Answer (List ℕ)) (area area' : List ℕ) → a ≡ told values m
    → area' ≡ written m ws area → Kept a area area'
kept values ws m a area area' e w n q h = w ∙ written-refused m ws area ((told-refused values m n q).0 (sym e ∙ h))

-- nothing follows
alone : {A : Type 0} (m : Answer A) → after m (λ x. done x) ≡ m
alone (done x) = refl
alone (refused number place) = refl

-- what a run's end is made into refuses as its outcome does
ended-refused : {A : Type 0} (f : Ended → A) (o : Outcome) (n q : ℕ) → (after (ended o) (λ x. done (f x)) ≡ refused n q) ↔ (o ≡ Outcome.refused n q)
ended-refused f (Outcome.passed s) n q = (λ e. absurd (never e), λ e. absurd (let z : ◌≡◌ {A = ℕ} 0 1 = cc in omega arith))
ended-refused f (Outcome.blocked k s) n q = (λ e. absurd (never e), λ e. absurd (let z : ◌≡◌ {A = ℕ} 0 1 = cc in omega arith))
ended-refused f (Outcome.failed k s) n q = (λ e. absurd (never e), λ e. absurd (let z : ◌≡◌ {A = ℕ} 0 1 = cc in omega arith))
ended-refused f (Outcome.refused number place) n q = (λ e. cc, λ e. cc)

-- a run that the rows let begin refuses as its outcome does
exact-run : {A : Type 0} (values : A → List ℕ) (rows : List Row) (f : Ended → A) (o : Outcome) (a : Answer (List ℕ))
    → a ≡ told values (after (judge rows) (λ _. after (ended o) (λ x. done (f x)))) → ExactOnRun rows o a
exact-run values rows f o a e n q =
    let h = exact-after values rows (after (ended o) (λ x. done (f x))) a e n q in
    let g = ended-refused f o n q in
    (λ x. ⊎_map (λ y. y) (λ y. (y.0, g.0 y.1)) (h.0 x), λ x. h.1 (⊎_map (λ y. y) (λ y. (y.0, g.1 y.1)) x))

-- Evaluate

-- the first that applies stays so behind rows of which none does
first-behind : (rows more : List Row) (n q : ℕ) → Clear rows → First more n q → First (rows ++ more) n q
unfolding Clear First
first-behind [] more n q c f = f
first-behind (row ∷ rows) more n q c f = inr (c.0, first-behind rows more n q c.1 f)

-- once the scratch is lent, a late refusal is Evaluate's answer
scratch_late : (entries ws valuation : List ℕ) (lent n q : ℕ) → Clear (evaluate_rows entries ws valuation lent) → Applies (late_row entries ws) n q
    → evaluate entries ws valuation lent ≡ refused n q
unfolding evaluate First
scratch_late entries ws valuation lent n q c h =
    let rows = evaluate_rows entries ws valuation lent in
    let f : First (late_row entries ws ∷ []) n q = inl h in
    let e = (judge-exact (rows ++ (late_row entries ws ∷ [])) n q).1 (first-behind rows (late_row entries ws ∷ []) n q c f) in
    rw e

-- Lookup

unless_empty : (j : Answer (Unit {0})) → unless_refused j Part.Empty ≡ Part.Empty
unless_empty (done _) = refl
unless_empty (refused number place) = refl

-- what hits has its words
hit-words : (p r packet : List ℕ) (t : ℕ) → counts_well p r ≡ true → t < T p → part_words p r (part_of p r t (hit p r packet t)) ≡ [] → ⊥
hit-words p r packet t c h e = go (hit p r packet t) refl e
  where
    go : (x : Option ℕ) → hit p r packet t ≡ x → part_words p r (part_of p r t x) ≡ [] → ⊥
    go (Some i) k = part_there r (call_place r i) (rule_there r i (hit-below (matches p r packet) r t i k))
    go None k = part_there p (default_place p t) (default_there p r t c h)

-- Lookup's part is empty exactly when check or packet is refused, or there is no such table
lookup-exact : (p r packet : List ℕ) (t : ℕ)
    → (part_words p r (lookup p r packet t) ≡ []) ↔ (((n : ℕ) × (q : ℕ) × First (start_rows p r packet) n q) ⊎ (T p ≤ t))
unfolding lookup Clear check_rows
lookup-exact p r packet t = (
  λ e. go (judge (start_rows p r packet)) (ltb t (T p)) refl refl e,
  ⊎_elim (λ f. rw ((judge-exact (start_rows p r packet) f.0 f.1).1 f.2)) (λ f. rw (le-ltb t (T p) f, unless_empty)),
)
  where
    go : (j : Answer (Unit {0})) (b : Bool) → judge (start_rows p r packet) ≡ j → ltb t (T p) ≡ b
        → part_words p r (unless_refused j (if b then part_of p r t (hit p r packet t) else Part.Empty)) ≡ []
        → ((n : ℕ) × (q : ℕ) × First (start_rows p r packet) n q) ⊎ (T p ≤ t)
    go (refused n q) b e h k = inl (n, q, (judge-exact (start_rows p r packet) n q).0 e)
    go (done _) false e h k = inr (ltb-false t (T p) h)
    go (done _) true e h k = absurd (hit-words p r packet t ((clear (start_rows p r packet) e).0 0 (omega arith)) (ltb-true t (T p) h) k)

-- demand 1, once there is one answer
pub exact_calls : OneAnswer → Demand1
unfolding load check run confirm passify condition evaluate extract
exact_calls one =
    record {
      one = one;
      load = λ file pipeline rules a pipeline' rules' h.
          let m = load file (length pipeline) (length rules) in
          (exact _ _ _ _ h.answers, kept _ _ m _ _ _ h.answers h.pipeline_area, kept _ _ m _ _ _ h.answers h.rules_area);
      check = λ p r a h. exact (λ _. []) (check_rows p r) (tt {0}) (said.checked a) (rw alone h.answers);
      lookup = λ p r packet t part h. rw h.words (lookup-exact p.now r.now packet t);
      run = λ p r packet choices end a end' h.
          let m = run p r packet choices (length end) in
          let rows = run_rows p r packet (length end) in
          (exact-run end_values rows (λ x. x) (pipeline_run p r packet choices) (said.ran a) (rw alone h.answers), kept _ _ m _ _ _ h.answers h.end_area);
      confirm = λ p r packet choices a h. exact-run _ _ (fails_whole choices) (pipeline_run p r packet choices) _ h.answers;
      passify = λ p r nodes widths a nodes' widths' h.
          let m = passify p r (length nodes) (length widths) in
          (exact _ _ _ _ h.answers, kept _ _ m _ _ _ h.answers h.nodes_area, kept _ _ m _ _ _ h.answers h.widths_area);
      condition = λ nodes widths entries a entries' h.
          (exact _ _ _ _ h.answers, kept _ _ (condition nodes widths (length entries)) _ _ _ h.answers h.entries_area);
      evaluate = λ entries widths valuation scratch a scratch' h.
          let rows = evaluate_rows entries widths valuation (length scratch) in (
            exact _ _ _ _ h.answers,
            λ n q f. h.scratch_area ∙ written-refused (judge rows) _ scratch ((judge-exact rows n q).1 f),
            λ n q c f. h.scratch_area ∙ rw (clear_judge rows c, scratch_late entries widths valuation (length scratch) n q c f),
          );
      extract = λ p r valuation packet choices a packet' choices' h.
          let m = extract p r valuation (length packet) (length choices) in
          (exact _ _ _ _ h.answers, kept _ _ m _ _ _ h.answers h.packet_area, kept _ _ m _ _ _ h.answers h.choices_area);
    }
