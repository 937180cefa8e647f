-- Every call has one answer: what an answer says tells which it is, and every number that a call gives is one that an answer says. With
-- that, demand 1. Assumes nothing.
use Prim.Native.Nat.{ℕ, zero, suc}
use mathlib.Core.Path.{◌≡◌, refl, sym, ap, ◌∙◌}
use mathlib.Core.Bool.{Bool, true, false}
use mathlib.Core.List.{List, [], ◌∷◌, ◌++◌}
use mathlib.Core.Logic.{inl, inr}
use lib.ListN.{get_or, length}
use denote.Ref.{Bor}
use Rattle.bits.specs.Width.{fits}
use Rattle.std.specs.Prelude.{if◌then◌else◌, Option, Some, None, Result, Ok, Err}
use Rattle.model.specs.Lists.{word, first_not}
use Rattle.model.specs.Trees.{Stmt, truth_of, bits_in}
use Rattle.model.specs.Tables.{part_words}
use Rattle.model.specs.Runs.{State, Outcome, and_then, with_next, take_side, take_value, run, run_table, no_apply, pipeline_run}
use Rattle.model.specs.Condition.{evaluated, last_truth}
use Rattle.model.specs.Answers as said
use Rattle.model.specs.Answers.{Answer, done, refused, after, told, refusal_of, answered, yes_or_no}
use Rattle.model.specs.Refusals.{Row, given, judge, check_rows, condition_rows, evaluate_rows, late_row}
use Rattle.model.specs.Calls as calls
use Rattle.model.specs.Calls.{Begins, end_values, words_into, lookup, ended, fails_whole, load, block_lengths, check, confirm, passify, condition, evaluate, extract, load_rows, start_rows, run_rows, passify_rows, extract_rows}
use Rattle.model.specs.Demands.{One, SamePart, OneAnswer, Demand1}
use Rattle.model.specs.declared.Refusal.{Refusal}
use Rattle.model.specs.declared.Part.{Part}
use Rattle.model.specs.declared.Blocks.{Blocks}
use Rattle.model.specs.declared.Ran.{Ran}
use Rattle.model.specs.declared.Form.{Form}
use Rattle.model.proofs.CallRefusals.{exact_calls}

-- the refusal with a number and a place
abbrev pub refusal_at : ℕ → ℕ → Refusal
refusal_at n q =
    get_or
    (Refusal.Counts ∷ Refusal.File q ∷ Refusal.Counts ∷ Refusal.Width q ∷ Refusal.Node q ∷ Refusal.Action q ∷ Refusal.Table q ∷ Refusal.Root
    ∷ Refusal.Use q ∷ Refusal.Misplaced q ∷ Refusal.Rule q ∷ Refusal.Packet q ∷ Refusal.Room q ∷ Refusal.Variables q ∷ Refusal.Short q
    ∷ Refusal.Entry q ∷ Refusal.True ∷ Refusal.Condition q ∷ Refusal.Form q ∷ [])
    n Refusal.Counts

-- there is a refusal with that number and place
abbrev pub Named : ℕ → ℕ → Type 0
Named n q = refusal_of (refusal_at n q) ≡ refused n q

-- the answer of which some values, or a number and a place, are said
abbrev pub back : {A : Type 0} → (List ℕ → A) → (Refusal → A) → Answer (List ℕ) → A
back made refusal (done xs) = made xs
back made refusal (refused n q) = refusal (refusal_at n q)

pub refusal_back : {A : Type 0} (made : List ℕ → A) (refusal : Refusal → A) (r : Refusal) → back made refusal (refusal_of r) ≡ refusal r
refusal_back made refusal (Refusal.File at) = refl
refusal_back made refusal Refusal.Counts = refl
refusal_back made refusal (Refusal.Width i) = refl
refusal_back made refusal (Refusal.Node i) = refl
refusal_back made refusal (Refusal.Action i) = refl
refusal_back made refusal (Refusal.Table i) = refl
refusal_back made refusal Refusal.Root = refl
refusal_back made refusal (Refusal.Use i) = refl
refusal_back made refusal (Refusal.Misplaced i) = refl
refusal_back made refusal (Refusal.Rule i) = refl
refusal_back made refusal (Refusal.Packet at) = refl
refusal_back made refusal (Refusal.Room need) = refl
refusal_back made refusal (Refusal.Variables at) = refl
refusal_back made refusal (Refusal.Short used) = refl
refusal_back made refusal (Refusal.Entry at) = refl
refusal_back made refusal Refusal.True = refl
refusal_back made refusal (Refusal.Condition at) = refl
refusal_back made refusal (Refusal.Form at) = refl

-- THE LAW. Two answers that say the same are one.
pub one_answer : {A B : Type 0} (said : A → B) (back : B → A) → ((x : A) → back (said x) ≡ x) → (x y : A) (b : B) → said x ≡ b → said y ≡ b → x ≡ y
one_answer said back inverse x y b h k = sym (inverse x) ∙ ap back (h ∙ sym k) ∙ inverse y

-- a success has the property, or the refusal is of the table
abbrev pub Fine : {A : Type 0} → (A → Type 0) → Answer A → Type 0
Fine P (done x) = P x
Fine P (refused n q) = Named n q

after_fine : {A B : Type 0} (Q : A → Type 0) (P : B → Type 0) (m : Answer A) (f : A → Answer B) → Fine Q m → ((x : A) → Q x → Fine P (f x))
    → Fine P (after m f)
after_fine Q P (done x) f h k = k x h
after_fine Q P (refused n q) f h k = h

-- every row gives a number of the table
infixr 5 ◌and◌
data Known : List Row → Type 0 where
  all : Known []
  ◌and◌ : {row : Row} {rows : List Row} → ((i : ℕ) → Named row.number (row.place i)) → Known rows → Known (row ∷ rows)

known_append : {rows more : List Row} → Known rows → Known more → Known (rows ++ more)
known_append all k = k
known_append (h and rest) k = h and known_append rest k

abbrev Any : {A : Type 0} → A → Type 0
Any x = Unit {0}

judge_fine : (rows : List Row) → Known rows → Fine Any (judge rows)
unfolding judge
judge_fine [] all = tt
judge_fine (row ∷ rows) (h and rest) = go (first_not row.well row.count) (judge_fine rows rest)
  where
    go : (o : Option ℕ) → Fine Any (judge rows) → Fine Any (given row o (judge rows))
    go (Some i) k = h i
    go None k = k

-- Run

then_fine : (o : Outcome) (f : State → Outcome) → Fine Any (ended o) → ((s : State) → Fine Any (ended (f s))) → Fine Any (ended (and_then o f))
then_fine (Outcome.passed s) f h k = k s
then_fine (Outcome.blocked n s) f h k = tt
then_fine (Outcome.failed n s) f h k = tt
then_fine (Outcome.refused n q) f h k = h

next_fine : (packet left : List ℕ) (used : ℕ) (f : ℕ → State → Outcome) → ((entry : ℕ) (s : State) → Fine Any (ended (f entry s)))
    → Fine Any (ended (with_next packet left used f))
next_fine packet [] used f h = refl
next_fine packet (entry ∷ left) used f h = h entry _

side_fine : (place : ℕ) (a b : State → Outcome) → ((s : State) → Fine Any (ended (a s))) → ((s : State) → Fine Any (ended (b s)))
    → (entry : ℕ) (s : State) → Fine Any (ended (take_side place entry a b s))
side_fine place a b h k zero s = h s
side_fine place a b h k (suc zero) s = k s
side_fine place a b h k (suc (suc entry)) s = refl

if_fine : (b : Bool) (x y : Outcome) → Fine Any (ended x) → Fine Any (ended y) → Fine Any (ended (if b then x else y))
if_fine true x y h k = h
if_fine false x y h k = k

module _ (ws : List ℕ) (on_apply : ℕ → State → Outcome) (applied : (t : ℕ) (s : State) → Fine Any (ended (on_apply t s))) where
  run_fine : (x : Stmt) (s : State) → Fine Any (ended (run ws on_apply x s))
  unfolding run
  run_fine Stmt.skip s = tt
  run_fine (Stmt.assign f v) s = tt
  run_fine (Stmt.havoc f) s =
      next_fine s.packet s.left s.used (take_value s.used (get_or ws f 0) f) (λ entry z. if_fine (fits (get_or ws f 0) entry) _ _ tt refl)
  run_fine (Stmt.assume n t) s = if_fine (truth_of (bits_in ws s.packet) t) _ _ tt tt
  run_fine (Stmt.assert n t) s = if_fine (truth_of (bits_in ws s.packet) t) _ _ tt tt
  run_fine (Stmt.sequence a b) s = then_fine (run ws on_apply a s) (run ws on_apply b) (run_fine a s) (run_fine b)
  run_fine (Stmt.choice a b) s =
      next_fine s.packet s.left s.used _ (side_fine s.used (run ws on_apply a) (run ws on_apply b) (run_fine a) (run_fine b))
  run_fine (Stmt.apply t) s = applied t s

pipeline_fine : (p r packet choices : List ℕ) → Fine Any (ended (pipeline_run p r packet choices))
unfolding pipeline_run
pipeline_fine p r packet choices = run_fine _ (run_table p r) (λ t s. run_fine _ no_apply (λ _ _. tt) _ s) _ _

-- What one kind of answers says: `made` gives the success that says some values.
pub record Speaks {A : Type 0} (said : A → Answer (List ℕ)) (made : List ℕ → A) (refusal : Refusal → A) : Type 0 where
  pub inverse : (x : A) → back made refusal (said x) ≡ x
  pub refuses : (r : Refusal) → said (refusal r) ≡ refusal_of r

-- two answers that say the same are one
pub one_said : {A : Type 0} {said : A → Answer (List ℕ)} {made : List ℕ → A} {refusal : Refusal → A} → Speaks said made refusal
    → (x y : A) (b : Answer (List ℕ)) → said x ≡ b → said y ≡ b → x ≡ y
one_said {A} {said} {made} {refusal} speaks = one_answer said (back made refusal) speaks.inverse

module _ {A B : Type 0} {said : A → Answer (List ℕ)} {made : List ℕ → A} {refusal : Refusal → A} (speaks : Speaks said made refusal) where
  -- the answer of a call that gives m, told by its values
  abbrev pub the_answer : (B → List ℕ) → Answer B → A
  the_answer values m = back made refusal (told values m)

  -- the values are those of a success
  abbrev pub Made : (B → List ℕ) → B → Type 0
  Made values x = said (made (values x)) ≡ done (values x)

  pub says : (values : B → List ℕ) (m : Answer B) → Fine (Made values) m → said (the_answer values m) ≡ told values m
  says values (done x) h = h
  says values (refused n q) h = speaks.refuses (refusal_at n q) ∙ h

  pub call : (values : B → List ℕ) (m : Answer B) → Fine (Made values) m → One (λ (x : A). said x ≡ told values m)
  call values m h =
      let e = says values m h in
      (the_answer values m, e, λ y k. one_said speaks y (the_answer values m) (told values m) k e)

-- the answer that says a call's values, where they say which success it is
module _ {A : Type 0} (values : A → List ℕ) (made : List ℕ → A) (inverse : (x : A) → made (values x) ≡ x) where
  pub speaks : Speaks (answered values) (λ xs. Ok (made xs)) Err
  speaks = record { inverse = back_to; refuses = λ r. refl }
    where
      back_to : (x : Result A Refusal) → back (λ xs. Ok (made xs)) Err (answered values x) ≡ x
      back_to (Ok x) = ap Ok (inverse x)
      back_to (Err r) = refusal_back (λ xs. Ok (made xs)) Err r

-- what some values say: Load's success, Check's, Passify's, a count
abbrev two_lengths : List ℕ → Blocks
two_lengths xs = record { pipeline = word xs 0; rules = word xs 1 }

abbrev accepted : List ℕ → Unit {0}
accepted xs = tt

abbrev two_sizes : List ℕ → Form
two_sizes xs = record { nodes = word xs 0; variables = word xs 1 }

abbrev first : List ℕ → ℕ
first xs = word xs 0

speaks_loaded : Speaks said.loaded (λ xs. Ok (two_lengths xs)) Err
speaks_loaded = speaks said.lengths two_lengths (λ b. refl)

speaks_checked : Speaks said.checked (λ xs. Ok (accepted xs)) Err
speaks_checked = speaks said.nothing accepted (λ _. refl)

-- Run's success, and one that says yes or no
abbrev end_of : List ℕ → Ran
end_of xs = get_or (Ran.Passed (word xs 2) ∷ Ran.Blocked (word xs 1) (word xs 2) ∷ Ran.Failed (word xs 1) (word xs 2) ∷ []) (word xs 0) (Ran.Passed 0)

end-of_ending : (e : Ran) → end_of (said.ending e) ≡ e
end-of_ending (Ran.Passed used) = refl
end-of_ending (Ran.Blocked node used) = refl
end-of_ending (Ran.Failed node used) = refl

abbrev yes : List ℕ → Bool
yes xs = get_or (false ∷ true ∷ []) (word xs 0) false

yes-or_no : (b : Bool) → yes (yes_or_no b) ≡ b
yes-or_no true = refl
yes-or_no false = refl

pub speaks_ran : Speaks said.ran (λ xs. Ok (end_of xs)) Err
speaks_ran = speaks said.ending end_of end-of_ending

pub speaks_confirmed : Speaks said.confirmed (λ xs. Ok (yes xs)) Err
speaks_confirmed = speaks yes_or_no yes yes-or_no

speaks_passified : Speaks said.passified (λ xs. Ok (two_sizes xs)) Err
speaks_passified = speaks said.sizes two_sizes (λ f. refl)

-- Condition's and Extract's, and Evaluate's
speaks_count : Speaks said.built (λ xs. Ok (first xs)) Err
speaks_count = speaks said.count first (λ n. refl)

known_check : (p r : List ℕ) → Known (check_rows p r)
unfolding check_rows
known_check p r = ((λ i. refl) and (λ i. refl) and (λ i. refl) and (λ i. refl) and (λ i. refl) and (λ i. refl) and (λ i. refl) and (λ i. refl) and (λ i. refl) and all)

known_start : (p r packet : List ℕ) → Known (start_rows p r packet)
known_start p r packet = known_append (known_check p r) ((λ i. refl) and (λ i. refl) and all)

rows_fine : {A : Type 0} (P : A → Type 0) (rows : List Row) (m : Answer A) → Known rows → Fine P m → Fine P (after (judge rows) (λ _. m))
rows_fine P rows m h k = after_fine Any P (judge rows) (λ _. m) (judge_fine rows h) (λ _ _. k)

load_one : (file : List ℕ) (p r : ℕ) → One (λ x. said.loaded x ≡ told block_lengths (load file p r))
unfolding load
load_one file p r = call speaks_loaded _ (load file p r) (rows_fine _ (load_rows file p r) _ ((λ i. refl) and (λ i. refl) and (λ i. refl) and all) refl)

check-one : (p r : List ℕ) → One (λ x. said.checked x ≡ told (λ _. []) (check p r))
unfolding check
check-one p r = call speaks_checked _ (check p r) (go (judge (check_rows p r)) (judge_fine (check_rows p r) (known_check p r)))
  where
    go : (j : Answer (Unit {0})) → Fine Any j → Fine (Made speaks_checked (λ _. [])) j
    go (done _) h = refl
    go (refused n q) h = h

run-one : (p r packet choices : List ℕ) (lent : ℕ) → One (λ x. said.ran x ≡ told end_values (calls.run p r packet choices lent))
unfolding calls.run
run-one p r packet choices lent =
    call speaks_ran end_values (calls.run p r packet choices lent)
    (rows_fine _ (run_rows p r packet lent) _ (known_append (known_start p r packet) ((λ i. refl) and all))
    (go (pipeline_run p r packet choices) (pipeline_fine p r packet choices)))
  where
    go : (o : Outcome) → Fine Any (ended o) → Fine (Made speaks_ran end_values) (ended o)
    go (Outcome.passed s) h = refl
    go (Outcome.blocked n s) h = refl
    go (Outcome.failed n s) h = refl
    go (Outcome.refused n q) h = h

yes_or_no_lem : (b : Bool) → Made speaks_confirmed yes_or_no b
yes_or_no_lem true = refl
yes_or_no_lem false = refl

confirm-one : (p r packet choices : List ℕ) → One (λ x. said.confirmed x ≡ told yes_or_no (confirm p r packet choices))
unfolding confirm
confirm-one p r packet choices =
    call speaks_confirmed yes_or_no (confirm p r packet choices)
    (rows_fine _ (start_rows p r packet) _ (known_start p r packet)
    (after_fine Any _ (ended (pipeline_run p r packet choices)) _ (pipeline_fine p r packet choices)
    (λ e _. yes_or_no_lem (fails_whole choices e))))

passify-one : (p r : List ℕ) (n w : ℕ) → One (λ x. said.passified x ≡ told (λ e. length e.nodes ∷ length e.widths ∷ []) (passify p r n w))
unfolding passify
passify-one p r n w =
    call speaks_passified _ (passify p r n w)
    (rows_fine _ (passify_rows p r n w) _ (known_append (known_check p r) ((λ i. refl) and (λ i. refl) and (λ i. refl) and all)) refl)

condition-one : (nodes ws : List ℕ) (lent : ℕ) → One (λ x. said.built x ≡ told (λ es. length es ∷ []) (condition nodes ws lent))
unfolding condition
condition-one nodes ws lent =
    call speaks_count _ (condition nodes ws lent)
    (rows_fine _ (condition_rows nodes ws lent) _ ((λ i. refl) and (λ i. refl) and (λ i. refl) and (λ i. refl) and all) refl)

evaluate-one : (entries ws valuation : List ℕ) (lent : ℕ)
    → One (λ x. said.evaluated x ≡ told (λ xs. yes_or_no (last_truth xs)) (evaluate entries ws valuation lent))
unfolding evaluate
evaluate-one entries ws valuation lent =
    call speaks_confirmed _ (evaluate entries ws valuation lent)
    (rows_fine _ (evaluate_rows entries ws valuation lent ++ (late_row entries ws ∷ [])) _
    ((λ i. refl) and (λ i. refl) and (λ i. refl) and (λ i. refl) and (λ i. refl) and (λ i. refl) and all)
    (yes_or_no_lem (last_truth (evaluated entries (bits_in ws valuation)))))

extract-one : (p r valuation : List ℕ) (n c : ℕ) → One (λ x. said.extracted x ≡ told (λ w. length w.choices ∷ []) (extract p r valuation n c))
unfolding extract check_rows
extract-one p r valuation n c =
    call speaks_count _ (extract p r valuation n c)
    (rows_fine _ (extract_rows p r valuation n c) _
    (known_append (known_check p r) ((λ i. refl) and (λ i. refl) and (λ i. refl) and (λ i. refl) and (λ i. refl) and (λ i. refl) and all)) refl)

-- Lookup: some part begins where it is to, and two that do are the same
part_found : (p r : Bor (List ℕ)) (ws : List ℕ) (x : Part) → (y : Bor (List ℕ)) × (y.now ≡ ws) × Begins x p r y
part_found p r ws (Part.Rules at) = (record { ref_ptr = words_into r at; now = ws }, refl, refl)
part_found p r ws (Part.Pipeline at) = (record { ref_ptr = words_into p at; now = ws }, refl, refl)
part_found p r ws Part.Empty = (record { ref_ptr = (0, 0); now = ws }, refl, tt)

same-part : (p r : Bor (List ℕ)) (x : Part) (y z : Bor (List ℕ)) → y.now ≡ part_words p.now r.now x → z.now ≡ part_words p.now r.now x
    → Begins x p r y → Begins x p r z → SamePart y z
same-part p r (Part.Rules at) y z h k b c = (h ∙ sym k, inr (b ∙ sym c))
same-part p r (Part.Pipeline at) y z h k b c = (h ∙ sym k, inr (b ∙ sym c))
same-part p r Part.Empty y z h k b c = (h ∙ sym k, inl h)

pub one : OneAnswer
one =
    record {
      load = λ file pipeline rules.
          let c = load_one file (length pipeline) (length rules) in (
            (c.0, _, _),
            record { answers = c.1; pipeline_area = refl; rules_area = refl },
            λ y h i. (c.2 y.0 h.answers i, h.pipeline_area i, h.rules_area i),
          );
      check = λ p r. let c = check-one p r in (c.0, record { answers = c.1 }, λ y h. c.2 y h.answers);
      lookup = λ p r packet t.
          let x = lookup p.now r.now packet t in
          let part = part_found p r (part_words p.now r.now x) x in
          ((part.0, record { words = part.1; begins = part.2 }), λ y z h k. same-part p r x y z h.words k.words h.begins k.begins);
      run = λ p r packet choices end.
          let c = run-one p r packet choices (length end) in
          ((c.0, _), record { answers = c.1; end_area = refl }, λ y h i. (c.2 y.0 h.answers i, h.end_area i));
      confirm = λ p r packet choices.
          let c = confirm-one p r packet choices in (c.0, record { answers = c.1 }, λ y h. c.2 y h.answers);
      passify = λ p r nodes widths.
          let c = passify-one p r (length nodes) (length widths) in (
            (c.0, _, _),
            record { answers = c.1; nodes_area = refl; widths_area = refl },
            λ y h i. (c.2 y.0 h.answers i, h.nodes_area i, h.widths_area i),
          );
      condition = λ nodes widths entries.
          let c = condition-one nodes widths (length entries) in
          ((c.0, _), record { answers = c.1; entries_area = refl }, λ y h i. (c.2 y.0 h.answers i, h.entries_area i));
      evaluate = λ entries widths valuation scratch.
          let c = evaluate-one entries widths valuation (length scratch) in
          ((c.0, _), record { answers = c.1; scratch_area = refl }, λ y h i. (c.2 y.0 h.answers i, h.scratch_area i));
      extract = λ p r valuation packet choices.
          let c = extract-one p r valuation (length packet) (length choices) in (
            (c.0, _, _),
            record { answers = c.1; packet_area = refl; choices_area = refl },
            λ y h i. (c.2 y.0 h.answers i, h.packet_area i, h.choices_area i),
          );
    }

pub demand1 : Demand1
demand1 = exact_calls one
