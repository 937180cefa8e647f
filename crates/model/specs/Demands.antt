-- Document 01, "What a call owes its caller", and the three demands on the product, each as one statement over the definitions that
-- the calls' contracts cite. The proofs stand elsewhere. p is a pipeline block and r a rule block, as words; a name with a prime is an
-- area after the call. Assumes nothing: these are definitions.
use Rattle.std.specs.Prelude.{ℕ, ◌*◌, ◌≤◌, ◌<◌, ◌≡◌, ◌↔◌, ◌⊎◌, true, false, List, [], ◌∷◌, ◌++◌, length, replicate, Result, Ok, Bool}
use Rattle.std.specs.Borrow.{Bor}
use Rattle.model.specs.Blocks.{F, T, words}
use Rattle.model.specs.Good.{Within}
use Rattle.model.specs.Runs.{State, Outcome, packet_widths, pipeline_run}
use Rattle.model.specs.Emit.{passive_form}
use Rattle.model.specs.Condition.{node_count, condition_of, last_truth}
use Rattle.model.specs.Walk.{packet_of, choices_of}
use Rattle.model.specs.Answers as said
use Rattle.model.specs.Answers.{Answer, done, refused, told, yes_or_no}
use Rattle.model.specs.Refusals.{Row, check_rows, condition_rows, evaluate_rows, late_row}
use Rattle.model.specs.Calls.{over, check, confirm, passify, condition, evaluate, extract, witness, condition_truth, load_rows, start_rows, run_rows, passify_rows, extract_rows, Loads, Checks, LooksUp, Runs, Confirms, Passifies, Builds, Evaluates, Extracts}
use Rattle.model.specs.declared.Blocks.{Blocks}
use Rattle.model.specs.declared.Ran.{Ran}
use Rattle.model.specs.declared.Form.{Form}
use Rattle.model.specs.declared.Refusal.{Refusal}

-- DEMAND 1. Every call answers every input, in one way only; its refusals are exact, and a refused call changes no lent area but the
-- evaluator's scratch.

-- something has the property, and nothing else has it
abbrev pub One : {A : Type 0} → (A → Type 0) → Type 0
One {A} P = (x : A) × P x × ((y : A) → P y → y ≡ x)

-- two parts have the same words and, where they have any, begin at the same place: an empty part may stand anywhere
abbrev pub SamePart : Bor (List ℕ) → Bor (List ℕ) → Type 0
SamePart x y = (x.now ≡ y.now) × ((x.now ≡ []) ⊎ (x.ref_ptr ≡ y.ref_ptr))

-- for every input there is an answer, with the areas after it, that meets the call's promise, and no other
pub record OneAnswer : Type 0 where
  pub load : (file pipeline rules : List ℕ) → One (λ (x : Result Blocks Refusal × List ℕ × List ℕ). Loads file pipeline rules x.0 x.1 x.2)
  pub check : (p r : List ℕ) → One (Checks p r)
  pub lookup : (p r : Bor (List ℕ)) (packet : List ℕ) (t : ℕ) → ((x : Bor (List ℕ)) × LooksUp p r packet t x)
      × ((x y : Bor (List ℕ)) → LooksUp p r packet t x → LooksUp p r packet t y → SamePart x y)
  pub run : (p r packet choices end : List ℕ) → One (λ (x : Result Ran Refusal × List ℕ). Runs p r packet choices end x.0 x.1)
  pub confirm : (p r packet choices : List ℕ) → One (Confirms p r packet choices)
  pub passify : (p r nodes widths : List ℕ) → One (λ (x : Result Form Refusal × List ℕ × List ℕ). Passifies p r nodes widths x.0 x.1 x.2)
  pub condition : (nodes widths entries : List ℕ) → One (λ (x : Result ℕ Refusal × List ℕ). Builds nodes widths entries x.0 x.1)
  pub evaluate : (entries widths valuation scratch : List ℕ) → One (λ (x : Result Bool Refusal × List ℕ). Evaluates entries widths valuation scratch x.0 x.1)
  pub extract : (p r valuation packet choices : List ℕ)
      → One (λ (x : Result ℕ Refusal × List ℕ × List ℕ). Extracts p r valuation packet choices x.0 x.1 x.2)

-- a row applies at none of its places before i
abbrev pub WellBefore : Row → ℕ → Type 0
WellBefore row i = (j : ℕ) → j < i → row.well j ≡ true

-- the row gives number n and place q, at the first of its places at which it applies
abbrev pub Applies : Row → ℕ → ℕ → Type 0
Applies row n q = (i : ℕ) × (i < row.count) × (row.well i ≡ false) × WellBefore row i × (n ≡ row.number) × (q ≡ row.place i)

-- no row applies
unfoldable pub Clear : List Row → Type 0
Clear [] = Unit {0}
Clear (row ∷ rows) = WellBefore row row.count × Clear rows

-- number n at place q is the first, in the rows' order, that applies
unfoldable pub First : List Row → ℕ → ℕ → Type 0
First [] n q = ⊥
First (row ∷ rows) n q = Applies row n q ⊎ (WellBefore row row.count × First rows n q)

-- an answer is a refusal exactly when a row applies, and then it is the first
abbrev pub Exact : List Row → Answer (List ℕ) → Type 0
Exact rows answer = (n q : ℕ) → (answer ≡ refused n q) ↔ First rows n q

-- the same for a call that may meet a refusal on its run, once no row applies
abbrev pub ExactOnRun : List Row → Outcome → Answer (List ℕ) → Type 0
ExactOnRun rows outcome answer = (n q : ℕ) → (answer ≡ refused n q) ↔ (First rows n q ⊎ (Clear rows × (outcome ≡ Outcome.refused n q)))

-- a refusal leaves the area as it was
abbrev pub Kept : Answer (List ℕ) → List ℕ → List ℕ → Type 0
Kept answer area area' = (n q : ℕ) → answer ≡ refused n q → area' ≡ area

pub record Demand1 : Type 0 where
  pub one : OneAnswer
  pub load : (file pipeline rules : List ℕ) (a : Result Blocks Refusal) (pipeline' rules' : List ℕ) → Loads file pipeline rules a pipeline' rules'
      → Exact (load_rows file (length pipeline) (length rules)) (said.loaded a)
      × Kept (said.loaded a) pipeline pipeline' × Kept (said.loaded a) rules rules'
  pub check : (p r : List ℕ) (a : Result (Unit {0}) Refusal) → Checks p r a → Exact (check_rows p r) (said.checked a)
  pub lookup : (p r : Bor (List ℕ)) (packet : List ℕ) (t : ℕ) (part : Bor (List ℕ)) → LooksUp p r packet t part
      → (part.now ≡ []) ↔ (((n : ℕ) × (q : ℕ) × First (start_rows p.now r.now packet) n q) ⊎ (T p.now ≤ t))
  pub run : (p r packet choices end : List ℕ) (a : Result Ran Refusal) (end' : List ℕ) → Runs p r packet choices end a end'
      → ExactOnRun (run_rows p r packet (length end)) (pipeline_run p r packet choices) (said.ran a) × Kept (said.ran a) end end'
  pub confirm : (p r packet choices : List ℕ) (a : Result Bool Refusal) → Confirms p r packet choices a
      → ExactOnRun (start_rows p r packet) (pipeline_run p r packet choices) (said.confirmed a)
  pub passify : (p r nodes widths : List ℕ) (a : Result Form Refusal) (nodes' widths' : List ℕ) → Passifies p r nodes widths a nodes' widths'
      → Exact (passify_rows p r (length nodes) (length widths)) (said.passified a)
      × Kept (said.passified a) nodes nodes' × Kept (said.passified a) widths widths'
  pub condition : (nodes widths entries : List ℕ) (a : Result ℕ Refusal) (entries' : List ℕ) → Builds nodes widths entries a entries'
      → Exact (condition_rows nodes widths (length entries)) (said.built a) × Kept (said.built a) entries entries'
  pub evaluate : (entries widths valuation scratch : List ℕ) (a : Result Bool Refusal) (scratch' : List ℕ) → Evaluates entries widths valuation scratch a scratch'
      → Exact (evaluate_rows entries widths valuation (length scratch) ++ (late_row entries widths ∷ [])) (said.evaluated a)
      × ((n q : ℕ) → First (evaluate_rows entries widths valuation (length scratch)) n q → scratch' ≡ scratch)
      × ((n q : ℕ) → Clear (evaluate_rows entries widths valuation (length scratch)) → Applies (late_row entries widths) n q
      → scratch' ≡ over (replicate (2 * node_count entries) 0) scratch)
  pub extract : (p r valuation packet choices : List ℕ) (a : Result ℕ Refusal) (packet' choices' : List ℕ) → Extracts p r valuation packet choices a packet' choices'
      → Exact (extract_rows p r valuation (length packet) (length choices)) (said.extracted a)
      × Kept (said.extracted a) packet packet' × Kept (said.extracted a) choices choices'

-- DEMAND 2. A run ends as the guarded commands say, and a counterexample is confirmed exactly when its run fails and uses its whole list.

abbrev pub Accepted : List ℕ → List ℕ → Type 0
Accepted p r = check p r ≡ done tt

-- what Run answers and leaves in the end area, by how the run ends
abbrev pub Ends : Outcome → Result Ran Refusal → List ℕ → List ℕ → Type 0
Ends (Outcome.passed s) a end end' = (a ≡ Ok (Ran.Passed s.used)) × (end' ≡ over s.packet end)
Ends (Outcome.blocked n s) a end end' = (a ≡ Ok (Ran.Blocked n s.used)) × (end' ≡ over s.packet end)
Ends (Outcome.failed n s) a end end' = (a ≡ Ok (Ran.Failed n s.used)) × (end' ≡ over s.packet end)
Ends (Outcome.refused number place) a end end' = (said.ran a ≡ refused number place) × (end' ≡ end)

-- the run fails, with so many entries used
abbrev pub FailsWith : List ℕ → List ℕ → List ℕ → List ℕ → ℕ → Type 0
FailsWith p r packet choices used = (node : ℕ) × (s : State) × (pipeline_run p r packet choices ≡ Outcome.failed node s) × (s.used ≡ used)

pub record Demand2 : Type 0 where
  pub run : (p r packet choices end : List ℕ) (a : Result Ran Refusal) (end' : List ℕ) → Accepted p r → Within (packet_widths p) packet → F p ≤ length end
      → Runs p r packet choices end a end' → Ends (pipeline_run p r packet choices) a end end'
  pub confirm : (p r packet choices : List ℕ) (a : Result Bool Refusal) → Accepted p r → Within (packet_widths p) packet
      → Confirms p r packet choices a → (a ≡ Ok true) ↔ FailsWith p r packet choices (length choices)

-- DEMAND 3. The condition is exact, in both directions. A blocked run is no failure: it does not end failed.

-- the form isn't too large: the demand's own number, whatever limit the calls keep
abbrev pub Small : List ℕ → List ℕ → Type 0
Small p r = length (passive_form p r).nodes ≤ 65536

-- the words that Condition is handed, and those that Evaluate is handed
abbrev pub form_words : List ℕ → List ℕ → List ℕ
form_words p r = words (passive_form p r).nodes

abbrev pub condition_words : List ℕ → List ℕ → List ℕ
condition_words p r = words (condition_of (form_words p r))

abbrev pub variable_widths : List ℕ → List ℕ → List ℕ
variable_widths p r = (passive_form p r).widths

-- a valuation within the variables' widths makes the condition false; some does
abbrev pub Falsifies : List ℕ → List ℕ → List ℕ → Type 0
Falsifies p r valuation = Within (variable_widths p r) valuation × (condition_truth (passive_form p r) valuation ≡ false)

abbrev pub Falsifiable : List ℕ → List ℕ → Type 0
Falsifiable p r = (valuation : List ℕ) × Falsifies p r valuation

-- some packet within its widths and some choice list make the run fail
abbrev pub CanFail : List ℕ → List ℕ → Type 0
CanFail p r = (packet : List ℕ) × (choices : List ℕ) × (used : ℕ) × Within (packet_widths p) packet × FailsWith p r packet choices used

pub record Demand3 : Type 0 where
  -- with room for it, Passify gives the form, Condition builds the condition, and Evaluate gives its truth
  pub translated : (p r : List ℕ) → Accepted p r → Small p r → (node_room width_room : ℕ)
      → length (form_words p r) ≤ node_room → length (variable_widths p r) ≤ width_room → passify p r node_room width_room ≡ done (passive_form p r)
  pub built : (p r : List ℕ) → Accepted p r → Small p r → (lent : ℕ) → length (condition_words p r) ≤ lent
      → condition (form_words p r) (variable_widths p r) lent ≡ done (condition_of (form_words p r))
  pub valued : (p r valuation : List ℕ) → Accepted p r → Small p r → Within (variable_widths p r) valuation
      → (lent : ℕ) → 2 * length (condition_of (form_words p r)) ≤ lent
      → told (λ xs. yes_or_no (last_truth xs)) (evaluate (condition_words p r) (variable_widths p r) valuation lent)
      ≡ done (yes_or_no (condition_truth (passive_form p r) valuation))
  -- it can be falsified exactly when the pipeline can fail
  pub exact : (p r : List ℕ) → Accepted p r → Small p r → Falsifiable p r ↔ CanFail p r
  -- what is taken out of a valuation that makes it false makes the pipeline fail, with no entry left over
  pub taken : (p r valuation : List ℕ) → Accepted p r → Small p r → Falsifies p r valuation
      → Within (packet_widths p) (packet_of p valuation)
      × FailsWith p r (packet_of p valuation) (choices_of p r valuation) (length (choices_of p r valuation))
  -- with room for them, Extract gives these, and Confirm says yes to them
  pub extracted : (p r valuation : List ℕ) → Accepted p r → Small p r → Falsifies p r valuation
      → (packet_room choice_room : ℕ) → length (packet_of p valuation) ≤ packet_room → length (choices_of p r valuation) ≤ choice_room
      → extract p r valuation packet_room choice_room ≡ done (witness p r valuation)
  pub confirmed : (p r valuation : List ℕ) → Accepted p r → Small p r → Falsifies p r valuation
      → confirm p r (packet_of p valuation) (choices_of p r valuation) ≡ done true

-- The condition is not constant: one accepted pipeline's is false somewhere, and another's is true everywhere.
pub record NotConstant : Type 0 where
  pub somewhere_false : (p r : List ℕ) × Accepted p r × Small p r × Falsifiable p r
  pub everywhere_true : (p r : List ℕ) × Accepted p r × Small p r × ((valuation : List ℕ) → condition_truth (passive_form p r) valuation ≡ true)
