-- The nine calls: what each answers, and what each area holds afterwards, for all inputs. An area that is lent is given by its words
-- before the call. Assumes nothing: these are definitions.
use Rattle.std.specs.Prelude.{ℕ, ◌+◌, ◌*◌, ◌≡◌, Bool, true, false, not, ◌&&◌, List, [], ◌∷◌, ◌++◌, eqb, ltb, leb, length, drop, replicate, if◌then◌else◌, Result}
use Rattle.std.specs.Borrow.{Bor}
use Rattle.model.specs.Blocks.{F, T, words}
use Rattle.model.specs.Files.{Held, whole, fault, held, pipeline_of, rules_of}
use Rattle.model.specs.Trees.{bits_in}
use Rattle.model.specs.Tables.{hit, part_of, part_words}
use Rattle.model.specs.Runs.{State, Outcome, packet_widths, start_packet, pipeline_run}
use Rattle.model.specs.Emit.{Emitted, passive_form, form_limit}
use Rattle.model.specs.Condition.{node_count, condition_of, evaluated, bits_words, last_truth}
use Rattle.model.specs.Walk.{packet_of, choices_of}
use Rattle.model.specs.Answers as said
use Rattle.model.specs.Answers.{Answer, done, refused, after, told, yes_or_no}
use Rattle.model.specs.Refusals.{Row, judge, once, room, check_rows, packet_rows, valuation_rows, condition_rows, evaluate_rows, late_row}
use Rattle.model.specs.declared.Bits.{Bits}
use Rattle.model.specs.declared.Node.{Node}
use Rattle.model.specs.declared.Part.{Part}
use Rattle.model.specs.declared.Blocks.{Blocks}
use Rattle.model.specs.declared.Ran.{Ran}
use Rattle.model.specs.declared.Form.{Form}
use Rattle.model.specs.declared.Refusal.{Refusal}

-- an area after a call that writes some words at its start: a refusal changes nothing, and words past the need stay
abbrev pub over : List ℕ → List ℕ → List ℕ
over ws area = ws ++ drop (length ws) area

abbrev pub written : {A : Type 0} → Answer A → (A → List ℕ) → List ℕ → List ℕ
written (done x) ws area = over (ws x) area
written (refused number place) ws area = area

-- LOAD: 1, 12 (pipeline area, then rules)
pub record TwoBlocks : Type 0 where
  pub pipeline : List ℕ
  pub rules : List ℕ

abbrev pub blocks_of : Held → TwoBlocks
blocks_of (whole xs) = record { pipeline = pipeline_of xs; rules = rules_of xs }
blocks_of (fault at) = record { pipeline = []; rules = [] }

abbrev pub is_whole : Held → Bool
is_whole (whole xs) = true
is_whole (fault at) = false

abbrev pub fault_of : Held → ℕ
fault_of (whole xs) = 0
fault_of (fault at) = at

abbrev pub load_rows : List ℕ → ℕ → ℕ → List Row
load_rows file pipeline_room rule_room =
    let h = held file in
    once 1 (λ _. is_whole h) (λ _. fault_of h)
    ∷ room (λ _. length (blocks_of h).pipeline) pipeline_room
    ∷ room (λ _. length (blocks_of h).rules) rule_room
    ∷ []

unfoldable pub load : List ℕ → ℕ → ℕ → Answer TwoBlocks
load file pipeline_room rule_room = after (judge (load_rows file pipeline_room rule_room)) (λ _. done (blocks_of (held file)))

-- the two blocks' lengths
abbrev pub block_lengths : TwoBlocks → List ℕ
block_lengths b = length b.pipeline ∷ length b.rules ∷ []

pub record Loads (file pipeline rules : List ℕ) (answer : Result Blocks Refusal) (pipeline' rules' : List ℕ) : Type 0 where
  pub answers : said.loaded answer ≡ told block_lengths (load file (length pipeline) (length rules))
  pub pipeline_area : pipeline' ≡ written (load file (length pipeline) (length rules)) (λ b. b.pipeline) pipeline
  pub rules_area : rules' ≡ written (load file (length pipeline) (length rules)) (λ b. b.rules) rules

-- CHECK: 2 to 10
unfoldable pub check : List ℕ → List ℕ → Answer (Unit {0})
check p r = judge (check_rows p r)

pub record Checks (p r : List ℕ) (answer : Result (Unit {0}) Refusal) : Type 0 where
  pub answers : said.checked answer ≡ told (λ _. []) (check p r)

-- LOOKUP: an empty part when check or packet is refused or the table number isn't below T, else the part of what hits
abbrev pub unless_refused : Answer (Unit {0}) → Part → Part
unless_refused (done _) found = found
unless_refused (refused number place) found = Part.Empty

abbrev pub start_rows : List ℕ → List ℕ → List ℕ → List Row
start_rows p r packet = check_rows p r ++ packet_rows p packet  -- 2 to 11

unfoldable pub lookup : List ℕ → List ℕ → List ℕ → ℕ → Part
lookup p r packet t =
    let there = part_of p r t (hit p r (start_packet p packet) t) in
    let found = if ltb t (T p) then there else Part.Empty in
    unless_refused (judge (start_rows p r packet)) found

-- Which part is returned: its words, and where it begins, so many words of four bytes into the block that it is a part of. A slice is a
-- reference here, with its pointer. An empty part may stand anywhere.
abbrev pub words_into : Bor (List ℕ) → ℕ → ℕ × ℕ
words_into s n = (s.ref_ptr.0, n * 4 + s.ref_ptr.1)

abbrev pub Begins : Part → Bor (List ℕ) → Bor (List ℕ) → Bor (List ℕ) → Type 0
Begins (Part.Rules at) p r part = part.ref_ptr ≡ words_into r at
Begins (Part.Pipeline at) p r part = part.ref_ptr ≡ words_into p at
Begins Part.Empty p r part = Unit {0}

pub record LooksUp (p r : Bor (List ℕ)) (packet : List ℕ) (t : ℕ) (part : Bor (List ℕ)) : Type 0 where
  pub words : part.now ≡ part_words p.now r.now (lookup p.now r.now packet t)
  pub begins : Begins (lookup p.now r.now packet t) p r part

-- RUN: 2 to 11, 12, then 14 or 15 as met
pub record Ended : Type 0 where
  pub how : ℕ  -- 0 passed, 1 blocked, 2 failed
  pub node : ℕ
  pub state : State

-- what it gives: how, the node and the entries used; and the packet
abbrev pub end_values : Ended → List ℕ
end_values e = e.how ∷ e.node ∷ e.state.used ∷ []

abbrev pub end_packet : Ended → List ℕ
end_packet e = e.state.packet

abbrev pub ended : Outcome → Answer Ended
ended (Outcome.passed s) = done (record { how = 0; node = 0; state = s })
ended (Outcome.blocked n s) = done (record { how = 1; node = n; state = s })
ended (Outcome.failed n s) = done (record { how = 2; node = n; state = s })
ended (Outcome.refused number place) = refused number place

abbrev pub run_rows : List ℕ → List ℕ → List ℕ → ℕ → List Row
run_rows p r packet end_room = start_rows p r packet ++ (room (λ _. F p) end_room ∷ [])

unfoldable pub run : List ℕ → List ℕ → List ℕ → List ℕ → ℕ → Answer Ended
run p r packet choices end_room = after (judge (run_rows p r packet end_room)) (λ _. ended (pipeline_run p r packet choices))

-- an ending, or a refusal, is answered, and the end area is left so
pub record Tells (ending : Answer Ended) (end : List ℕ) (answer : Result Ran Refusal) (end' : List ℕ) : Type 0 where
  pub answers : said.ran answer ≡ told end_values ending
  pub end_area : end' ≡ written ending end_packet end

abbrev pub Runs : List ℕ → List ℕ → List ℕ → List ℕ → List ℕ → Result Ran Refusal → List ℕ → Type 0
Runs p r packet choices end = Tells (run p r packet choices (length end)) end

-- CONFIRM: as Run, without 12. Yes exactly when the run fails and uses its whole choice list
abbrev pub fails_whole : List ℕ → Ended → Bool
fails_whole choices e = eqb e.how 2 && eqb e.state.used (length choices)

unfoldable pub confirm : List ℕ → List ℕ → List ℕ → List ℕ → Answer Bool
confirm p r packet choices =
    after (judge (start_rows p r packet)) (λ _. after (ended (pipeline_run p r packet choices)) (λ e. done (fails_whole choices e)))

pub record Confirms (p r packet choices : List ℕ) (answer : Result Bool Refusal) : Type 0 where
  pub answers : said.confirmed answer ≡ told yes_or_no (confirm p r packet choices)

-- PASSIFY: 2 to 10, 12 if too large, 12 (nodes, then widths)
abbrev pub large_row : List ℕ → List ℕ → Row
large_row p r = once 12 (λ _. leb (length (passive_form p r).nodes) form_limit) (λ _. 0)

abbrev pub passify_rows : List ℕ → List ℕ → ℕ → ℕ → List Row
passify_rows p r node_room width_room =
    check_rows p r
    ++ (large_row p r ∷ room (λ _. 4 * length (passive_form p r).nodes) node_room ∷ room (λ _. length (passive_form p r).widths) width_room ∷ [])

unfoldable pub passify : List ℕ → List ℕ → ℕ → ℕ → Answer Emitted
passify p r node_room width_room = after (judge (passify_rows p r node_room width_room)) (λ _. done (passive_form p r))

-- n and V
abbrev pub form_sizes : Emitted → List ℕ
form_sizes w = length w.nodes ∷ length w.widths ∷ []

pub record Passifies (p r nodes widths : List ℕ) (answer : Result Form Refusal) (nodes' widths' : List ℕ) : Type 0 where
  pub answers : said.passified answer ≡ told form_sizes (passify p r (length nodes) (length widths))
  pub nodes_area : nodes' ≡ written (passify p r (length nodes) (length widths)) (λ w. words w.nodes) nodes
  pub widths_area : widths' ≡ written (passify p r (length nodes) (length widths)) (λ w. w.widths) widths

-- CONDITION: 18 for length, 13, 18, 12
unfoldable pub condition : List ℕ → List ℕ → ℕ → Answer (List Node)
condition nodes ws lent = after (judge (condition_rows nodes ws lent)) (λ _. done (condition_of nodes))

pub record Builds (nodes ws entries : List ℕ) (answer : Result ℕ Refusal) (entries' : List ℕ) : Type 0 where
  pub answers : said.built answer ≡ told (λ es. length es ∷ []) (condition nodes ws (length entries))
  pub entries_area : entries' ≡ written (condition nodes ws (length entries)) words entries

-- EVALUATE: 17 for length, 13, 12, 17. A late 17 zeroes the scratch of all entries
unfoldable pub evaluate : List ℕ → List ℕ → List ℕ → ℕ → Answer (List Bits)
evaluate entries ws valuation lent =
    after (judge (evaluate_rows entries ws valuation lent ++ (late_row entries ws ∷ []))) (λ _. done (evaluated entries (bits_in ws valuation)))

abbrev pub scratch_words : List ℕ → Answer (List Bits) → List ℕ
scratch_words entries (done xs) = bits_words xs
scratch_words entries (refused number place) = replicate (2 * node_count entries) 0

abbrev pub scratch_after : List ℕ → List ℕ → List ℕ → List ℕ → List ℕ
scratch_after entries ws valuation scratch =
    let answer = evaluate entries ws valuation (length scratch) in
    written (judge (evaluate_rows entries ws valuation (length scratch))) (λ _. scratch_words entries answer) scratch

pub record Evaluates (entries ws valuation scratch : List ℕ) (answer : Result Bool Refusal) (scratch' : List ℕ) : Type 0 where
  pub answers : said.evaluated answer ≡ told (λ xs. yes_or_no (last_truth xs)) (evaluate entries ws valuation (length scratch))
  pub scratch_area : scratch' ≡ scratch_after entries ws valuation scratch

-- EXTRACT: 2 to 10, 12 if too large, 13, 16, 12 (packet, then choices)
pub record Witness : Type 0 where
  pub packet : List ℕ
  pub choices : List ℕ

abbrev pub witness : List ℕ → List ℕ → List ℕ → Witness
witness p r valuation = record { packet = packet_of p valuation; choices = choices_of p r valuation }

-- the condition's truth, for a form's nodes and its variables' widths
unfoldable pub condition_truth : Emitted → List ℕ → Bool
condition_truth w valuation = last_truth (evaluated (words (condition_of (words w.nodes))) (bits_in w.widths valuation))

abbrev pub extract_rows : List ℕ → List ℕ → List ℕ → ℕ → ℕ → List Row
extract_rows p r valuation packet_room choice_room =
    check_rows p r
    ++ (large_row p r ∷ [])
    ++ valuation_rows (passive_form p r).widths valuation
    ++ (once 16 (λ _. not (condition_truth (passive_form p r) valuation)) (λ _. 0) ∷ [])
    ++ (room (λ _. length (packet_widths p)) packet_room ∷ room (λ _. length (choices_of p r valuation)) choice_room ∷ [])

unfoldable pub extract : List ℕ → List ℕ → List ℕ → ℕ → ℕ → Answer Witness
extract p r valuation packet_room choice_room =
    after (judge (extract_rows p r valuation packet_room choice_room)) (λ _. done (witness p r valuation))

pub record Extracts (p r valuation packet choices : List ℕ) (answer : Result ℕ Refusal) (packet' choices' : List ℕ) : Type 0 where
  pub answers : said.extracted answer ≡ told (λ w. length w.choices ∷ []) (extract p r valuation (length packet) (length choices))
  pub packet_area : packet' ≡ written (extract p r valuation (length packet) (length choices)) (λ w. w.packet) packet
  pub choices_area : choices' ≡ written (extract p r valuation (length packet) (length choices)) (λ w. w.choices) choices
