-- Document 01, "Examples": the marked ones, the listing's, and seven of our own, as one statement over the definitions, from the words of the blocks.
-- Its proof stands in proofs/. Assumes nothing: these are definitions.
use Rattle.std.specs.Prelude.{ℕ, ◌≡◌, Bool, true, false, List, [], ◌∷◌, ◌++◌, length}
use Rattle.bits.specs.Width.{sum, difference, slice, join, less, under}
use Rattle.model.specs.Blocks.{words}
use Rattle.model.specs.Tables.{part_words}
use Rattle.model.specs.Emit.{passive_form}
use Rattle.model.specs.Answers.{Answer, done, after, told}
use Rattle.model.specs.Condition.{last_truth}
use Rattle.model.specs.Calls as calls
use Rattle.model.specs.Listing.{listing}
use Rattle.model.specs.declared.Node.{Node}

-- What the calls answer, with all the room that they need: the looked-up words; a run's ending, node, entries used and packet; n and V of the passive form;
-- the condition's entries; its truth under a valuation; the packet and the choices taken out of a valuation.
abbrev pub plenty : ℕ
plenty = 10000

abbrev pub found_words : List ℕ → List ℕ → List ℕ → ℕ → List ℕ
found_words p r packet t = part_words p r (calls.lookup p r packet t)

abbrev pub ends : List ℕ → List ℕ → List ℕ → List ℕ → Answer (List ℕ)
ends p r packet choices = told (λ e. e.how ∷ e.node ∷ e.state.used ∷ e.state.packet) (calls.run p r packet choices plenty)

abbrev pub sizes : List ℕ → List ℕ → Answer (List ℕ)
sizes p r = told calls.form_sizes (calls.passify p r plenty plenty)

abbrev pub condition : List ℕ → List ℕ → Answer (List Node)
condition p r = after (calls.passify p r plenty plenty) (λ w. calls.condition (words w.nodes) w.widths plenty)

abbrev pub entry_count : List ℕ → List ℕ → Answer (List ℕ)
entry_count p r = told (λ es. length es ∷ []) (condition p r)

abbrev pub truth : List ℕ → List ℕ → List ℕ → Answer Bool
truth p r valuation =
    after (calls.passify p r plenty plenty) (λ w.
    after (condition p r) (λ es.
    after (calls.evaluate (words es) w.widths valuation plenty) (λ xs.
    done (last_truth xs))))

abbrev pub packet_taken : List ℕ → List ℕ → List ℕ → Answer (List ℕ)
packet_taken p r valuation = told (λ w. w.packet) (calls.extract p r valuation plenty plenty)

abbrev pub choices_taken : List ℕ → List ℕ → List ℕ → Answer (List ℕ)
choices_taken p r valuation = told (λ w. w.choices) (calls.extract p r valuation plenty plenty)

-- 1. Three fields: 255 + 1 and 0 - 1 at width 8, 4,294,967,295 + 1 at width 32.
abbrev pub sums : List ℕ
sums =
    (3 ∷ 14 ∷ 0 ∷ 0 ∷ 13 ∷ [])  -- F, N, A, T, root
    ++ (8 ∷ 8 ∷ 32 ∷ [])
    ++ (1 ∷ 255 ∷ 8 ∷ 0 ∷ [])  -- 0: 255
    ++ (1 ∷ 1 ∷ 8 ∷ 0 ∷ [])  -- 1: 1
    ++ (4 ∷ 0 ∷ 1 ∷ 0 ∷ [])  -- 2: sum
    ++ (33 ∷ 0 ∷ 2 ∷ 0 ∷ [])  -- 3: assigned to field 0
    ++ (1 ∷ 0 ∷ 8 ∷ 0 ∷ [])  -- 4: 0
    ++ (1 ∷ 1 ∷ 8 ∷ 0 ∷ [])  -- 5: 1
    ++ (5 ∷ 4 ∷ 5 ∷ 0 ∷ [])  -- 6: difference
    ++ (33 ∷ 1 ∷ 6 ∷ 0 ∷ [])  -- 7: assigned to field 1
    ++ (1 ∷ 4294967295 ∷ 32 ∷ 0 ∷ [])  -- 8: 4,294,967,295
    ++ (1 ∷ 1 ∷ 32 ∷ 0 ∷ [])  -- 9: 1
    ++ (4 ∷ 8 ∷ 9 ∷ 0 ∷ [])  -- 10: sum
    ++ (33 ∷ 2 ∷ 10 ∷ 0 ∷ [])  -- 11: assigned to field 2
    ++ (37 ∷ 3 ∷ 7 ∷ 0 ∷ [])  -- 12
    ++ (37 ∷ 12 ∷ 11 ∷ 0 ∷ [])  -- 13

-- 2. Two fields, of width 4 and 8: a slice and a join.
abbrev pub parts : List ℕ
parts =
    (2 ∷ 8 ∷ 0 ∷ 0 ∷ 7 ∷ [])
    ++ (4 ∷ 8 ∷ [])
    ++ (1 ∷ 171 ∷ 8 ∷ 0 ∷ [])  -- 0: 171
    ++ (10 ∷ 0 ∷ 7 ∷ 4 ∷ [])  -- 1: its slice 7 to 4
    ++ (33 ∷ 0 ∷ 1 ∷ 0 ∷ [])  -- 2: assigned to field 0
    ++ (1 ∷ 10 ∷ 4 ∷ 0 ∷ [])  -- 3: 10
    ++ (1 ∷ 11 ∷ 4 ∷ 0 ∷ [])  -- 4: 11
    ++ (11 ∷ 3 ∷ 4 ∷ 0 ∷ [])  -- 5: joined
    ++ (33 ∷ 1 ∷ 5 ∷ 0 ∷ [])  -- 6: assigned to field 1
    ++ (37 ∷ 2 ∷ 6 ∷ 0 ∷ [])  -- 7

-- 3. Assert 255 less 0.
abbrev pub less_than : List ℕ
less_than =
    (1 ∷ 4 ∷ 0 ∷ 0 ∷ 3 ∷ [])
    ++ (8 ∷ [])
    ++ (1 ∷ 255 ∷ 8 ∷ 0 ∷ [])  -- 0: 255
    ++ (1 ∷ 0 ∷ 8 ∷ 0 ∷ [])  -- 1: 0
    ++ (18 ∷ 0 ∷ 1 ∷ 0 ∷ [])  -- 2: less
    ++ (36 ∷ 2 ∷ 0 ∷ 0 ∷ [])  -- 3: assert

-- 5. A keyless table whose action assigns field 0 its data: 1 and 2 by the rules, 9 by the default.
abbrev pub keyless : List ℕ
keyless =
    (1 ∷ 3 ∷ 1 ∷ 1 ∷ 2 ∷ [])
    ++ (8 ∷ [])
    ++ (3 ∷ 0 ∷ 8 ∷ 0 ∷ [])  -- 0: parameter 0
    ++ (33 ∷ 0 ∷ 0 ∷ 0 ∷ [])  -- 1: assigned to field 0
    ++ (39 ∷ 0 ∷ 0 ∷ 0 ∷ [])  -- 2: apply table 0
    ++ (1 ∷ 1 ∷ 8 ∷ 0 ∷ [])  -- action 0
    ++ (0 ∷ 0 ∷ 0 ∷ 0 ∷ 0 ∷ 0 ∷ 9 ∷ 0 ∷ [])  -- table 0

abbrev pub keyless_rules : List ℕ
keyless_rules =
    (0 ∷ 0 ∷ 0 ∷ 0 ∷ 0 ∷ 0 ∷ 0 ∷ 0 ∷ 0 ∷ 0 ∷ 1 ∷ 0 ∷ [])
    ++ (0 ∷ 0 ∷ 0 ∷ 0 ∷ 0 ∷ 0 ∷ 0 ∷ 0 ∷ 0 ∷ 0 ∷ 2 ∷ 0 ∷ [])

-- 6. Assume false then assert false. 7. Assert false then assume false.
abbrev pub both_false : ℕ → ℕ → List ℕ
both_false a b =
    (1 ∷ 5 ∷ 0 ∷ 0 ∷ 4 ∷ [])
    ++ (8 ∷ [])
    ++ (16 ∷ 0 ∷ 0 ∷ 0 ∷ [])  -- 0: false
    ++ (a ∷ 0 ∷ 0 ∷ 0 ∷ [])  -- 1
    ++ (16 ∷ 0 ∷ 0 ∷ 0 ∷ [])  -- 2: false
    ++ (b ∷ 2 ∷ 0 ∷ 0 ∷ [])  -- 3
    ++ (37 ∷ 1 ∷ 3 ∷ 0 ∷ [])  -- 4

-- 8. Assign field 0 the value 1, or skip; then assert field 0 = 1.
abbrev pub assign_or_skip : List ℕ
assign_or_skip =
    (1 ∷ 9 ∷ 0 ∷ 0 ∷ 8 ∷ [])
    ++ (8 ∷ [])
    ++ (1 ∷ 1 ∷ 8 ∷ 0 ∷ [])  -- 0: 1
    ++ (33 ∷ 0 ∷ 0 ∷ 0 ∷ [])  -- 1: assigned to field 0
    ++ (32 ∷ 0 ∷ 0 ∷ 0 ∷ [])  -- 2: skip
    ++ (38 ∷ 1 ∷ 2 ∷ 0 ∷ [])  -- 3: or
    ++ (2 ∷ 0 ∷ 0 ∷ 0 ∷ [])  -- 4: field 0
    ++ (1 ∷ 1 ∷ 8 ∷ 0 ∷ [])  -- 5: 1
    ++ (17 ∷ 4 ∷ 5 ∷ 0 ∷ [])  -- 6: equal
    ++ (36 ∷ 6 ∷ 0 ∷ 0 ∷ [])  -- 7: assert
    ++ (37 ∷ 3 ∷ 7 ∷ 0 ∷ [])  -- 8: then

-- 9, and 4. Two 8-bit fields, one key, field 0; one rule, value 16 under mask 240, assigning field 1 its data, 7; default skip.
abbrev pub keyed : List ℕ
keyed =
    (2 ∷ 4 ∷ 2 ∷ 1 ∷ 3 ∷ [])
    ++ (8 ∷ 8 ∷ [])
    ++ (3 ∷ 0 ∷ 8 ∷ 0 ∷ [])  -- 0: parameter 0
    ++ (33 ∷ 1 ∷ 0 ∷ 0 ∷ [])  -- 1: assigned to field 1
    ++ (32 ∷ 0 ∷ 0 ∷ 0 ∷ [])  -- 2: skip
    ++ (39 ∷ 0 ∷ 0 ∷ 0 ∷ [])  -- 3: apply table 0
    ++ (1 ∷ 1 ∷ 8 ∷ 0 ∷ [])  -- action 0
    ++ (2 ∷ 0 ∷ 0 ∷ 0 ∷ [])  -- action 1
    ++ (1 ∷ 0 ∷ 0 ∷ 0 ∷ 0 ∷ 1 ∷ 0 ∷ 0 ∷ [])  -- table 0

abbrev pub keyed_rules : List ℕ
keyed_rules = 0 ∷ 16 ∷ 240 ∷ 0 ∷ 0 ∷ 0 ∷ 0 ∷ 0 ∷ 0 ∷ 0 ∷ 7 ∷ 0 ∷ []

-- Ours: a choice of two failing asserts; of skip or a failing assert; of a failing assert that an assume false follows, or a failing
-- assert; assume field 0 = 0, havoc field 0, assert field 0 = 0; a table whose rule, value 16 under mask 240, changes its own key, field 0, to
-- 32, and whose default fails.
abbrev pub either_fails : List ℕ
either_fails =
    (1 ∷ 5 ∷ 0 ∷ 0 ∷ 4 ∷ [])
    ++ (8 ∷ [])
    ++ (16 ∷ 0 ∷ 0 ∷ 0 ∷ [])  -- 0: false
    ++ (36 ∷ 0 ∷ 0 ∷ 0 ∷ [])  -- 1: assert
    ++ (16 ∷ 0 ∷ 0 ∷ 0 ∷ [])  -- 2: false
    ++ (36 ∷ 2 ∷ 0 ∷ 0 ∷ [])  -- 3: assert
    ++ (38 ∷ 1 ∷ 3 ∷ 0 ∷ [])  -- 4: or

abbrev pub skip_or_fail : List ℕ
skip_or_fail =
    (1 ∷ 4 ∷ 0 ∷ 0 ∷ 3 ∷ [])
    ++ (8 ∷ [])
    ++ (32 ∷ 0 ∷ 0 ∷ 0 ∷ [])  -- 0: skip
    ++ (16 ∷ 0 ∷ 0 ∷ 0 ∷ [])  -- 1: false
    ++ (36 ∷ 1 ∷ 0 ∷ 0 ∷ [])  -- 2: assert
    ++ (38 ∷ 0 ∷ 2 ∷ 0 ∷ [])  -- 3: or

abbrev pub fails_before_block : List ℕ
fails_before_block =
    (1 ∷ 8 ∷ 0 ∷ 0 ∷ 7 ∷ [])
    ++ (8 ∷ [])
    ++ (16 ∷ 0 ∷ 0 ∷ 0 ∷ [])  -- 0: false
    ++ (36 ∷ 0 ∷ 0 ∷ 0 ∷ [])  -- 1: assert
    ++ (16 ∷ 0 ∷ 0 ∷ 0 ∷ [])  -- 2: false
    ++ (35 ∷ 2 ∷ 0 ∷ 0 ∷ [])  -- 3: assume
    ++ (37 ∷ 1 ∷ 3 ∷ 0 ∷ [])  -- 4: then
    ++ (16 ∷ 0 ∷ 0 ∷ 0 ∷ [])  -- 5: false
    ++ (36 ∷ 5 ∷ 0 ∷ 0 ∷ [])  -- 6: assert
    ++ (38 ∷ 4 ∷ 6 ∷ 0 ∷ [])  -- 7: or

abbrev pub zero_then_any : List ℕ
zero_then_any =
    (1 ∷ 11 ∷ 0 ∷ 0 ∷ 10 ∷ [])
    ++ (8 ∷ [])
    ++ (2 ∷ 0 ∷ 0 ∷ 0 ∷ [])  -- 0: field 0
    ++ (1 ∷ 0 ∷ 8 ∷ 0 ∷ [])  -- 1: 0
    ++ (17 ∷ 0 ∷ 1 ∷ 0 ∷ [])  -- 2: equal
    ++ (35 ∷ 2 ∷ 0 ∷ 0 ∷ [])  -- 3: assume
    ++ (34 ∷ 0 ∷ 0 ∷ 0 ∷ [])  -- 4: havoc field 0
    ++ (37 ∷ 3 ∷ 4 ∷ 0 ∷ [])  -- 5: then
    ++ (2 ∷ 0 ∷ 0 ∷ 0 ∷ [])  -- 6: field 0
    ++ (1 ∷ 0 ∷ 8 ∷ 0 ∷ [])  -- 7: 0
    ++ (17 ∷ 6 ∷ 7 ∷ 0 ∷ [])  -- 8: equal
    ++ (36 ∷ 8 ∷ 0 ∷ 0 ∷ [])  -- 9: assert
    ++ (37 ∷ 5 ∷ 9 ∷ 0 ∷ [])  -- 10: then

abbrev pub key_changed : List ℕ
key_changed =
    (1 ∷ 5 ∷ 2 ∷ 1 ∷ 4 ∷ [])
    ++ (8 ∷ [])
    ++ (3 ∷ 0 ∷ 8 ∷ 0 ∷ [])  -- 0: parameter 0
    ++ (33 ∷ 0 ∷ 0 ∷ 0 ∷ [])  -- 1: assigned to field 0
    ++ (16 ∷ 0 ∷ 0 ∷ 0 ∷ [])  -- 2: false
    ++ (36 ∷ 2 ∷ 0 ∷ 0 ∷ [])  -- 3: assert
    ++ (39 ∷ 0 ∷ 0 ∷ 0 ∷ [])  -- 4: apply table 0
    ++ (1 ∷ 1 ∷ 8 ∷ 0 ∷ [])  -- action 0
    ++ (3 ∷ 0 ∷ 0 ∷ 0 ∷ [])  -- action 1
    ++ (1 ∷ 0 ∷ 0 ∷ 0 ∷ 0 ∷ 1 ∷ 0 ∷ 0 ∷ [])  -- table 0

abbrev pub key_changed_rules : List ℕ
key_changed_rules = 0 ∷ 16 ∷ 240 ∷ 0 ∷ 0 ∷ 0 ∷ 0 ∷ 0 ∷ 0 ∷ 0 ∷ 32 ∷ 0 ∷ []

-- The listing's example: one 8-bit field, nodes 0 field 0, 1 constant 10, 2 less(0, 1), 3 assert 2, root 3; the file, and the text.
abbrev pub listed_file : List ℕ
listed_file =
    (0x46 ∷ 0x44 ∷ 0x00 ∷ 0x00 ∷ 0x00 ∷ 0x08 ∷ [])  -- FD 8
    ++ (0x4E ∷ 0x44 ∷ 0x00 ∷ 0x00 ∷ 0x00 ∷ 0x02 ∷ 0x00 ∷ 0x00 ∷ 0x00 ∷ 0x00 ∷ 0x00 ∷ 0x00 ∷ 0x00 ∷ 0x00 ∷ 0x00 ∷ 0x00 ∷ 0x00 ∷ 0x00 ∷ [])  -- ND 2 0 0 0
    ++ (0x4E ∷ 0x44 ∷ 0x00 ∷ 0x00 ∷ 0x00 ∷ 0x01 ∷ 0x00 ∷ 0x00 ∷ 0x00 ∷ 0x0A ∷ 0x00 ∷ 0x00 ∷ 0x00 ∷ 0x08 ∷ 0x00 ∷ 0x00 ∷ 0x00 ∷ 0x00 ∷ [])  -- ND 1 10 8 0
    ++ (0x4E ∷ 0x44 ∷ 0x00 ∷ 0x00 ∷ 0x00 ∷ 0x12 ∷ 0x00 ∷ 0x00 ∷ 0x00 ∷ 0x00 ∷ 0x00 ∷ 0x00 ∷ 0x00 ∷ 0x01 ∷ 0x00 ∷ 0x00 ∷ 0x00 ∷ 0x00 ∷ [])  -- ND 18 0 1 0
    ++ (0x4E ∷ 0x44 ∷ 0x00 ∷ 0x00 ∷ 0x00 ∷ 0x24 ∷ 0x00 ∷ 0x00 ∷ 0x00 ∷ 0x02 ∷ 0x00 ∷ 0x00 ∷ 0x00 ∷ 0x00 ∷ 0x00 ∷ 0x00 ∷ 0x00 ∷ 0x00 ∷ [])  -- ND 36 2 0 0
    ++ (0x52 ∷ 0x54 ∷ 0x00 ∷ 0x00 ∷ 0x00 ∷ 0x03 ∷ [])  -- RT 3

abbrev pub listed_text : List ℕ
listed_text =
    (0x70 ∷ 0x61 ∷ 0x73 ∷ 0x73 ∷ 0x69 ∷ 0x76 ∷ 0x65 ∷ 0x20 ∷ 0x34 ∷ 0x20 ∷ 0x76 ∷ 0x61 ∷ 0x72 ∷ 0x69 ∷ 0x61 ∷ 0x62 ∷ 0x6C ∷ 0x65 ∷ 0x73 ∷ 0x20 ∷ 0x31 ∷ 0x20 ∷ 0x63 ∷ 0x6F ∷ 0x6E ∷ 0x64 ∷ 0x69 ∷ 0x74 ∷ 0x69 ∷ 0x6F ∷ 0x6E ∷ 0x20 ∷ 0x31 ∷ 0x33 ∷ 0x0A ∷ [])  -- passive 4 variables 1 condition 13
    ++ (0x30 ∷ 0x20 ∷ 0x32 ∷ 0x20 ∷ 0x30 ∷ 0x20 ∷ 0x30 ∷ 0x20 ∷ 0x30 ∷ 0x0A ∷ [])  -- 0 2 0 0 0
    ++ (0x31 ∷ 0x20 ∷ 0x31 ∷ 0x20 ∷ 0x31 ∷ 0x30 ∷ 0x20 ∷ 0x38 ∷ 0x20 ∷ 0x30 ∷ 0x0A ∷ [])  -- 1 1 10 8 0
    ++ (0x32 ∷ 0x20 ∷ 0x31 ∷ 0x38 ∷ 0x20 ∷ 0x30 ∷ 0x20 ∷ 0x31 ∷ 0x20 ∷ 0x30 ∷ 0x0A ∷ [])  -- 2 18 0 1 0
    ++ (0x33 ∷ 0x20 ∷ 0x33 ∷ 0x36 ∷ 0x20 ∷ 0x32 ∷ 0x20 ∷ 0x30 ∷ 0x20 ∷ 0x30 ∷ 0x0A ∷ [])  -- 3 36 2 0 0

-- the rows: the marked examples by their numbers, the listing's, and ours
pub record ExampleRows : Type 0 where
  pub one : (sum 8 255 1 ≡ 0) × (difference 8 0 1 ≡ 255) × (sum 32 4294967295 1 ≡ 0)
      × (ends sums [] (1 ∷ 1 ∷ 1 ∷ []) [] ≡ done (0 ∷ 0 ∷ 0 ∷ 0 ∷ 255 ∷ 0 ∷ []))
  pub two : (slice 7 4 171 ≡ 10) × (join 4 10 11 ≡ 171) × (ends parts [] (1 ∷ 1 ∷ []) [] ≡ done (0 ∷ 0 ∷ 0 ∷ 10 ∷ 171 ∷ []))
  pub three : (less 255 0 ≡ false) × (ends less_than [] (5 ∷ []) [] ≡ done (2 ∷ 3 ∷ 0 ∷ 5 ∷ []))
  pub four : (under 240 16 31 ≡ true) × (under 240 16 32 ≡ false)
      × (found_words keyed keyed_rules (31 ∷ 0 ∷ []) 0 ≡ 0 ∷ 7 ∷ 0 ∷ []) × (found_words keyed keyed_rules (32 ∷ 0 ∷ []) 0 ≡ 1 ∷ 0 ∷ 0 ∷ [])
  pub five : (found_words keyless keyless_rules (5 ∷ []) 0 ≡ 0 ∷ 1 ∷ 0 ∷ []) × (ends keyless keyless_rules (5 ∷ []) [] ≡ done (0 ∷ 0 ∷ 0 ∷ 1 ∷ []))
  pub six : (ends (both_false 35 36) [] (5 ∷ []) [] ≡ done (1 ∷ 1 ∷ 0 ∷ 5 ∷ []))
      × ((valuation : List ℕ) → calls.condition_truth (passive_form (both_false 35 36) []) valuation ≡ true)
  pub seven : (ends (both_false 36 35) [] (5 ∷ []) [] ≡ done (2 ∷ 1 ∷ 0 ∷ 5 ∷ []))
      × ((valuation : List ℕ) → calls.condition_truth (passive_form (both_false 36 35) []) valuation ≡ false)
  pub eight : (sizes assign_or_skip [] ≡ done (21 ∷ 3 ∷ [])) × (entry_count assign_or_skip [] ≡ done (64 ∷ []))
      × (truth assign_or_skip [] (5 ∷ 0 ∷ 5 ∷ []) ≡ done false)
      × (packet_taken assign_or_skip [] (5 ∷ 0 ∷ 5 ∷ []) ≡ done (5 ∷ [])) × (choices_taken assign_or_skip [] (5 ∷ 0 ∷ 5 ∷ []) ≡ done (1 ∷ []))
      × (truth assign_or_skip [] (5 ∷ 1 ∷ 1 ∷ []) ≡ done true)
      × (truth assign_or_skip [] (5 ∷ 1 ∷ 5 ∷ []) ≡ done false)
  pub nine : (sizes keyed keyed_rules ≡ done (35 ∷ 4 ∷ [])) × (entry_count keyed keyed_rules ≡ done (106 ∷ []))
      × (ends keyed keyed_rules (31 ∷ 0 ∷ []) [] ≡ done (0 ∷ 0 ∷ 0 ∷ 31 ∷ 7 ∷ []))
      × (ends keyed keyed_rules (32 ∷ 0 ∷ []) [] ≡ done (0 ∷ 0 ∷ 0 ∷ 32 ∷ 0 ∷ []))
  pub listed : listing listed_file ≡ listed_text
  -- where both sides go wrong, the first is taken
  pub both_sides_fail : (truth either_fails [] (5 ∷ []) ≡ done false)
      × (packet_taken either_fails [] (5 ∷ []) ≡ done (5 ∷ [])) × (choices_taken either_fails [] (5 ∷ []) ≡ done (0 ∷ []))
  -- one side that goes wrong is enough
  pub one_side_fails : (truth skip_or_fail [] (5 ∷ []) ≡ done false) × (choices_taken skip_or_fail [] (5 ∷ []) ≡ done (1 ∷ []))
  -- a side goes wrong though what follows its wrong can't go on
  pub wrong_all_the_same : (truth fails_before_block [] (5 ∷ []) ≡ done false) × (choices_taken fails_before_block [] (5 ∷ []) ≡ done (0 ∷ []))
  -- a side goes on only with its join's equations: of example 8, at (5, 1, 5), the second
  pub on_with_equations : choices_taken assign_or_skip [] (5 ∷ 1 ∷ 5 ∷ []) ≡ done (1 ∷ [])
  -- what a havoc gives need not be what the field held
  pub havoc_is_new : (ends zero_then_any [] (0 ∷ []) (1 ∷ []) ≡ done (2 ∷ 9 ∷ 1 ∷ 1 ∷ []))
      × (truth zero_then_any [] (0 ∷ 1 ∷ []) ≡ done false) × (choices_taken zero_then_any [] (0 ∷ 1 ∷ []) ≡ done (1 ∷ []))
  -- a table without rules is its default's body: constant, variable, equal, assume
  pub no_rules : sizes keyless [] ≡ done (4 ∷ 2 ∷ [])
  -- the packet that hit is not tried again after its key has changed
  pub key_read_once : (ends key_changed key_changed_rules (31 ∷ []) [] ≡ done (0 ∷ 0 ∷ 0 ∷ 32 ∷ []))
      × (truth key_changed key_changed_rules (31 ∷ 32 ∷ 32 ∷ []) ≡ done true)
