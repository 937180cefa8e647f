-- Document 01, "Numbers a call can answer": each call's refusals, in its order. Assumes nothing: these are definitions.
use Rattle.std.specs.Prelude.{ℕ, suc, ◌+◌, ◌*◌, ◌%◌, Bool, true, not, ◌&&◌, List, [], ◌∷◌, ◌++◌, eqb, ltb, leb, length, get_or, if◌then◌else◌, Option, Some, None}
use Rattle.bits.specs.Width.{fits, under}
use Rattle.model.specs.Lists.{within, word, each, build, joined, every, exists, first_not, times, among}
use Rattle.model.specs.Blocks.{F, N, A, T, R, root, size, pipeline_length, width, widths, Call, call_at, pipeline_node, plain_node, body, parameter_count, parameter_width, key_count, key, default_place, table_of, value, mask, call_place}
use Rattle.model.specs.Nodes.{is_width, is_formed, is_test, is_statement, sorts, children}
use Rattle.model.specs.Runs.{packet_widths}
use Rattle.model.specs.Emit.{form_limit}
use Rattle.model.specs.Condition.{node_count}
use Rattle.model.specs.Answers.{Answer, done, refused}
use Rattle.model.specs.declared.Group.{Group}
use Rattle.model.specs.declared.Stage.{Stage}
use Rattle.model.specs.declared.Sort.{Sort}

-- A row of the table: a number, how many places are looked at, whether all is well at place i, and the place that is given if not.
pub record Row : Type 0 where
  pub number : ℕ
  pub count : ℕ
  pub well : ℕ → Bool
  pub place : ℕ → ℕ

-- A row that looks at each of so many places, and one that looks once. Tests and places are functions, so that no row is computed
-- before its turn.
abbrev pub each_of : ℕ → ℕ → (ℕ → Bool) → Row
each_of number count well = record { number = number; count = count; well = well; place = λ i. i }

abbrev pub once : ℕ → (ℕ → Bool) → (ℕ → ℕ) → Row
once number well place = record { number = number; count = 1; well = well; place = place }

-- a number is given exactly when it is the first that applies: the first row, and in it the first place
abbrev pub given : Row → Option ℕ → Answer (Unit {0}) → Answer (Unit {0})
given row (Some i) later = refused row.number (row.place i)
given row None later = later

unfoldable pub judge : List Row → Answer (Unit {0})
judge [] = done tt
judge (row ∷ rows) = let later = judge rows in given row (first_not row.well row.count) later

-- 12: so many words are needed, so many are lent
abbrev pub room : (ℕ → ℕ) → ℕ → Row
room need lent = once 12 (λ i. leb (need i) lent) need

-- Check: 2 to 10.

-- 2: the counts, and the length of either block
unfoldable pub counts_well : List ℕ → List ℕ → Bool
counts_well p r =
    leb 5 (length p) && within 1 32 (F p) && within 1 1024 (N p) && leb (A p) 64 && leb (T p) 32
    && eqb (length p) (pipeline_length p)
    && eqb (length r % size Group.Rule) 0 && leb (R r) 256

-- the sorts of the pipeline's nodes
unfoldable pub pipeline_sorts : List ℕ → List Sort
pipeline_sorts p = sorts Stage.Pipeline (widths p) (T p) (pipeline_node p) (N p)

abbrev pub sort_at : List Sort → ℕ → Sort
sort_at ss i = get_or ss i Sort.Malformed

-- those of `most` that are used keep their rule, and the others are 0
abbrev pub well_or_zero : ℕ → ℕ → Bool → ℕ → Bool
well_or_zero used j well number = if ltb j used then well else eqb number 0

abbrev pub used_or_zero : ℕ → ℕ → (ℕ → Bool) → (ℕ → ℕ) → Bool
used_or_zero most used well number = every (λ j. well_or_zero used j (well j) (number j)) most

-- 5
unfoldable pub action_well : List ℕ → List Sort → ℕ → Bool
action_well p ss i =
    is_statement (sort_at ss (body p i)) && leb (parameter_count p i) 2
    && used_or_zero 2 (parameter_count p i) (λ j. is_width (parameter_width p i j)) (parameter_width p i)

-- the action is there, and the data fit its parameters
unfoldable pub call_well : List ℕ → Call → Bool
call_well p c =
    ltb c.action (A p)
    && used_or_zero 2 (parameter_count p c.action) (λ j. fits (parameter_width p c.action j) (word c.«data» j)) (word c.«data»)

-- 6
unfoldable pub table_well : List ℕ → ℕ → Bool
table_well p i =
    leb (key_count p i) 4 && used_or_zero 4 (key_count p i) (λ j. ltb (key p i j) (F p)) (key p i) && call_well p (call_at p (default_place p i))

-- 8: every use of a node, as a child, an action's body or the root
unfoldable pub uses : List ℕ → List ℕ
uses p = joined (λ i. children (pipeline_node p i)) (N p) ++ each (body p) (A p) ++ (root p ∷ [])

-- 9: the nodes that stand under each node, itself among them
unfoldable pub gathered : List (List ℕ) → List ℕ → List ℕ
gathered before [] = []
gathered before (c ∷ cs) = get_or before c [] ++ gathered before cs

unfoldable pub under_each : List ℕ → List (List ℕ)
under_each p = build (λ before i. i ∷ gathered before (children (pipeline_node p i))) (N p)

abbrev pub stands_under : List ℕ → List (List ℕ) → ℕ → ℕ → Bool
stands_under p us i k = among i (get_or us (body p k) [])

-- a parameter stands only under an action that has it with that width, an apply under none
unfoldable pub placed_well : List ℕ → List (List ℕ) → ℕ → Bool
placed_well p us i =
    let n = pipeline_node p i in
    let has : ℕ → Bool = λ k. ltb n.a (parameter_count p k) && eqb n.b (parameter_width p k n.a) in
    let in_body = exists (stands_under p us i) (A p) in
    let parameter_well = in_body && every (λ k. if stands_under p us i k then has k else true) (A p) in
    let apply_well = not in_body in
    if eqb n.kind 3 then parameter_well else
    if eqb n.kind 39 then apply_well else
    true

-- 10: a mask fits its key's width, a value has no bit outside its mask, unused pairs are 0
unfoldable pub pair_well : List ℕ → List ℕ → ℕ → ℕ → Bool
pair_well p r i j =
    let t = table_of r i in
    if ltb j (key_count p t) then fits (width p (key p t j)) (mask r i j) && under (mask r i j) (value r i j) (value r i j)
    else eqb (value r i j) 0 && eqb (mask r i j) 0

unfoldable pub rule_well : List ℕ → List ℕ → ℕ → Bool
rule_well p r i = ltb (table_of r i) (T p) && every (pair_well p r i) 4 && call_well p (call_at r (call_place r i))

-- The rows, over the sorts, the uses and the nodes under each node, which are computed once for all of them.
abbrev pub field_row : List ℕ → Row
field_row p = each_of 3 (F p) (λ i. is_width (width p i))

abbrev pub node_row : List ℕ → List Sort → Row
node_row p ss = each_of 4 (N p) (λ i. is_formed (sort_at ss i))

abbrev pub action_row : List ℕ → List Sort → Row
action_row p ss = each_of 5 (A p) (action_well p ss)

abbrev pub table_row : List ℕ → Row
table_row p = each_of 6 (T p) (table_well p)

abbrev pub root_row : List ℕ → List Sort → Row
root_row p ss = once 7 (λ _. is_statement (sort_at ss (root p))) (λ _. 0)

abbrev pub use_row : List ℕ → List ℕ → Row
use_row p all = each_of 8 (N p) (λ i. eqb (times i all) 1)

abbrev pub place_row : List ℕ → List (List ℕ) → Row
place_row p us = each_of 9 (N p) (placed_well p us)

abbrev pub rule_row : List ℕ → List ℕ → Row
rule_row p r = each_of 10 (R r) (rule_well p r)

unfoldable pub check_rows : List ℕ → List ℕ → List Row
check_rows p r =
    let ss = pipeline_sorts p in
    let us = under_each p in
    let all = uses p in
    once 2 (λ _. counts_well p r) (λ _. 0)
    ∷ field_row p ∷ node_row p ss ∷ action_row p ss ∷ table_row p ∷ root_row p ss ∷ use_row p all ∷ place_row p us ∷ rule_row p r
    ∷ []

-- 11: the packet's length, else its values
abbrev pub packet_rows : List ℕ → List ℕ → List Row
packet_rows p packet =
    let ws = packet_widths p in
    once 11 (λ _. eqb (length packet) (length ws)) (λ _. length packet)
    ∷ each_of 11 (length ws) (λ i. fits (word ws i) (word packet i))
    ∷ []

-- 13: widths, else the valuation's length, else its values
abbrev pub width_row : List ℕ → Row
width_row ws = each_of 13 (length ws) (λ i. is_width (word ws i))

abbrev pub valuation_rows : List ℕ → List ℕ → List Row
valuation_rows ws valuation =
    once 13 (λ _. eqb (length valuation) (length ws)) (λ _. length valuation)
    ∷ each_of 13 (length ws) (λ i. fits (word ws i) (word valuation i))
    ∷ []

-- 17, 18: a length that is no number of nodes, or not 1 to a limit; a node that is malformed, or a last one of the wrong sort
abbrev pub length_row : ℕ → ℕ → List ℕ → Row
length_row number limit nodes =
    once number (λ _. eqb (length nodes % size Group.Node) 0 && within 1 limit (node_count nodes)) (λ _. 0)

abbrev pub nodes_row : ℕ → Stage → (Sort → Bool) → List ℕ → List ℕ → Row
nodes_row number stage ends nodes ws =
    let ss = sorts stage ws 0 (plain_node nodes) (node_count nodes) in
    each_of number (node_count nodes) (λ i. is_formed (sort_at ss i) && (if eqb (suc i) (node_count nodes) then ends (sort_at ss i) else true))

-- a form's entries are three a node, and the condition
abbrev pub entry_limit : ℕ
entry_limit = 3 * form_limit + 1

-- Condition: 18 for length, 13, 18, 12. Evaluate: 17 for length, 13, 12, and then, late, 17.
abbrev pub condition_rows : List ℕ → List ℕ → ℕ → List Row
condition_rows nodes ws lent =
    length_row 18 form_limit nodes
    ∷ width_row ws
    ∷ nodes_row 18 Stage.Passive is_statement nodes ws
    ∷ room (λ _. 4 * (3 * node_count nodes + 1)) lent
    ∷ []

abbrev pub evaluate_rows : List ℕ → List ℕ → List ℕ → ℕ → List Row
evaluate_rows entries ws valuation lent =
    (length_row 17 entry_limit entries ∷ width_row ws ∷ []) ++ valuation_rows ws valuation ++ (room (λ _. 2 * node_count entries) lent ∷ [])

abbrev pub late_row : List ℕ → List ℕ → Row
late_row entries ws = nodes_row 17 Stage.Condition is_test entries ws
