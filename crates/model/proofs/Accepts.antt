-- Condition builds the condition of a well-formed passive form, and Evaluate gives its truth. Assumes nothing.
use Prim.Native.Nat.{ℕ, suc, ◌+◌, ◌*◌, ◌%◌, ◌<◌, ◌≤◌}
use native.Mathlib.Omega.{arith}
use mathlib.Core.Path.{◌≡◌, refl}
use mathlib.Core.Bool.{Bool, true, false}
use mathlib.Core.List.{List, [], ◌∷◌, ◌++◌}
use lib.Dec.{eqb, leb}
use lib.ListN.{length}
use borrow.Author.Tests.{eqb-true, eq-eqb, le-leb, leb-true}
use Rattle.std.specs.Prelude.{if◌then◌else◌}
use Rattle.model.specs.Lists.{within, word}
use Rattle.model.specs.Blocks.{words, plain_node}
use Rattle.model.specs.Nodes.{is_test, is_statement, is_formed}
use Rattle.model.specs.Good.{Within}
use Rattle.model.specs.Passive.{Passive}
use Rattle.model.specs.Emit.{emit, top, form_limit}
use Rattle.model.specs.Condition.{node_count, condition_of, last_truth}
use Rattle.model.specs.Answers.{done, told, yes_or_no}
use Rattle.model.specs.Refusals.{entry_limit, length_row, width_row, nodes_row, condition_rows, evaluate_rows, late_row}
use Rattle.model.specs.Calls.{condition, evaluate, condition_truth}
use Rattle.model.specs.Demands.{WellBefore, Clear}
use Rattle.model.specs.declared.Node.{Node}
use Rattle.model.specs.declared.Stage.{Stage}
use Rattle.model.specs.declared.Sort.{Sort}
use Rattle.model.proofs.Booleans.{both_true}
use Rattle.model.proofs.GoodForms.{AllWidths, GoodPassive}
use Rattle.model.proofs.Within.{within-well}
use Rattle.model.proofs.Refusals.{clear_judge}
use Rattle.model.proofs.NodeList.{length-words, node_count-words, gives_statement, emitted_spans}
use Rattle.model.proofs.Formed.{sort, sorts-at, Well, statement-well}
use Rattle.model.proofs.EntrySorts.{length-built, entries_formed, entries_end}

-- ---- what the rows of Condition and Evaluate look at

length-well : (number limit j : ℕ) (ns : List Node) → 0 < length ns → length ns ≤ limit → (length_row number limit (words ns)).well j ≡ true
length-well number limit j ns h k =
    rw (node_count-words ns, eq-eqb (length (words ns) % 4) 0 (omega (arith, length-words ns)), le-leb 1 (length ns) h, le-leb (length ns) limit k)

module _ (number : ℕ) (stage : Stage) (ends : Sort → Bool) (form ws : List ℕ) where
  abbrev sort_there : ℕ → Sort
  sort_there = sort stage ws (plain_node form)

  nodes-well : ((i : ℕ) → i < node_count form → is_formed (sort_there i) ≡ true) → ((i : ℕ) → suc i ≡ node_count form → ends (sort_there i) ≡ true)
      → WellBefore (nodes_row number stage ends form ws) (node_count form)
  nodes-well formed end j h = rw (sorts-at stage ws (plain_node form) (node_count form) j h, formed j h) (go (eqb (suc j) (node_count form)) refl)
    where
      go : (b : Bool) → eqb (suc j) (node_count form) ≡ b → (if b then ends (sort_there j) else true) ≡ true
      go true e = end j (eqb-true (suc j) (node_count form) e)
      go false e = refl

  -- and what they say of the nodes
  module _ (well : WellBefore (nodes_row number stage ends form ws) (node_count form)) where
    both_well : (i : ℕ) → i < node_count form
        → (is_formed (sort_there i) ≡ true) × ((if eqb (suc i) (node_count form) then ends (sort_there i) else true) ≡ true)
    both_well i h = both_true (is_formed (sort_there i)) _ (rw (sorts-at stage ws (plain_node form) (node_count form) i h) at (well i h))

    pub nodes-formed : (i : ℕ) → i < node_count form → is_formed (sort_there i) ≡ true
    nodes-formed i h = (both_well i h).0

    pub nodes_end : (i : ℕ) → suc i ≡ node_count form → ends (sort_there i) ≡ true
    nodes_end i e = rw (eq-eqb (suc i) (node_count form) e) at (both_well i (omega arith)).1

widths-well : (ws : List ℕ) → AllWidths ws → WellBefore (width_row ws) (length ws)
widths-well ws all j h = rw (le-leb 1 (word ws j) (all j h).0, le-leb (word ws j) 32 (all j h).1)

-- ---- what Condition builds, Evaluate accepts

pub evaluate_clear : (form ws valuation : List ℕ) (lent lent' : ℕ) → Clear (condition_rows form ws lent) → Within ws valuation
    → 2 * length (condition_of form) ≤ lent'
    → Clear (evaluate_rows (words (condition_of form)) ws valuation lent' ++ (late_row (words (condition_of form)) ws ∷ []))
unfolding Clear
evaluate_clear form ws valuation lent lent' c v h =
    let n = node_count form in
    let es = condition_of form in
    let count = node_count-words es in
    let long = length-built form in
    let bounds = both_true (leb 1 n) (leb n form_limit) (both_true (eqb (length form % 4) 0) (within 1 form_limit n) (c.0 0 (omega arith))).1 in
    let some = leb-true 1 n bounds.0 in
    let most = leb-true n form_limit bounds.1 in
    let formed = nodes-formed 18 Stage.Passive is_statement form ws c.1.1.0 in (
      λ j _. length-well 17 entry_limit j es (omega arith) (omega arith),
      (
        c.1.0,
        (
          λ j _. (within-well ws valuation v).0,
          (
            λ j _. (within-well ws valuation v).1 j,
            (
              λ j _. le-leb (2 * node_count (words es)) lent' (omega arith),
              (
                nodes-well 17 Stage.Condition is_test (words es) ws
                    (λ j k. entries_formed form ws some formed j (omega arith)) (λ j e. entries_end form ws some formed j (omega arith)),
                tt,
              ),
            ),
          ),
        ),
      ),
    )

-- ---- a well-formed passive statement's form

module _ (q : Passive) (ws : List ℕ) (good : GoodPassive ws q) (all : AllWidths ws) where
  abbrev form_of : List ℕ
  form_of = words (emit q 0)

  form-well : Well ws all (plain_node form_of) 0 (top 0 (emit q 0)) Sort.Statement
  form-well = statement-well ws all (plain_node form_of) q 0 (top 0 (emit q 0)) good (emitted_spans q)

  pub form-formed : (i : ℕ) → i < node_count form_of → is_formed (sort Stage.Passive ws (plain_node form_of) i) ≡ true
  form-formed i h = form-well.formed i (omega arith) (omega (arith, node_count-words (emit q 0)))

  form_end : (i : ℕ) → suc i ≡ node_count form_of → is_statement (sort Stage.Passive ws (plain_node form_of) i) ≡ true
  form_end i e = let z : i ≡ top 0 (emit q 0) = omega (arith, node_count-words (emit q 0)) in rw (z, form-well.own)

  condition_clear : length (emit q 0) ≤ form_limit → (lent : ℕ) → 4 * length (condition_of form_of) ≤ lent → Clear (condition_rows form_of ws lent)
  unfolding Clear
  condition_clear small lent h = (
    λ j _. length-well 18 form_limit j (emit q 0) ((gives_statement (plain_node form_of) q).some 0) small,
    (
      widths-well ws all,
      (
        nodes-well 18 Stage.Passive is_statement form_of ws form-formed form_end,
        (λ j _. le-leb (4 * (3 * node_count form_of + 1)) lent (omega (arith, length-built form_of)), tt),
      ),
    ),
  )

  -- with room for it, Condition builds the condition, and Evaluate gives its truth
  module _ (small : length (emit q 0) ≤ form_limit) (lent : ℕ) where
    pub condition-built : 4 * length (condition_of form_of) ≤ lent → condition form_of ws lent ≡ done (condition_of form_of)
    unfolding condition
    condition-built h = rw (clear_judge (condition_rows form_of ws lent) (condition_clear small lent h))

    pub condition-valued : (valuation : List ℕ) → Within ws valuation → 2 * length (condition_of form_of) ≤ lent
        → told (λ xs. yes_or_no (last_truth xs)) (evaluate (words (condition_of form_of)) ws valuation lent)
        ≡ done (yes_or_no (condition_truth (record { nodes = emit q 0; widths = ws }) valuation))
    unfolding evaluate condition_truth
    condition-valued valuation v h =
        let entries = words (condition_of form_of) in
        let room = 4 * length (condition_of form_of) in
        let clear = evaluate_clear form_of ws valuation room lent (condition_clear small room (omega arith)) v h in
        rw (clear_judge (evaluate_rows entries ws valuation lent ++ (late_row entries ws ∷ [])) clear)
