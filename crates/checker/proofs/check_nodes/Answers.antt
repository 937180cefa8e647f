-- `checker::check_nodes` meets its contract. Assumes nothing.
use native.Mathlib.Omega.{arith}
use mathlib.Core.Path.{◌≡◌}
use Prim.Native.Nat.{ℕ, ◌-◌}
use lib.ListN.{take, drop}
use Rattle.std.specs.Prelude.{Option}
use Rattle.model.specs.Lists.{or_count}
use Rattle.model.specs.Blocks.{N}
use Rattle.model.specs.Refusals.{pipeline_sorts, node_row}
use Rattle.nodes.specs.Codes.{Coded}
use Rattle.checker.proofs.Passed.{narrow-words}
use Rattle.std.proofs.lemmas.Result.{on_ok_weaker}
use Rattle.checker.proofs.Sorts.{node_words, node_found, node_coded, coded-all}
use Rattle.checker.proofs.Judged.{on-pass}
use Rattle.checker.proofs.check_nodes.Goals as goal
use Rattle.checker.proofs.check_nodes.Goals.{After-first_malformed}

pub invariant_of-setting : goal.invariant_of-setting
invariant_of-setting c = record { narrow = narrow-words _ _ c.requires c.widths.ensures }

-- the words that are read are those that hold the nodes
part : (c : After-first_malformed)
    → take (c.node_place-2.result - c.node_place.result) (drop c.node_place.result c.words.result.now) ≡ node_words c.args.l.now.pipeline c.words.ensures.whole
part c = rw (c.node_place-2.ensures, c.node_count.ensures, c.node_place.ensures, c.words.ensures.value)

pub returns-clause-judged : goal.returns-clause-judged
returns-clause-judged c =
    let p = c.args.l.now.pipeline in
    let e = part (goal.at.returns-clause-judged c).After-first_malformed in
    c.refused_at.ensures (node_row p (pipeline_sorts p))
    (node_found p c.words.ensures.whole c.widths.ensures c.table_count.ensures e c.first_malformed.ensures.value) (λ i x e. rw e)

pub returns-clause-sorted : goal.returns-clause-sorted
returns-clause-sorted c =
    let p = c.args.l.now.pipeline in
    let whole = c.words.ensures.whole in
    let e = part (goal.at.returns-clause-sorted c).After-first_malformed in
    let found = node_found p whole c.widths.ensures c.table_count.ensures e c.first_malformed.ensures.value in
    let judged = c.refused_at.ensures (node_row p (pipeline_sorts p)) found (λ i x e. rw e) in
    let coded = node_coded p whole c.widths.ensures c.table_count.ensures e c.first_malformed.result c.first_malformed.ensures.coded in
    on_ok_weaker c.refused_at.result (λ h. coded-all p c.first_malformed.new.codes h (omega (arith, c.first_malformed.auto.codes)))
    (on-pass (node_row p (pipeline_sorts p)) c.refused_at.result judged found
    (λ (x : Option ℕ). Coded c.first_malformed.new.codes (pipeline_sorts p) (or_count (N p) x)) coded)
