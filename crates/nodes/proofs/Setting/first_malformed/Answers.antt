-- `nodes::Setting::first_malformed` meets its contract: every node before `i` is formed, and its sort stands in its place. Assumes nothing.
use native.Mathlib.Omega.{arith}
use mathlib.Core.Path.{◌≡◌}
use Rattle.nodes.proofs.Kept.{kept_none, kept_stop, kept_more, kept_end}
use Rattle.model.specs.Condition.{node_count}
use Rattle.nodes.proofs.Setting.first_malformed.Goals as goal

pub loop-i-init : goal.loop-i-init
loop-i-init c = kept_none _ _ _ _ _

pub returns-then-not-is_formed : goal.returns-then-not-is_formed
returns-then-not-is_formed c = record {
  value = kept_stop c.loop-i.invariant c.loop-i-test.true (omega arith) c.node_at-n.ensures
      (c.sort_of-sort.ensures _ c.sort_in.ensures c.sort_in-in-loop-i.ensures c.sort_in-in-loop-i-2.ensures) _ c.is_formed.ensures c.if-not-is_formed.true;
  coded = c.loop-i.invariant.coded;
}

pub loop-i-preserved : goal.loop-i-preserved
loop-i-preserved c = kept_more c.loop-i.invariant c.loop-i-test.true (omega arith) c.node_at-n.ensures
    (c.sort_of-sort.ensures _ c.sort_in.ensures c.sort_in-in-loop-i.ensures c.sort_in-in-loop-i-2.ensures) _ c.is_formed.ensures c.if-not-is_formed.false

pub returns : goal.returns
returns c = let e : c.loop-i.i ≡ node_count c.args.nodes.now = omega arith in
    record { value = kept_end c.loop-i.invariant e; coded = rw e at c.loop-i.invariant.coded }
