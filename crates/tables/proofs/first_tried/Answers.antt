-- `tables::first_tried` meets its contract. Assumes nothing.
use native.Mathlib.Omega.{arith}
use mathlib.Core.Path.{◌≡◌, sym, ◌∙◌}
use Rattle.std.specs.Prelude.{Some}
use Rattle.tables.proofs.Scan.{none_below, of_another, taken, missed, later, found_last, found_settled}
use Rattle.tables.proofs.first_tried.Goals as goal
use Rattle.tables.proofs.first_tried.Goals.{then-table_of-t+then-precedes+then-candidate, else-table_of-t, else-table_of-t-via-then-table_of-t+then-precedes+else-candidate, else-table_of-t-via-then-table_of-t+else-precedes, else-table_of-t-via-else-table_of-t}

pub loop-i-init : goal.loop-i-init
loop-i-init g c = record { found = λ b h z. none_below c.args.r.now c.args.t b c.args.start z; below = λ j e. absurd (cc) }

pub loop-i-preserved : goal.loop-i-preserved
loop-i-preserved g c = record {
  found = λ b h z. let e = c.loop-i.invariant.found b h z in
      elim c.if-table_of-t.branch [
        | then-table_of-t+then-precedes+then-candidate w ↦
            w.best-is ∙ taken _ _ b _ _ e (cc) (cc) (sym (h _ _ (omega arith) w.candidate.ensures) ∙ w.if-candidate.true)
        | else-table_of-t w ↦ w.best-is ∙ elim w.else-table_of-t.branch [
          | else-table_of-t-via-then-table_of-t+then-precedes+else-candidate v ↦
              missed _ _ b _ _ e (cc) (cc) (sym (h _ _ (omega arith) v.candidate.ensures) ∙ v.if-candidate.false)
          | else-table_of-t-via-then-table_of-t+else-precedes v ↦ later _ _ b _ _ e (cc) (cc)
          | else-table_of-t-via-else-table_of-t v ↦ of_another _ _ b _ _ e (λ q. v.if-table_of-t.false (c.table_of.ensures ∙ q))
        ]
      ];
  below = λ j e. elim c.if-table_of-t.branch [
    | then-table_of-t+then-precedes+then-candidate w ↦ let same : Some c.loop-i.i ≡ Some j = sym w.best-is ∙ e in (let k : c.loop-i.i ≡ j = cc in omega arith)
    | else-table_of-t w ↦ omega (arith, c.loop-i.invariant.below j (sym w.best-is ∙ e))
  ];
}

pub returns-then-settled : goal.returns-then-settled
returns-then-settled g c =
    λ b h z. found_settled _ _ b c.loop-i.best c.loop-i.i (omega arith) (c.loop-i.invariant.found b h z) (c.settled.ensures c.if-settled.true)

pub returns : goal.returns
returns g c = λ b h z. found_last _ _ b c.loop-i.best c.loop-i.i (omega arith) (c.loop-i.invariant.found b h z)
