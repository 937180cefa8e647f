-- `passive::passify_checked` meets its contract. Assumes nothing.
use mathlib.Core.Path.{refl}
use Rattle.passive.proofs.Formed.{too_large, no-node-room, no-width-room, passes}
use Rattle.passive.proofs.passify_checked.Goals as goal

pub returns-then-need-gt-LIMIT : goal.returns-then-need-gt-LIMIT
returns-then-need-gt-LIMIT c = too_large c.args.p.now.pipeline c.args.p.now.rules c.args.nodes.now c.args.widths.now c.args.p.now.accepted c.form_in-need.ensures.counts c.if-need-gt-LIMIT.true

pub returns-then-nodes-count : goal.returns-then-nodes-count
returns-then-nodes-count c = no-node-room c.args.p.now.pipeline c.args.p.now.rules c.args.nodes.now c.args.widths.now c.args.p.now.accepted c.form_in-need.ensures.counts c.if-need-gt-LIMIT.false refl c.if-nodes-count.true

pub returns-then-widths-variables : goal.returns-then-widths-variables
returns-then-widths-variables c = no-width-room c.args.p.now.pipeline c.args.p.now.rules c.args.nodes.now c.args.widths.now c.args.p.now.accepted c.form_in-need.ensures.counts c.if-need-gt-LIMIT.false c.if-nodes-count.false refl c.if-widths-variables.true

pub returns : goal.returns
returns c = passes c.args.p.now.pipeline c.args.p.now.rules c.args.nodes.now c.args.widths.now c.args.p.now.accepted c.form_in-need.ensures.counts c.if-need-gt-LIMIT.false c.if-nodes-count.false refl refl c.if-widths-variables.false c.form_in.ensures.leaves
