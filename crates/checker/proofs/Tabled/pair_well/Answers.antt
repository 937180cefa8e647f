-- `checker::Tabled::pair_well` meets its contract. Assumes nothing.
use Prim.Native.Nat.{◌<◌}
use Rattle.model.specs.Blocks.{F}
use Rattle.checker.proofs.Passed.{key_there, narrow_there, pair_used, pair_unused}
use Rattle.checker.proofs.Tabled.pair_well.Goals as goal
use Rattle.checker.proofs.Tabled.pair_well.Goals.{After-key}

key-low : (c : After-key) → c.key.result < F c.args.self.now.calls.pipeline.now
key-low c = key_there _ c.args.t c.args.j _ c.args.self.now.tables c.requires.t_bound (rw c.key_count.ensures at c.if-j-key_count.true) c.key.ensures

pub width-width-requires : goal.width-width-requires
width-width-requires c = record { i_bound = key-low c }

pub fits-requires : goal.fits-requires
fits-requires c = narrow_there _ c.key.result _ c.args.self.now.fields (key-low (goal.at.fits-requires c).After-key) c.width-width.ensures

pub returns-then-j-key_count : goal.returns-then-j-key_count
returns-then-j-key_count c =
    pair_used _ _ _ _ c.requires.own_table c.args.j c.width-width.result _ (rw c.key_count.ensures at c.if-j-key_count.true) (cc)
    (rw (c.fits.ensures, c.under.ensures, c.mask-mask.ensures, c.value-value.ensures))

pub returns-else-j-key_count : goal.returns-else-j-key_count
returns-else-j-key_count c =
    pair_unused _ _ _ _ c.requires.own_table c.args.j _ (rw c.key_count.ensures at c.if-j-key_count.false)
    (rw (c.value-value.ensures, c.mask-mask.ensures))
