-- `text::Text::decimal` meets its contract: what it puts is what the library printed of the number. Assumes nothing.
use mathlib.Core.Path.{refl, ◌∙◌}
use Rattle.text.proofs.Decimals.{grown, there_all}
use Rattle.text.proofs.Text.decimal.Goals as goal

pub put-requires : goal.put-requires
put-requires c = there_all c.ranges.n.fits (c.as_bytes.ensures.value ∙ c.format.ensures.text) refl _ c.requires

pub returns : goal.returns
returns c = grown c.ranges.n.fits (c.as_bytes.ensures.value ∙ c.format.ensures.text) refl c.put.ensures
