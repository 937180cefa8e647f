-- `values::field_bits` meets its contract. Assumes nothing.
use Rattle.values.proofs.Ready.{field_below, field-held, field-width}
use Rattle.values.proofs.field_bits.Goals as goal

pub width-requires : goal.width-requires
width-requires c = record { i_bound = field_below c.requires.ready c.requires.i_in_bounds }

pub bounds-packet-at : goal.bounds-packet-at
bounds-packet-at c = field-held c.requires.ready c.requires.i_in_bounds

pub returns : goal.returns
returns c = cc (field-width c.requires.ready c.requires.i_in_bounds)
