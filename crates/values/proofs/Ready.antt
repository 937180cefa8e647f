-- What Check accepts is ready, with a packet within its widths; what that says of a field. Assumes nothing.
use Prim.Native.Nat.{ℕ, ◌<◌}
use mathlib.Core.Path.{◌≡◌}
use mathlib.Core.List.{List}
use lib.ListN.{get_or, length}
use Rattle.model.specs.Blocks.{F, width, widths}
use Rattle.model.specs.Good.{Within}
use Rattle.model.specs.Demands.{Accepted}
use Rattle.model.proofs.Lists.{length-each, each_at}
use Rattle.model.proofs.Within.{within-length}
use Rattle.model.proofs.Accepted.{accepted-good}
use Rattle.model.proofs.Uses.{accepted-children}
use Rattle.values.specs.Ready.{Ready}

pub ready : (p r packet : List ℕ) → Accepted p r → Within (widths p) packet → Ready p packet
ready p r packet e h =
    let good = accepted-good p r e in
    record { below = accepted-children p r e; narrow = good.widths_good; within = h }

module _ {p packet : List ℕ} (r : Ready p packet) {i : ℕ} (h : i < length (widths p)) where
  pub field_below : i < F p
  field_below = rw (length-each (width p) (F p)) at h

  pub field-width : get_or (widths p) i 0 ≡ width p i
  field-width = each_at (width p) (F p) i 0 field_below

  pub field-held : i < length packet
  field-held = rw (within-length (widths p) packet r.within) h
