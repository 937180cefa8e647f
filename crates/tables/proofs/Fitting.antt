-- What Check accepts, with a packet within its widths, is what a lookup relies on. Assumes nothing.
use Prim.Native.Nat.{ℕ, ◌<◌}
use native.Mathlib.Omega.{arith}
use mathlib.Core.Path.{◌≡◌, ◌∙◌}
use mathlib.Core.List.{List}
use lib.ListN.{length}
use Rattle.model.specs.Blocks.{F, T, R, width, widths, key_count, key, table_of}
use Rattle.model.specs.Good.{Within}
use Rattle.model.specs.Demands.{Accepted}
use Rattle.model.proofs.Lists.{length-each}
use Rattle.model.proofs.Within.{within-length}
use Rattle.model.proofs.Accepted.{rows, counts, table_fits, rule_fits}
use Rattle.tables.specs.Fitting.{Fitting}

pub fitting : (p r packet : List ℕ) → Accepted p r → Within (widths p) packet → Fitting p r packet
fitting p r packet e h =
    let checked = rows p r e in
    let sized = within-length (widths p) packet h ∙ length-each (width p) (F p) in
    record {
      whole = (counts p r checked.two).pipeline_words;
      tables = λ i k. (rule_fits p r checked i k).0;
      keys = λ t k. (table_fits p r checked t k).0;
      fields = λ t j k l. rw sized ((table_fits p r checked t k).1 j l);
    }

-- what a key's comparison reads is there
module _ (p r packet : List ℕ) (f : Fitting p r packet) (i t : ℕ) (h : i < R r) (e : t ≡ table_of r i) where
  pub table_there : t < T p
  table_there = rw e (f.tables i h)

  module _ (j : ℕ) (k : j < key_count p t) where
    pub few-keys : j < 4
    few-keys = omega (arith, f.keys t table_there)

    pub field_there : (x field : ℕ) → x ≡ field → field ≡ key p t j → x < length packet
    field_there x field d q = rw (d, q) (f.fields t j table_there k)

pub ruleset there = (table_there, few-keys, field_there)
