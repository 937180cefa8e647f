-- What the statements without children do to a state. Assumes nothing.
use Prim.Native.Nat.{ℕ, ◌+◌, ◌^◌, ◌<◌, ◌≤◌}
use native.Mathlib.Numerals.{add-one}
use native.Mathlib.Omega.{arith}
use mathlib.Core.Path.{◌≡◌, refl, sym, ◌∙◌}
use mathlib.Core.Bool.{Bool, true, false}
use mathlib.Core.List.{List, ◌∷◌}
use borrow.Author.Tests.{ltb-true}
use lib.ListN.{length, get_or, set, take, drop, drop_of_length-le}
use lib.Seq.{drop-cons, take-set-lt}
use Rattle.bits.specs.Width.{fits}
use Rattle.model.specs.Lists.{word}
use Rattle.model.specs.Blocks.{F, widths, width}
use Rattle.model.specs.Trees.{Val, Stmt, bits_of, bits_in}
use Rattle.model.specs.Good.{Good, GoodValue}
use Rattle.model.specs.Runs.{run, no_apply, passed, put}
use Rattle.model.specs.declared.Bits.{Bits}
use Rattle.model.specs.declared.Refusal.{Refusal}
use Rattle.model.proofs.Lists.{length-each}
use Rattle.model.proofs.Within.{within-set}
use Rattle.values.specs.Ready.{Ready}
use Rattle.values.proofs.Ready.{field_below, field-width}
use Rattle.values.proofs.Fits.{fit}
use Rattle.states.specs.declared.State.{State as Held}
use Rattle.states.specs.declared.Ending.{Ending}
use Rattle.states.specs.declared.End.{End}
use Rattle.states.specs.States.{packet_in, held, state_in, end_of, EndsAs, RefusedAs}

-- an entry that is there is the first of those that are left
pub next-entry : (choices : List ℕ) (used : ℕ) → used < length choices → drop used choices ≡ word choices used ∷ drop (used + 1) choices
next-entry choices used l = rw (add-one used) (drop-cons choices used 0 l)

-- none is left
pub havoc_short : (p : List ℕ) (s : Held) (f : ℕ) (choices : List ℕ) → length choices ≤ s.used
    → RefusedAs (Refusal.Short s.used) (run (widths p) no_apply (Stmt.havoc f) (state_in p choices s))
unfolding run
havoc_short p s f choices k = rw (drop_of_length-le choices k)

module _ (p : List ℕ) (s : Held) (h : Ready p (packet_in p s)) where
  -- a value of a field's width is put there
  stored : (choices : List ℕ) (f n used : ℕ) (x : End) → f < F p → n < 2 ^ get_or (widths p) f 0 → x ≡ end_of (held (set s.packet f n) used) Ending.Passed
      → EndsAs p choices x (passed (put (state_in p choices (held s.packet used)) f n))
  stored choices f n used x l k d =
      let e : take (F p) (set s.packet f n) ≡ set (take (F p) s.packet) f n = take-set-lt (F p) s.packet f n l in
      rw d (record { outcome = rw e; within = rw e (within-set (widths p) (packet_in p s) f n h.within k) })

  module _ (f : ℕ) (v : Val) (good : Good (widths p) 0 (Stmt.assign f v)) where
    pub assigns_value : GoodValue (widths p) v
    unfolding Good
    assigns_value = good.1

    assigns_field : f < F p
    unfolding Good
    assigns_field = field_below h good.0

    pub assigns_place : F p ≤ 32 → f < 32
    assigns_place k = omega (arith, assigns_field)

    pub assigned : {ws : List ℕ} {y : Bits} {z : Held} (x : End) → ws ≡ packet_in p s → y ≡ bits_of (bits_in (widths p) ws) v
        → z ≡ held (set s.packet f y.number) s.used → x ≡ end_of z Ending.Passed
        → (choices : List ℕ) → EndsAs p choices x (run (widths p) no_apply (Stmt.assign f v) (state_in p choices s))
    unfolding run Good
    assigned x d b g i choices =
        let bits = fit h v assigns_value refl in
        let own : x ≡ end_of (held (set s.packet f (bits_of (bits_in (widths p) (packet_in p s)) v).number) s.used) Ending.Passed = rw (i, g, b, d) in
        stored choices f _ s.used x assigns_field (rw (← good.2, ← bits.wide) bits.below) own

  -- ---- a havoc

  module _ (f : ℕ) (l : f < F p) where
    there : f < length (widths p)
    there = rw (length-each (width p) (F p)) l

    pub width_narrow : {w : ℕ} → w ≡ width p f → w ≤ 32
    width_narrow e = rw (e, ← field-width h there) (h.narrow f there).1

    module _ (choices : List ℕ) where
      module _ (k : s.used < length choices) {w entry : ℕ} {u : Bool} (e : w ≡ width p f) (d : entry ≡ word choices s.used) (b : u ≡ fits w entry) where
        fits-field : fits (get_or (widths p) f 0) (word choices s.used) ≡ u
        fits-field = rw (field-width h there, ← e, ← d, b)

        pub havoc_wrong : u ≡ false → RefusedAs (Refusal.Entry s.used) (run (widths p) no_apply (Stmt.havoc f) (state_in p choices s))
        unfolding run
        havoc_wrong q = rw (next-entry choices s.used k, fits-field, q)

        pub havoc_taken : u ≡ true → {y z : Held} → y ≡ held (set s.packet f entry) s.used → z ≡ held y.packet (y.used + 1)
            → (x : End) → x ≡ end_of z Ending.Passed → EndsAs p choices x (run (widths p) no_apply (Stmt.havoc f) (state_in p choices s))
        unfolding run
        havoc_taken q g j x i =
            let fit : entry < 2 ^ get_or (widths p) f 0 = rw (field-width h there, ← e) (ltb-true entry (2 ^ w) (sym b ∙ q)) in
            let own : x ≡ end_of (held (set s.packet f entry) (s.used + 1)) Ending.Passed = rw (i, j, g) in
            rw (next-entry choices s.used k, fits-field, q, ← d, ← add-one s.used) (stored choices f entry (s.used + 1) x l fit own)
