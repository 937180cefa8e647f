-- The theorem over the words of the two blocks, for any join rule that has the laws: some valuation has the form go wrong exactly when some
-- packet and choice list make the run fail, and the packet and choices that are taken out of it do. Assumes nothing.
use Prim.Native.Nat.{ℕ, ◌+◌, ◌^◌, ◌≤◌, ◌<◌}
use native.Mathlib.Nat.{zero-add, le_refl, lt_of_lt_of_le}
use native.Mathlib.Omega.{arith}
use mathlib.Core.Path.{◌≡◌, refl, sym, ap, ◌∙◌, subst}
use mathlib.Core.Bool.{Bool, true, false}
use mathlib.Core.List.{List, [], map, append-nil}
use lib.Dec.{ltb}
use lib.ListN.{get_or, length, take, length-map, get_or-eq_default}
use lib.Seq.{ext_get_or, get_or-take, length-take-le, take_all}
use lib.Pow.{pow_pos}
use borrow.Author.Tests.{ltb-true, ltb-false}
use Rattle.model.specs.Lists.{each}
use Rattle.model.specs.Blocks.{F, widths}
use Rattle.model.specs.Trees.{bits_in}
use Rattle.model.specs.Good.{Within}
use Rattle.model.specs.Runs.{state, pipeline_run}
use Rattle.model.specs.Passive.{Vars, Form, JoinRule, packet_vars, passive_by}
use Rattle.model.specs.Emit.{emit}
use Rattle.model.specs.Walk.{goes_wrong, walk_wrong}
use Rattle.model.specs.Demands.{FailsWith}
use Rattle.model.proofs.Lists.{length-each, each_at}
use Rattle.model.proofs.GoodForms.{AllWidths, GoodPassive}
use Rattle.model.proofs.Within.{within-length, within-at, within_of}
use Rattle.model.proofs.Accepted.{WellFormed}
use Rattle.model.proofs.Renaming.{get_or_map}
use Rattle.model.proofs.Variables.{var, Front, front_refl, Ready}
use Rattle.model.proofs.Joins.{JoinLaws}
use Rattle.model.proofs.Valuations.{Fits}
use Rattle.model.proofs.Completeness.{Extends, Wrong, aim, Meets}
use Rattle.model.proofs.Tables.{exact-program}

-- the first values of a list, by place
first_values : (vs : List ℕ) (n : ℕ) → n ≤ length vs → map (λ x. get_or vs x 0) (each (λ i. i) n) ≡ take n vs
first_values vs n h =
    let v : ℕ → ℕ = λ x. get_or vs x 0 in
    let ids = each (λ i. i) n in
    ext_get_or 0 (map v ids) (take n vs) (length-map ids v ∙ length-each (λ i. i) n ∙ sym (length-take-le n vs h))
    (λ i k.
    let b : i < n = rw (length-map ids v, length-each (λ i. i) n) at k in
    get_or_map v ids i (rw length-each b) ∙ ap v (each_at (λ i. i) n i 0 b) ∙ sym (get_or-take n vs i 0 b))

module _ (p r : List ℕ) (w : WellFormed p r) (rule : JoinRule) (laws : JoinLaws rule) where
  abbrev whole : Form
  whole = passive_by p r rule

  abbrev all : List ℕ
  all = whole.after.widths

  abbrev start : Vars
  start = packet_vars p

  -- the packet is variables 0 to F - 1
  start_var : (i : ℕ) → i < length (widths p) → var start i ≡ i
  start_var i h = each_at (λ i. i) (F p) i 0 (rw w.widths_length at h)

  start-ready : Ready (widths p) start
  start-ready = record {
    size = length-each (λ i. i) (F p) ∙ sym w.widths_length;
    low = λ i h. rw (start_var i h) h;
    wide = λ i h. rw (start_var i h);
    apart = λ i j h k e. let z : ⊥ = omega (arith, start_var i (omega arith), start_var j k) in z;
    sized = w.widths_good;
  }

  front_start : Front (widths p) all
  unfolding passive_by
  front_start = ((exact-program p r w rule laws).steps start start-ready).front

  -- what Condition and Evaluate need: every variable's width is 1 to 32, and the form is well formed over them
  pub form-sized : AllWidths all
  unfolding passive_by
  form-sized = ((exact-program p r w rule laws).ready start start-ready).sized

  pub form-good : GoodPassive all whole.body
  unfolding passive_by
  form-good = (exact-program p r w rule laws).good all start start-ready (front_refl all)

  -- V is at most F + n
  pub variables-counted : length all ≤ F p + length (emit whole.body 0)
  unfolding passive_by
  variables-counted = omega (arith, (exact-program p r w rule laws).counted start start-ready 0, w.widths_length)

  abbrev packet_in : List ℕ → List ℕ
  packet_in valuation = take (length (widths p)) valuation

  abbrev choices_in : List ℕ → List ℕ
  choices_in valuation = walk_wrong (bits_in all valuation) whole.body

  module _ (valuation : List ℕ) (h : Within all valuation) where
    enough : length (widths p) ≤ length valuation
    enough = rw (within-length all valuation h) front_start.shorter

    pub packet-within : Within (widths p) (packet_in valuation)
    packet-within =
        within_of (widths p) (packet_in valuation) (length-take-le (length (widths p)) valuation enough)
        (λ i k. rw (get_or-take (length (widths p)) valuation i 0 k, ← front_start.same i k) (within-at all valuation h i))

    -- from every valuation at which the form goes wrong comes a run that fails, with no entry left over
    pub taken_fails : goes_wrong (bits_in all valuation) whole.body ≡ true
        → FailsWith p r (packet_in valuation) (choices_in valuation) (length (choices_in valuation))
    unfolding passive_by pipeline_run
    taken_fails o =
        let v : ℕ → ℕ = λ x. get_or valuation x 0 in
        let x = ((exact-program p r w rule laws).sound all v (within-at all valuation h) start start-ready (front_refl all)).wrong o in
        let c = choices_in valuation in
        let packet : map v (each (λ i. i) (F p)) ≡ packet_in valuation =
        first_values valuation (F p) (omega (arith, enough, w.widths_length)) ∙ ap (λ (n : ℕ). take n valuation) (sym w.widths_length) in
        (x.node, state x.last [] (length c), rw (packet, append-nil c, zero-add) at (x.fails [] 0), refl)

  -- from every run that fails comes a valuation at which the form goes wrong
  module _ (packet : List ℕ) (h : Within (widths p) packet) where
    size : length packet ≡ F p
    size = within-length (widths p) packet h ∙ w.widths_length

    abbrev first : ℕ → ℕ
    first x = get_or packet x 0

    first-packet : map first start.current ≡ packet
    first-packet = first_values packet (F p) (rw size (le_refl _)) ∙ take_all (F p) packet (rw size (le_refl _))

    first_fits : Fits all first
    first_fits x = go (ltb x (length (widths p))) refl
      where
        go : (b : Bool) → ltb x (length (widths p)) ≡ b → first x < 2 ^ get_or all x 0
        go true e = rw (front_start.same x (ltb-true _ _ e)) (within-at (widths p) packet h x)
        go false e =
            rw (get_or-eq_default packet 0 {n = x} (omega (arith, ltb-false x (length (widths p)) e, within-length (widths p) packet h))) (pow_pos (get_or all x 0))

    same-packet : (vs : List ℕ) → length vs ≡ length all → ((i : ℕ) → i < length (widths p) → get_or vs i 0 ≡ first i) → packet_in vs ≡ packet
    same-packet vs e is =
        let n = length (widths p) in
        let k : length (packet_in vs) ≡ n = length-take-le n vs (omega (arith, e, front_start.shorter)) in
        ext_get_or 0 (packet_in vs) packet (k ∙ sym (within-length (widths p) packet h)) (λ i b. get_or-take n vs i 0 (rw k at b) ∙ is i (rw k at b))

    -- the valuation holds the run's packet
    pub found_wrong : (choices : List ℕ) (used : ℕ) → FailsWith p r packet choices used
        → (valuation : List ℕ) × Within all valuation × (packet_in valuation ≡ packet) × (goes_wrong (bits_in all valuation) whole.body ≡ true)
    unfolding passive_by pipeline_run
    found_wrong choices used x =
        let c = ((exact-program p r w rule laws).complete all start start-ready (front_refl all)).meets first first_fits (state packet choices 0) first-packet in
        let m : Extends all start whole.after first (Wrong all (aim whole.body)) =
        subst (Meets all start whole.after (aim whole.body) first) x.2 c in
        let n = length all in
        let vs = each m.to n in
        let is : (y : ℕ) → y < n → get_or vs y 0 ≡ m.to y = λ y k. each_at m.to n y 0 k in
        let size = length-each m.to n in (
          vs,
          within_of all vs size (λ i k. rw (is i k) (m.to_fits i)),
          same-packet vs size (λ i k. is i (lt_of_lt_of_le k front_start.shorter) ∙ m.agrees i k),
          m.holds (λ y. get_or vs y 0) is,
        )
