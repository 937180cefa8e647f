-- The variables that the form starts from, the whole form, and what Passify then answers. Assumes nothing.
use Prim.Native.Nat.{ℕ, suc, ◌+◌, ◌*◌, ◌≤◌, ◌<◌}
use native.Mathlib.Nat.{zero-add}
use native.Mathlib.Decide.{dec_le}
use native.Mathlib.Numerals.{add-one}
use native.Mathlib.Omega.{arith}
use mathlib.Core.Path.{◌≡◌, refl, sym, ap, ◌∙◌}
use mathlib.Core.Bool.{true, false}
use mathlib.Core.List.{List, [], ◌∷◌, ◌++◌}
use borrow.Author.Tests.{le-leb, lt-leb}
use lib.Dec.{leb}
use lib.ListN.{set, length, take, length-set}
use lib.Seq.{take-set-le, take-suc-set}
use Rattle.std.specs.Prelude.{Ok, Err}
use Rattle.model.specs.Lists.{each}
use Rattle.model.specs.Blocks.{F, root, width, widths}
use Rattle.model.specs.Passive.{packet_vars, passive_by}
use Rattle.model.specs.Emit.{Emitted, form_limit, past, passive_form}
use Rattle.model.specs.Answers.{done, refused, after}
use Rattle.model.specs.Refusals.{Row, judge, room, check_rows}
use Rattle.model.specs.Calls.{over, check, large_row, passify, Passifies, Checks}
use Rattle.model.specs.Demands.{Accepted}
use Rattle.model.specs.declared.Refusal.{Refusal}
use Rattle.model.proofs.Lists.{length-each}
use Rattle.model.proofs.NodeList.{length-words}
use Rattle.model.proofs.First.{once_stop, once-on, judge-append}
use Rattle.model.proofs.Passing.{passed_on, tells_on, check_refuses}
use Rattle.pieces.proofs.Pieces.{alone}
use Rattle.actions.specs.Scopes.{program_scope}
use Rattle.variables.specs.declared.Vars.{Vars as Held}
use Rattle.variables.specs.declared.place.Made.{Made}
use Rattle.variables.specs.Variables.{Holds, few}
use Rattle.forms.specs.Writes.{Writes, form_of}
use Rattle.passive.specs.Formed.{Counts, Leaves}

-- ---- the variables before the form

-- the first i fields have their own numbers
pub record Numbered (current : List ℕ) (i : ℕ) : Type 0 where
  pub most : i ≤ 32
  pub all : length current ≡ 32
  pub first : (n : ℕ) → n ≤ i → take n current ≡ each (λ j. j) n

pub none_numbered : (current : List ℕ) → length current ≡ 32 → Numbered current 0
unfolding each
none_numbered current h = record { most = omega arith; all = h; first = λ n k. let z : n ≡ 0 = omega arith in rw z }

pub more_numbered : (current : List ℕ) (i : ℕ) → Numbered current i → i < 32 → Numbered (set current i i) (i + 1)
unfolding each
more_numbered current i d h = record {
  most = omega arith;
  all = simp length-set d.all;
  first = λ n k.
      elim (dec_le n i) [
        | yes l ↦ take-set-le n current i i l ∙ d.first n l
        | no l ↦
            let z : n ≡ suc i = omega (arith, add-one i) in
            rw z (take-suc-set current i i (omega (arith, d.all)) ∙ ap (λ (xs : List ℕ). xs ++ (i ∷ [])) (d.first i (omega arith)))
      ];
}

pub few-first : {fields next : ℕ} → fields ≤ 32 → next ≡ fields → few 0 next
few-first h e = omega (arith, e)

-- ---- the whole form

module _ (p r : List ℕ) (accepted : Accepted p r) where
  -- the fields' widths are the first that stand in the area
  packet-holds : {v : Held} (lent area : List ℕ) → take (F p) v.current ≡ each (λ i. i) (F p) → v.next ≡ F p
      → (length (widths p) ≤ length lent → area ≡ over (widths p) lent) → length area ≡ length lent
      → Holds p lent area v (packet_vars p)
  packet-holds lent area c n w same =
      let long = length-each (width p) (F p) in
      record { current = c; new = n ∙ sym long; widths = w; same = same }

  abbrev whole : Emitted
  whole = passive_form p r

  behind : past 0 whole.nodes ≡ length whole.nodes
  behind = zero-add (length whole.nodes)

  module _ (lent area : List ℕ) {v : Held} {nodes nodes' area' : List ℕ} {m : Made} (c : take (F p) v.current ≡ each (λ i. i) (F p)) (n : v.next ≡ F p)
      (ws : List ℕ) (is : ws ≡ widths p) (w : length ws ≤ length lent → area ≡ over ws lent) (same : length area ≡ length lent)
      {f : 0 ≤ form_limit → few 0 v.next} (g : Writes p (form_of p r program_scope (root p)) (record { at = 0; vars = v; few_variables = f }) nodes nodes' area area' m) where
    holds : Holds p lent area v (packet_vars p)
    holds = packet-holds lent area c n (rw is at w) same

    pub form-counts : Counts whole m
    unfolding passive_form passive_by
    form-counts =
        let e = alone (g.emitted lent (packet_vars p) holds) in
        record {
          count = λ h. e.exact (omega (arith, behind)) ∙ behind;
          large = λ h. e.large (omega (arith, behind));
          variables = λ h. (g.holds lent (packet_vars p) holds (omega (arith, e.exact (omega (arith, behind)), behind))).new;
        }

    pub form_leaves : Leaves whole nodes nodes' lent area'
    unfolding passive_form passive_by
    form_leaves =
        let e = alone (g.emitted lent (packet_vars p) holds) in
        record {
          nodes_area = λ h k. e.wrote (omega (arith, behind)) (omega (arith, length-words whole.nodes));
          widths_area = λ h. (g.holds lent (packet_vars p) holds (omega (arith, e.exact (omega (arith, behind)), behind))).widths;
        }

-- ---- what Passify answers

module _ (p r nodes area : List ℕ) where
  abbrev form : Emitted
  form = passive_form p r

  abbrev node_row : Row
  node_row = room (λ _. 4 * length form.nodes) (length nodes)

  abbrev width_row : Row
  width_row = room (λ _. length form.widths) (length area)

  module _ (accepted : Accepted p r) where
    -- Check's rows are passed
    checked-on : passify p r (length nodes) (length area) ≡ after (judge (large_row p r ∷ node_row ∷ width_row ∷ [])) (λ _. done form)
    unfolding passify check
    checked-on = rw (judge-append (check_rows p r) (large_row p r ∷ node_row ∷ width_row ∷ []), accepted)

    refuses : (place : ℕ) → judge (large_row p r ∷ node_row ∷ width_row ∷ []) ≡ refused 12 place
        → Passifies p r nodes area (Err (Refusal.Room place)) nodes area
    refuses place e =
        let given : passify p r (length nodes) (length area) ≡ refused 12 place = rw (checked-on, e) in
        record { answers = rw given; nodes_area = rw given; widths_area = rw given }

    module _ {m : Made} (c : Counts form m) where
      small : m.at ≤ form_limit → length form.nodes ≤ form_limit
      small h = elim (dec_le (length form.nodes) form_limit) [ yes k ↦ k | no k ↦ let l = c.large (omega arith) in omega arith ]

      pub too_large : form_limit < m.at → Passifies p r nodes area (Err (Refusal.Room 0)) nodes area
      too_large h =
          let big : form_limit < length form.nodes =
          elim (dec_le (length form.nodes) form_limit) [ yes k ↦ let l = c.count k in omega arith | no k ↦ omega arith ] in
          refuses 0
          (once_stop 12 (node_row ∷ width_row ∷ []) (λ _. leb (length form.nodes) form_limit) (λ _. 0) false (sym (lt-leb (length form.nodes) form_limit big)) refl)

      module _ (h : m.at ≤ form_limit) where
        large-on : judge (large_row p r ∷ node_row ∷ width_row ∷ []) ≡ judge (node_row ∷ width_row ∷ [])
        large-on =
            once-on 12 (node_row ∷ width_row ∷ []) (λ _. leb (length form.nodes) form_limit) (λ _. 0) true
            (sym (le-leb (length form.nodes) form_limit (small h))) refl

        -- the need is what was counted
        pub no-node-room : {need : ℕ} → need ≡ 4 * m.at → length nodes < need → Passifies p r nodes area (Err (Refusal.Room need)) nodes area
        no-node-room {need} e k =
            let words : need ≡ 4 * length form.nodes = e ∙ ap (λ n. 4 * n) (c.count (small h)) in
            rw words
            (refuses (4 * length form.nodes)
            (large-on
            ∙ once_stop 12 (width_row ∷ []) (λ _. leb (4 * length form.nodes) (length nodes)) (λ _. 4 * length form.nodes) false
            (sym (lt-leb (4 * length form.nodes) (length nodes) (omega (arith, words)))) refl))

        module _ (k : 4 * m.at ≤ length nodes) where
          nodes-on : judge (large_row p r ∷ node_row ∷ width_row ∷ []) ≡ judge (width_row ∷ [])
          nodes-on =
              large-on
              ∙ once-on 12 (width_row ∷ []) (λ _. leb (4 * length form.nodes) (length nodes)) (λ _. 4 * length form.nodes) true
              (sym (le-leb (4 * length form.nodes) (length nodes) (omega (arith, c.count (small h))))) refl

          pub no-width-room : {need : ℕ} → need ≡ m.vars.next → length area < need → Passifies p r nodes area (Err (Refusal.Room need)) nodes area
          no-width-room {need} e l =
              let count : need ≡ length form.widths = e ∙ c.variables (small h) in
              rw count
              (refuses (length form.widths)
              (nodes-on
              ∙ once_stop 12 [] (λ _. leb (length form.widths) (length area)) (λ _. length form.widths) false
              (sym (lt-leb (length form.widths) (length area) (omega (arith, count)))) refl))

          pub passes : {nodes' area' : List ℕ} {n v : ℕ} → n ≡ m.at → v ≡ m.vars.next → v ≤ length area → Leaves form nodes nodes' area area'
              → Passifies p r nodes area (Ok (record { nodes = n; variables = v })) nodes' area'
          unfolding judge
          passes {nodes'} {area'} e d l w =
              let i = small h in
              let q = c.variables i in
              let given : passify p r (length nodes) (length area) ≡ done form =
              rw (
                checked-on,
                nodes-on,
                once-on 12 [] (λ _. leb (length form.widths) (length area)) (λ _. length form.widths) true
                    (sym (le-leb (length form.widths) (length area) (omega (arith, d, q)))) refl,
              ) in
              record {
                answers = rw (given, e ∙ c.count i, d ∙ q);
                nodes_area = rw given (w.nodes_area i (omega (arith, c.count i)));
                widths_area = rw given (w.widths_area i (omega (arith, d, q)));
              }

  -- a refusal of Check is passed on
  pub check-refused : (x : Refusal) → Checks p r (Err x) → Passifies p r nodes area (Err x) nodes area
  unfolding passify
  check-refused x h =
      let f = check_refuses p r x h in
      let more = large_row p r ∷ node_row ∷ width_row ∷ [] in
      let given = passed_on x (check_rows p r) f more (λ _. done form) in
      record { answers = tells_on x (check_rows p r) f more _ (λ _. done form); nodes_area = rw given; widths_area = rw given }
