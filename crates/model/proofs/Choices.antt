-- Completeness of a choice, over the join rule: the joined variables are given the values of the side that ran. Assumes nothing.
use Prim.Native.Nat.{ℕ, zero, suc, ◌^◌, ◌≤◌, ◌<◌}
use native.Mathlib.Nat.{le_refl, le_trans}
use native.Mathlib.Omega.{arith}
use mathlib.Core.Path.{◌≡◌, refl, sym, ap, ◌∙◌}
use mathlib.Core.Bool.{Bool, true, false, not, ◌&&◌}
use mathlib.Core.List.{List, [], ◌∷◌, map}
use mathlib.Core.Logic.{◌⊎◌, inl, inr, ◌≢◌}
use lib.Dec.{eqb}
use lib.ListN.{get_or, length, length-map}
use lib.Seq.{ext_get_or}
use borrow.Author.Tests.{eqb-true, eqb-false}
use Rattle.std.specs.Prelude.{if◌then◌else◌}
use Rattle.model.specs.Trees.{Test, truth_of}
use Rattle.model.specs.Runs.{State, state, Outcome, passed, failed, blocked, refused}
use Rattle.model.specs.Passive.{Passive, Origin, Vars, next, beside, Form, JoinRule, equations, join, ◌then◌}
use Rattle.model.specs.Walk.{equal, goes_on, goes_wrong}
use Rattle.model.proofs.Booleans.{true_both, or_left, or_right}
use Rattle.model.proofs.GoodForms.{AllWidths}
use Rattle.model.proofs.Renaming.{get_or_map}
use Rattle.model.proofs.Variables.{var, Front, front_trans, front_append, Ready}
use Rattle.model.proofs.Joins.{JoinLaws, joined_after, joined_front, TwoSides, ready-joined, steps_joined, left_apart, right_apart}
use Rattle.model.proofs.Equations.{var_bits, map-equal}
use Rattle.model.proofs.Runs.{Run, either_of, whether}
use Rattle.model.proofs.Valuations.{Agree, agree_refl, agree_less, agree_trans, settled, settled_keeps, settled_at, Fits, settled_fits}
use Rattle.model.proofs.Completeness.{Extends, aim, side_aim, On, Meets, Complete, weaker, still, packet-at, packet-fits}

-- the joined variables' places and widths, where `widths` are those of all variables
module _ (ws widths : List ℕ) (rule : JoinRule) (laws : JoinLaws rule) (sizes : AllWidths ws) (e l r : Vars) (s : TwoSides ws e l r)
    (front : Front (joined_after ws rule e l r).widths widths) where
  abbrev after : Vars
  after = joined_after ws rule e l r

  abbrev zs : List ℕ
  zs = after.current

  ready : Ready ws after
  ready = ready-joined ws rule laws sizes e l r s

  front_right : Front r.widths widths
  front_right = joined_front ws rule e l r widths front

  front_left : Front l.widths widths
  front_left = front_trans s.right.front front_right

  n_right : next r ≤ next after
  n_right = (front_append r.widths _).shorter

  n_left : next l ≤ next r
  n_left = s.right.front.shorter

  n_before : next e ≤ next l
  n_before = s.left.front.shorter

  -- values that fit the fields fit the joined variables
  fit : (packet : List ℕ) → ((i : ℕ) → i < length ws → get_or packet i 0 < 2 ^ get_or ws i 0)
      → (i : ℕ) → i < length zs → get_or packet i 0 < 2 ^ get_or widths (get_or zs i 0) 0
  fit packet f i h =
      let b : i < length ws = rw ready.size at h in
      rw (front.same (var after i) (ready.low i b), ready.wide i b) (f i b)

  -- a variable that the side `x` sees and the join takes is the side's own, or has its value already
  abbrev Seen : Vars → (ℕ → ℕ) → List ℕ → Type 0
  Seen x to packet = (y : ℕ) → y < next x → (i : ℕ) → i < length zs → y ≡ get_or zs i 0 → (get_or zs i 0 ≡ var x i) ⊎ (to y ≡ get_or packet i 0)

  -- a side's valuation, with the joined variables given the packet's values
  settle : (x : Vars) → Ready ws x → Front x.widths widths → next e ≤ next x → next x ≤ next after → (q : Passive) (v to : ℕ → ℕ) (packet : List ℕ)
      → Fits widths to → Agree (next e) v to → ((w : ℕ → ℕ) → Agree (next x) to w → On widths x (aim q) packet w) → Seen x to packet
      → Extends widths e after v (On widths after (side_aim q (equations x.current zs)) packet)
  settle x kx fx n₁ n₂ q v to packet f a m seen =
      let now = (m to (agree_refl to _)).1 in
      let to' = settled to x.current zs packet in
      let stays : Agree (next x) to to' = λ y h. settled_keeps to x.current zs packet y (seen y h) in
      let size : length zs ≡ length ws = ready.size in
      let packet-size : length packet ≡ length ws = sym (ap length now) ∙ length-map x.current to ∙ kx.size in
      let is : (i : ℕ) → i < length zs → to' (get_or zs i 0) ≡ get_or packet i 0 =
      λ i h. settled_at to x.current zs packet i h (kx.size ∙ sym size) (packet-size ∙ sym size) (λ j k b c. ready.apart j k b (rw size at c))
      (λ _. sym (packet-at ws widths x kx fx to packet now i (rw size at h))) in
      record {
        to = to';
        to_fits = settled_fits widths to x.current zs packet f (fit packet (packet-fits ws widths x kx fx to packet now f));
        agrees = agree_trans n₁ a stays;
        holds = λ w b.
            let y = m w (agree_trans n₂ stays b) in
            let eq : map w zs ≡ packet =
            ext_get_or 0 (map w zs) packet (length-map zs w ∙ size ∙ sym packet-size)
            (λ i h. let k : i < length zs = rw (length-map zs w) at h in get_or_map w zs i k ∙ b (get_or zs i 0) (ready.low i (rw size at k)) ∙ is i k) in
            (true_both _ _ y.0 (map-equal widths w x.current zs (y.1 ∙ sym eq)), eq);
      }

  seen_left : (to : ℕ → ℕ) (packet : List ℕ) → Seen l to packet
  seen_left to packet y h i b x = go (left_apart ws rule laws sizes e l r s i (rw ready.size at b))
    where
      go : (var after i ≡ var l i) ⊎ (next l ≤ var after i) → (get_or zs i 0 ≡ var l i) ⊎ (to y ≡ get_or packet i 0)
      go (inl z) = inl z
      go (inr z) = let c : ⊥ = omega (arith, h, x) in absurd c

  in_first : (p : Passive) (v : ℕ → ℕ) (o : Outcome) → Meets widths e l (aim p) v o → Meets widths e after (side_aim p (equations l.current zs)) v o
  in_first p v (passed t) m =
      settle l s.left_ready front_left n_before (le_trans n_left n_right) p v m.to t.packet m.to_fits m.agrees m.holds
      (seen_left m.to t.packet)
  in_first p v (failed k t) m =
      record { to = m.to; to_fits = m.to_fits; agrees = m.agrees; holds = λ w a. m.holds w (agree_less (le_trans n_left n_right) a) }
  in_first p v (blocked k t) m = tt
  in_first p v (refused number place) m = tt

  -- The right side doesn't see the variables that the left brought: those that the join takes from there are given their values before it
  -- runs. `last` is the packet that it ends with.
  module _ (v : ℕ → ℕ) (last : List ℕ) (last_Fits : (i : ℕ) → i < length ws → get_or last i 0 < 2 ^ get_or ws i 0) (last-size : length last ≡ length ws) where
    prepared : ℕ → ℕ
    prepared = settled v r.current zs last

    Apart : ℕ → Type 0
    Apart i = (var after i ≡ var r i) ⊎ (((next e ≤ var after i) × (var after i < next l)) ⊎ (next r ≤ var after i))

    apart_at : (i : ℕ) → i < length zs → Apart i
    unfolding Apart
    apart_at i h = right_apart ws rule laws sizes e l r s i (rw ready.size at h)

    prepared_agrees : Agree (next e) v prepared
    unfolding prepared Apart
    prepared_agrees y h = settled_keeps v r.current zs last y (λ i b x. go i x (apart_at i b))
      where
        go : (i : ℕ) → y ≡ get_or zs i 0 → Apart i → (get_or zs i 0 ≡ var r i) ⊎ (v y ≡ get_or last i 0)
        go i x (inl z) = inl z
        go i x (inr (inl z)) = let c : ⊥ = omega (arith, h, x, z.0) in absurd c
        go i x (inr (inr z)) = let c : ⊥ = omega (arith, h, x, n_before, n_left) in absurd c

    prepared_fits : Fits widths v → Fits widths prepared
    unfolding prepared
    prepared_fits f = settled_fits widths v r.current zs last f (fit last last_Fits)

    prepared_at : (i : ℕ) → i < length zs → get_or zs i 0 ≢ var r i → prepared (get_or zs i 0) ≡ get_or last i 0
    unfolding prepared
    prepared_at i h d =
        let size = ready.size in
        settled_at v r.current zs last i h (s.right_ready.size ∙ sym size) (last-size ∙ sym size) (λ j k b c. ready.apart j k b (rw size at c)) (λ x. absurd (d x))

    seen_right : (to : ℕ → ℕ) → Agree (next l) prepared to → Seen r to last
    unfolding Apart
    seen_right to a y h i b x = go (eqb (get_or zs i 0) (var r i)) refl (apart_at i b)
      where
        go : (t : Bool) → eqb (get_or zs i 0) (var r i) ≡ t → Apart i → (get_or zs i 0 ≡ var r i) ⊎ (to y ≡ get_or last i 0)
        go true d z = inl (eqb-true _ _ d)
        go false d (inl z) = inl z
        go false d (inr (inl z)) = inr (rw x (a (get_or zs i 0) z.1 ∙ prepared_at i b (eqb-false _ _ d)))
        go false d (inr (inr z)) = let c : ⊥ = omega (arith, h, x) in absurd c

  in_second : (q : Passive) (v : ℕ → ℕ) → Fits widths v → (packet : List ℕ) → map v e.current ≡ packet → (o : Outcome)
      → ((u : ℕ → ℕ) → Fits widths u → map u e.current ≡ packet → Meets widths (beside e l) r (aim q) u o)
      → Meets widths e after (side_aim q (equations r.current zs)) v o
  in_second q v f packet eq (passed t) rec =
      let first = rec v f eq in
      let now = (first.holds first.to (agree_refl first.to _)).1 in
      let lf = packet-fits ws widths r s.right_ready front_right first.to t.packet now first.to_fits in
      let ls : length t.packet ≡ length ws = sym (ap length now) ∙ length-map r.current first.to ∙ s.right_ready.size in
      let agrees = prepared_agrees v t.packet lf ls in
      let here = still ws widths e s.before (front_trans s.left.front front_left) v packet eq _ agrees in
      let m = rec (prepared v t.packet lf ls) (prepared_fits v t.packet lf ls f) here in
      settle r s.right_ready front_right (le_trans n_before n_left) n_right q v m.to t.packet m.to_fits (agree_trans n_before agrees m.agrees) m.holds
      (seen_right v t.packet lf ls m.to m.agrees)
  in_second q v f packet eq (failed k t) rec =
      let m = rec v f eq in
      record { to = m.to; to_fits = m.to_fits; agrees = agree_less n_before m.agrees; holds = λ w a. m.holds w (agree_less n_right a) }
  in_second q v f packet eq (blocked k t) rec = tt
  in_second q v f packet eq (refused number place) rec = tt

-- the whole choice
module _ (ws widths : List ℕ) (rule : JoinRule) (laws : JoinLaws rule) (sizes : AllWidths ws) (e : Vars) (l r : Form)
    (s : TwoSides ws e l.after r.after) where
  abbrev both : Origin → Passive → Passive → Form
  both o p q = join ws rule o e p l.after q r.after

  abbrev Joined : Origin → Passive → Passive → (ℕ → ℕ) → Outcome → Type 0
  Joined o p q v out = Meets widths e (both o p q).after (aim (both o p q).body) v out

  module _ (o : Origin) (p q : Passive) (front : Front (both o p q).after.widths widths) (v : ℕ → ℕ) where
    longer : next e ≤ next (both o p q).after
    unfolding join
    longer = (steps_joined ws rule laws sizes e l.after r.after s).front.shorter

    by_first : (out : Outcome) → Meets widths e l.after (aim p) v out → Joined o p q v out
    unfolding join goes_on goes_wrong
    by_first out m =
        weaker widths e _ (side_aim p (equations l.after.current (joined_after ws rule e l.after r.after).current)) (aim (join ws rule o e p l.after q r.after).body) v out longer (λ w a. or_left _ (goes_on (var_bits widths w) q && equal (var_bits widths w) (equations r.after.current (joined_after ws rule e l.after r.after).current))) (λ w a. or_left _ (goes_wrong (var_bits widths w) q))
        (in_first ws widths rule laws sizes e l.after r.after s front p v out m)

    by_second : Fits widths v → (packet : List ℕ) → map v e.current ≡ packet → (out : Outcome)
        → ((u : ℕ → ℕ) → Fits widths u → map u e.current ≡ packet → Meets widths (beside e l.after) r.after (aim q) u out)
        → Joined o p q v out
    unfolding join goes_on goes_wrong
    by_second f packet eq out rec =
        let xs = equations l.after.current (both o p q).after.current in
        weaker widths e _ (side_aim q (equations r.after.current (joined_after ws rule e l.after r.after).current)) (aim (join ws rule o e p l.after q r.after).body) v out longer
        (λ w a. or_right (goes_on (var_bits widths w) p && equal (var_bits widths w) xs) _) (λ w a. or_right (goes_wrong (var_bits widths w) p) _)
        (in_second ws widths rule laws sizes e l.after r.after s front q v f packet eq out rec)

  module _ (a b : Run) (x : Complete widths a e l) (y : Complete widths b (beside e l.after) r) where
    pub complete_choice : Front (both Origin.of_pipeline l.body r.body).after.widths widths
        → Complete widths (either_of a b) e (both Origin.of_pipeline l.body r.body)
    complete_choice front = record { meets = λ v f t eq. go v f t.packet t.left t.used eq }
      where
        go : (v : ℕ → ℕ) → Fits widths v → (packet entries : List ℕ) (u : ℕ) → map v e.current ≡ packet
            → Joined Origin.of_pipeline l.body r.body v (either_of a b (state packet entries u))
        go v f packet [] u eq = tt
        go v f packet (zero ∷ entries) u eq =
            let t = state packet entries (suc u) in
            by_first Origin.of_pipeline l.body r.body front v (a t) (x.meets v f t eq)
        go v f packet (suc zero ∷ entries) u eq =
            let t = state packet entries (suc u) in
            by_second Origin.of_pipeline l.body r.body front v f packet eq (b t) (λ w g d. y.meets w g t d)
        go v f packet (suc (suc n) ∷ entries) u eq = tt

    -- a rule of a chain: m, over the variables, says of every valuation with the packet what the packet's test says
    module _ (test : List ℕ → Bool) (m : Test)
        (says : (v : ℕ → ℕ) (packet : List ℕ) → map v e.current ≡ packet → (w : ℕ → ℕ) → Agree (next e) v w → truth_of (var_bits widths w) m ≡ test packet) where
      abbrev first : Passive
      first = Passive.assume m then l.body

      abbrev rest : Passive
      rest = Passive.assume (Test.not_test m) then r.body

      -- a body behind a test that holds
      guarded : (e₀ e₁ : Vars) (t : Test) (p : Passive) (v : ℕ → ℕ) (out : Outcome) → next e ≤ next e₀ → next e₀ ≤ next e₁
          → ((w : ℕ → ℕ) → Agree (next e) v w → truth_of (var_bits widths w) t ≡ true)
          → Meets widths e₀ e₁ (aim p) v out → Meets widths e₀ e₁ (aim (Passive.assume t then p)) v out
      unfolding goes_on goes_wrong
      guarded e₀ e₁ t p v out n₀ n₁ i m =
          weaker widths e₀ e₁ (aim p) (aim (Passive.assume t then p)) v out n₁ (λ w d. true_both _ _ (i w (agree_less n₀ d))) (λ w d. true_both _ _ (i w (agree_less n₀ d))) m

      pub complete_chain : Front (both Origin.of_chain first rest).after.widths widths
          → Complete widths (whether test a b) e (both Origin.of_chain first rest)
      unfolding truth_of
      complete_chain front = record { meets = λ v f t eq. go v f t eq (test t.packet) refl }
        where
          go : (v : ℕ → ℕ) → Fits widths v → (t : State) → map v e.current ≡ t.packet → (c : Bool) → test t.packet ≡ c
              → Joined Origin.of_chain first rest v (if c then a t else b t)
          go v f t eq true i =
              by_first Origin.of_chain first rest front v (a t)
              (guarded e l.after m l.body v (a t) (le_refl _) s.left.front.shorter (λ w d. says v t.packet eq w d ∙ i) (x.meets v f t eq))
          go v f t eq false i =
              by_second Origin.of_chain first rest front v f t.packet eq (b t)
              (λ u g d.
              guarded (beside e l.after) r.after (Test.not_test m) r.body u (b t) s.left.front.shorter s.right.front.shorter
              (λ w k. ap not (says u t.packet d w k ∙ i)) (y.meets u g t d))
