-- Completeness: a run that passes, or fails, gives a valuation at which the form goes on, or wrong. Assumes nothing.
use Prim.Native.Nat.{ℕ, suc, ◌^◌, ◌≤◌, ◌<◌}
use native.Mathlib.Omega.{arith}
use mathlib.Core.Path.{◌≡◌, refl, sym, ap, ◌∙◌}
use mathlib.Core.Bool.{Bool, true, false, not, ◌&&◌}
use mathlib.Core.List.{List, [], ◌∷◌, map}
use lib.ListN.{get_or, set, length}
use borrow.Author.Tests.{eq-eqb, ltb-true}
use Rattle.bits.specs.Width.{fits}
use Rattle.std.specs.Prelude.{if◌then◌else◌}
use Rattle.model.specs.Trees.{Val, Test, Stmt, bits_of, truth_of, bits_in}
use Rattle.model.specs.Good.{GoodValue, GoodTest, width_of_value}
use Rattle.model.specs.Runs.{State, state, Outcome, passed, failed, blocked, refused, and_then, put, run}
use Rattle.model.specs.Passive.{Passive, Equation, Vars, next, fresh, Form, form, JoinRule, passify, renamed, renamed_test, ◌then◌}
use Rattle.model.specs.Walk.{equal, goes_on, goes_wrong}
use Rattle.model.specs.declared.Bits.{Bits}
use Rattle.model.proofs.Booleans.{true_both, or_left, or_right}
use Rattle.model.proofs.Renaming.{get_or_map, map-set}
use Rattle.model.proofs.Fits.{sized}
use Rattle.model.proofs.Variables.{var, Front, front_trans, front_append, fresh-next, fresh-width, Ready}
use Rattle.model.proofs.Equations.{var_bits}
use Rattle.model.proofs.Reading.{reads_bits, reads-truth}
use Rattle.model.proofs.Runs.{Run, in_order}
use Rattle.model.proofs.Valuations.{Agree, agree_refl, agree_less, agree_trans, map_agree, changed, changed_here, changed_below, Fits, changed_fits}

-- what is to hold where the run passes, and where it fails: of a statement, and of a choice's side with its equations
pub record Aim : Type 0 where
  pub on : (ℕ → Bits) → Bool
  pub wrong : (ℕ → Bits) → Bool

abbrev pub aim : Passive → Aim
aim q = record { on = λ at. goes_on at q; wrong = λ at. goes_wrong at q }

abbrev pub side_aim : Passive → List Equation → Aim
side_aim q es = record { on = λ at. goes_on at q && equal at es; wrong = λ at. goes_wrong at q }

-- `widths` are those of all variables
module _ (widths : List ℕ) where
  -- some valuation that agrees with `v` on the variables so far, and at which, whatever later variables are, something holds
  pub record Extends (e e' : Vars) (v : ℕ → ℕ) (P : (ℕ → ℕ) → Type 0) : Type 0 where
    pub to : ℕ → ℕ
    pub to_fits : Fits widths to
    pub agrees : Agree (next e) v to
    pub holds : (w : ℕ → ℕ) → Agree (next e') to w → P w

  abbrev pub On : Vars → Aim → List ℕ → (ℕ → ℕ) → Type 0
  On e' q packet w = (q.on (var_bits widths w) ≡ true) × (map w e'.current ≡ packet)

  abbrev pub Wrong : Aim → (ℕ → ℕ) → Type 0
  Wrong q w = q.wrong (var_bits widths w) ≡ true

  abbrev pub Meets : Vars → Vars → Aim → (ℕ → ℕ) → Outcome → Type 0
  Meets e e' q v (passed t) = Extends e e' v (On e' q t.packet)
  Meets e e' q v (failed n t) = Extends e e' v (Wrong q)
  Meets e e' q v (blocked n t) = Unit {0}
  Meets e e' q v (refused number place) = Unit {0}

  -- the form, made at the variables e, is complete for the run
  pub record Complete (go : Run) (e : Vars) (f : Form) : Type 0 where
    pub meets : (v : ℕ → ℕ) → Fits widths v → (t : State) → map v e.current ≡ t.packet → Meets e f.after (aim f.body) v (go t)

  -- what follows where the first aim is met
  pub weaker : (e e' : Vars) (p q : Aim) (v : ℕ → ℕ) (o : Outcome) → next e ≤ next e'
      → ((w : ℕ → ℕ) → Agree (next e) v w → p.on (var_bits widths w) ≡ true → q.on (var_bits widths w) ≡ true)
      → ((w : ℕ → ℕ) → Agree (next e) v w → p.wrong (var_bits widths w) ≡ true → q.wrong (var_bits widths w) ≡ true)
      → Meets e e' p v o → Meets e e' q v o
  weaker e e' p q v (passed t) n i j m =
      record {
        to = m.to;
        to_fits = m.to_fits;
        agrees = m.agrees;
        holds = λ w a. let h = m.holds w a in (i w (agree_trans n m.agrees a) h.0, h.1);
      }
  weaker e e' p q v (failed k t) n i j m =
      record { to = m.to; to_fits = m.to_fits; agrees = m.agrees; holds = λ w a. j w (agree_trans n m.agrees a) (m.holds w a) }
  weaker e e' p q v (blocked k t) n i j m = tt
  weaker e e' p q v (refused number place) n i j m = tt

  -- a sequence
  module _ (e e₁ e₂ : Vars) (p q : Passive) (v : ℕ → ℕ) (n₁ : next e ≤ next e₁) (n₂ : next e₁ ≤ next e₂) where
    second : (packet : List ℕ) (x : Extends e e₁ v (On e₁ (aim p) packet)) (o : Outcome) → Meets e₁ e₂ (aim q) x.to o
        → Meets e e₂ (aim (p then q)) v o
    unfolding goes_on goes_wrong
    second packet x (passed t) m =
        record {
          to = m.to;
          to_fits = m.to_fits;
          agrees = agree_trans n₁ x.agrees m.agrees;
          holds = λ w a. let h = m.holds w a in (true_both _ _ (x.holds w (agree_trans n₂ m.agrees a)).0 h.0, h.1);
        }
    second packet x (failed k t) m =
        record {
          to = m.to;
          to_fits = m.to_fits;
          agrees = agree_trans n₁ x.agrees m.agrees;
          holds = λ w a.
              or_right (goes_wrong (var_bits widths w) p) _ (true_both _ _ (x.holds w (agree_trans n₂ m.agrees a)).0 (m.holds w a));
        }
    second packet x (blocked k t) m = tt
    second packet x (refused number place) m = tt

    in_order_lem : (o : Outcome) (go : Run) → Meets e e₁ (aim p) v o
        → ((u : ℕ → ℕ) → Fits widths u → (t : State) → map u e₁.current ≡ t.packet → Meets e₁ e₂ (aim q) u (go t))
        → Meets e e₂ (aim (p then q)) v (and_then o go)
    unfolding goes_on goes_wrong
    in_order_lem (passed t) go m r = second t.packet m (go t) (r m.to m.to_fits t (m.holds m.to (agree_refl m.to _)).1)
    in_order_lem (failed i t) go m r =
        record { to = m.to; to_fits = m.to_fits; agrees = m.agrees; holds = λ w a. or_left _ _ (m.holds w (agree_less n₂ a)) }
    in_order_lem (blocked i t) go m r = tt
    in_order_lem (refused number place) go m r = tt

  pub complete_both : (a b : Run) (e : Vars) (l r : Form) → next e ≤ next l.after → next l.after ≤ next r.after
      → Complete a e l → Complete b l.after r → Complete (in_order a b) e (form (l.body then r.body) r.after)
  complete_both a b e l r n₁ n₂ x y =
      record { meets = λ v f t q. in_order_lem e l.after r.after l.body r.body v n₁ n₂ (a t) b (x.meets v f t q) y.meets }

-- `ws` are the fields' widths
module _ (ws widths : List ℕ) where
  -- the packet, and what a test says of it, under any valuation that agrees
  module _ (e : Vars) (k : Ready ws e) (front : Front e.widths widths) (v : ℕ → ℕ) (packet : List ℕ) (q : map v e.current ≡ packet) where
    pub still : (w : ℕ → ℕ) → Agree (next e) v w → map w e.current ≡ packet
    still w a = map_agree v w e.current (λ i h. a (var e i) (k.low i (rw k.size at h))) ∙ q

    pub still_truth : (t : Test) → GoodTest ws t → (w : ℕ → ℕ) → Agree (next e) v w
        → truth_of (var_bits widths w) (renamed_test e.current t) ≡ truth_of (bits_in ws packet) t
    still_truth t g w a = reads-truth ws widths e k front w t g ∙ rw (still w a)

    -- a field's value in the packet
    pub packet-at : (i : ℕ) → i < length ws → get_or packet i 0 ≡ v (var e i)
    packet-at i h = rw (← q) (get_or_map v e.current i (rw k.size h))

    pub packet-fits : Fits widths v → (i : ℕ) → i < length ws → get_or packet i 0 < 2 ^ get_or ws i 0
    packet-fits f i h = rw (packet-at i h, ← k.wide i h, ← front.same (var e i) (k.low i h)) (f (var e i))

  -- the statements that hold no other
  module _ (on_apply : ℕ → State → Outcome) (rule : JoinRule) (form_apply : ℕ → Vars → Form) (e : Vars) (k : Ready ws e) where
    abbrev Leaf : Stmt → Type 0
    Leaf s = Complete widths (run ws on_apply s) e (passify ws rule form_apply s e)

    module _ (front : Front e.widths widths) where
      pub complete_skip : Leaf Stmt.skip
      unfolding run passify goes_on
      complete_skip = record {
        meets = λ v f t q. record { to = v; to_fits = f; agrees = agree_refl v _; holds = λ w a. (refl, still e k front v t.packet q w a) };
      }

      -- a test of the packet, and what its truth gives
      module _ (t : Test) (g : GoodTest ws t) (v : ℕ → ℕ) (f : Fits widths v) (s : State) (q : map v e.current ≡ s.packet) where
        abbrev holds : Bool → Type 0
        holds b = truth_of (bits_in ws s.packet) t ≡ b

        says : (b : Bool) → holds b → (w : ℕ → ℕ) → Agree (next e) v w → truth_of (var_bits widths w) (renamed_test e.current t) ≡ b
        says b i w a = still_truth e k front v s.packet q t g w a ∙ i

        on-true : (p : Passive) → ((at : ℕ → Bits) → goes_on at p ≡ truth_of at (renamed_test e.current t)) → holds true
            → Extends widths e e v (On widths e (aim p) s.packet)
        on-true p is i = record {
          to = v;
          to_fits = f;
          agrees = agree_refl v _;
          holds = λ w a. (is (var_bits widths w) ∙ says true i w a, still e k front v s.packet q w a);
        }

        in_assume : (n : ℕ) (b : Bool) → holds b
            → Meets widths e e (aim (Passive.assume (renamed_test e.current t))) v (if b then passed s else blocked n s)
        unfolding goes_on
        in_assume n true i = on-true (Passive.assume (renamed_test e.current t)) (λ at. refl) i
        in_assume n false i = tt

        in_assert : (n : ℕ) (b : Bool) → holds b
            → Meets widths e e (aim (Passive.assert (renamed_test e.current t))) v (if b then passed s else failed n s)
        unfolding goes_on goes_wrong
        in_assert n true i = on-true (Passive.assert (renamed_test e.current t)) (λ at. refl) i
        in_assert n false i = record { to = v; to_fits = f; agrees = agree_refl v _; holds = λ w a. ap not (says false i w a) }

      pub complete_assume : (n : ℕ) (t : Test) → GoodTest ws t → Leaf (Stmt.assume n t)
      unfolding run passify
      complete_assume n t g = record { meets = λ v f s q. in_assume t g v f s q n (truth_of (bits_in ws s.packet) t) refl }

      pub complete_assert : (n : ℕ) (t : Test) → GoodTest ws t → Leaf (Stmt.assert n t)
      unfolding run passify
      complete_assert n t g = record { meets = λ v f s q. in_assert t g v f s q n (truth_of (bits_in ws s.packet) t) refl }

    -- a new variable for the field i
    module _ (i : ℕ) (front : Front (fresh e i (get_or ws i 0)).widths widths) where
      abbrev after : Vars
      after = fresh e i (get_or ws i 0)

      front_before : Front e.widths widths
      front_before = front_trans (front_append e.widths _) front

      module _ (v : ℕ → ℕ) (f : Fits widths v) (packet : List ℕ) (q : map v e.current ≡ packet) where
        abbrev Stores : ℕ → (ℕ → ℕ) → Type 0
        Stores c w = (w (next e) ≡ c) × (map w e.current ≡ packet) × (map w after.current ≡ set packet i c)

        stores : (c : ℕ) → c < 2 ^ get_or ws i 0 → Extends widths e after v (Stores c)
        stores c h = record {
          to = changed v (next e) c;
          to_fits = changed_fits widths v (next e) c f (rw (fresh-width e i (get_or ws i 0) widths front) h);
          agrees = changed_below v (next e) c;
          holds = λ w a.
              let x : w (next e) ≡ c = a (next e) (omega (arith, fresh-next e i (get_or ws i 0))) ∙ changed_here v (next e) c in
              let first = agree_trans (omega (arith, fresh-next e i (get_or ws i 0))) (changed_below v (next e) c) a in
              let y : map w e.current ≡ packet = still e k front_before v packet q w first in
              (x, y, rw (map-set, x, y));
        }

        in_assign : (x : Val) (left : List ℕ) (u : ℕ) → GoodValue ws x → width_of_value ws x ≡ get_or ws i 0
            → Meets widths e after (aim (passify ws rule form_apply (Stmt.assign i x) e).body) v (run ws on_apply (Stmt.assign i x) (state packet left u))
        unfolding run passify goes_on truth_of
        in_assign x left u g g' =
            let at = bits_in ws packet in
            let h : (bits_of at x).number < 2 ^ get_or ws i 0 =
            rw (← g') (sized ws at (λ j b. record { wide = refl; below = packet-fits e k front_before v packet q f j b }) x g).below in
            let r = stores (bits_of at x).number h in
            record {
              to = r.to;
              to_fits = r.to_fits;
              agrees = r.agrees;
              holds = λ w a.
                  let z = r.holds w a in
                  let same : bits_of (var_bits widths w) (renamed e.current x) ≡ bits_of at x = reads_bits ws widths e k front_before w x g ∙ rw z.1 in
                  (eq-eqb _ _ (ap (λ (y : Bits). y.number) same ∙ sym z.0), z.2);
            }

        in_havoc : (left : List ℕ) (u : ℕ)
            → Meets widths e after (aim (Passive.havoced (next e))) v (run ws on_apply (Stmt.havoc i) (state packet left u))
        unfolding run goes_on
        in_havoc [] u = tt
        in_havoc (c ∷ left) u = go (fits (get_or ws i 0) c) refl
          where
            go : (b : Bool) → fits (get_or ws i 0) c ≡ b
                → Meets widths e after (aim (Passive.havoced (next e))) v (if b then passed (put (state packet left (suc u)) i c) else refused 15 u)
            go true h =
                let r = stores c (ltb-true c _ h) in
                record { to = r.to; to_fits = r.to_fits; agrees = r.agrees; holds = λ w a. (refl, (r.holds w a).2) }
            go false h = tt

      pub complete_assign : (x : Val) → GoodValue ws x → width_of_value ws x ≡ get_or ws i 0 → Leaf (Stmt.assign i x)
      unfolding run passify
      complete_assign x g g' = record { meets = λ v f s q. in_assign v f s.packet q x s.left s.used g g' }

      pub complete_havoc : Leaf (Stmt.havoc i)
      unfolding run passify
      complete_havoc = record { meets = λ v f s q. in_havoc v f s.packet q s.left s.used }
