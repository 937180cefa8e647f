-- A form is exact for a run: its variables are in order and no more than its nodes, its statement is well formed, it is sound and complete. One law for each way in
-- which runs are put together, and one induction over statements. Assumes nothing.
use Prim.Native.Nat.{ℕ, ◌+◌, ◌≤◌, ◌<◌}
use native.Mathlib.Nat.{le_refl, lt_of_lt_of_le}
use native.Mathlib.Omega.{arith}
use mathlib.Core.Path.{◌≡◌, sym, ◌∙◌}
use mathlib.Core.Bool.{Bool}
use mathlib.Core.List.{List}
use lib.ListN.{get_or, length, length-append}
use Rattle.model.specs.Trees.{Val, Test, Stmt, truth_of, bits_in}
use Rattle.model.specs.Good.{width_of_value, GoodValue, GoodTest, Good}
use Rattle.model.specs.Runs.{State, Outcome, run}
use Rattle.model.specs.Passive.{Passive, Origin, Vars, next, fresh, beside, Form, form, JoinRule, new_widths, equations, join, passify, renamed, renamed_test, ◌then◌}
use Rattle.model.specs.Emit.{past, emit}
use Rattle.model.specs.declared.Comparison.{Comparison}
use Rattle.model.proofs.GoodForms.{AllWidths, GoodEquations, GoodPassive}
use Rattle.model.proofs.Variables.{var, Front, front_trans, front_append, Ready, Steps, steps_refl, steps_trans, ready-beside, ready-fresh, steps_fresh, fresh-next, fresh_there, fresh-width}
use Rattle.model.proofs.Joins.{JoinLaws, joined_front, TwoSides, ready-joined, steps_joined}
use Rattle.model.proofs.Equations.{good-equations}
use Rattle.model.proofs.Reading.{reads-good, reads-width, reads-good-test, reads-truth}
use Rattle.model.proofs.Runs.{Run, in_order, either_of, whether, goes_same, fails_same}
use Rattle.model.proofs.Soundness.{Sound, sound_both, sound_choice, sound_chain, sound_skip, sound_havoc, sound_assign, sound_assume, sound_assert}
use Rattle.model.proofs.Valuations.{Fits}
use Rattle.model.proofs.Completeness.{Complete, complete_both, complete_skip, complete_havoc, complete_assign, complete_assume, complete_assert, still_truth}
use Rattle.model.proofs.Choices.{complete_choice, complete_chain}
use Rattle.model.proofs.Sizes.{size_at, size-assume, size_then, size-choice, behind-assume, new-equations}

module _ (ws : List ℕ) (sizes : AllWidths ws) where
  pub record ExactForm (go : Run) (make : Vars → Form) : Type 0 where
    pub ready : (e : Vars) → Ready ws e → Ready ws (make e).after
    pub steps : (e : Vars) → Ready ws e → Steps ws e (make e).after
    pub counted : (e : Vars) → Ready ws e → (at : ℕ) → next (make e).after ≤ next e + size_at (make e).body at
    pub good : (widths : List ℕ) (e : Vars) → Ready ws e → Front (make e).after.widths widths → GoodPassive widths (make e).body
    pub sound : (widths : List ℕ) (v : ℕ → ℕ) → Fits widths v → (e : Vars) → Ready ws e → Front (make e).after.widths widths
        → Sound ws widths v go e (make e)
    pub complete : (widths : List ℕ) (e : Vars) → Ready ws e → Front (make e).after.widths widths → Complete widths go e (make e)

  module _ (a b : Run) (f g : Vars → Form) (x : ExactForm a f) (y : ExactForm b g) where
    pub exact_both : ExactForm (in_order a b) (λ e. let l = f e in let r = g l.after in form (l.body then r.body) r.after)
    unfolding GoodPassive
    exact_both = record {
      ready = λ e k. y.ready _ (x.ready e k);
      steps = λ e k. steps_trans ws (x.steps e k) (y.steps _ (x.ready e k));
      counted = λ e k at.
          let p = (f e).body in
          let q = (g (f e).after).body in
          omega (arith, size_then p q at, x.counted e k at, y.counted _ (x.ready e k) (past at (emit p at)));
      good = λ widths e k front.
          let kl = x.ready e k in
          (x.good widths e k (front_trans (y.steps _ kl).front front), y.good widths _ kl front);
      sound = λ widths v fits e k front.
          let kl = x.ready e k in
          sound_both ws widths v a b e (f e) (g (f e).after) (x.sound widths v fits e k (front_trans (y.steps _ kl).front front)) (y.sound widths v fits _ kl front);
      complete = λ widths e k front.
          let kl = x.ready e k in
          complete_both widths a b e (f e) (g (f e).after) (x.steps e k).front.shorter (y.steps _ kl).front.shorter
          (x.complete widths e k (front_trans (y.steps _ kl).front front)) (y.complete widths _ kl front);
    }

  -- what a choice and a rule of a chain have in common: two sides from the same variables, joined
  module _ (rule : JoinRule) (laws : JoinLaws rule) (a b : Run) (f g : Vars → Form) (x : ExactForm a f) (y : ExactForm b g) where
    abbrev second : Vars → Form
    second e = g (beside e (f e).after)

    module _ (e : Vars) (k : Ready ws e) where
      beside-ready : Ready ws (beside e (f e).after)
      beside-ready = ready-beside ws e (f e).after k (x.ready e k) (x.steps e k)

      sides : TwoSides ws e (f e).after (second e).after
      sides = record {
        before = k;
        left_ready = x.ready e k;
        right_ready = y.ready (beside e (f e).after) beside-ready;
        left = x.steps e k;
        right = y.steps (beside e (f e).after) beside-ready;
      }

    -- the sides, as they stand in the joined form
    module _ (o : Origin) (first rest : Vars → Passive) where
      abbrev make : Vars → Form
      make e = join ws rule o e (first e) (f e).after (rest e) (second e).after

      module _ (e : Vars) (k : Ready ws e) where
        ready_make : Ready ws (make e).after
        unfolding join
        ready_make = ready-joined ws rule laws sizes e (f e).after (second e).after (sides e k)

        steps_make : Steps ws e (make e).after
        unfolding join
        steps_make = steps_joined ws rule laws sizes e (f e).after (second e).after (sides e k)

        lengths : (length (f e).after.current ≡ length (make e).after.current) × (length (second e).after.current ≡ length (make e).after.current)
        lengths = ((sides e k).left_ready.size ∙ sym ready_make.size, (sides e k).right_ready.size ∙ sym ready_make.size)

        module _ (widths : List ℕ) (front : Front (make e).after.widths widths) where
          front_right : Front (second e).after.widths widths
          unfolding join
          front_right = joined_front ws rule e (f e).after (second e).after widths front

          front_left : Front (f e).after.widths widths
          front_left = front_trans (sides e k).right.front front_right

          front_before : Front e.widths widths
          front_before = front_trans (x.steps e k).front front_left

          equations-good : (s : Vars) → Ready ws s → Front s.widths widths → GoodEquations widths (equations s.current (make e).after.current)
          equations-good s ks fs =
              good-equations widths s.current (make e).after.current
              (λ i h.
              let b : i < length ws = rw ks.size at h in
              let kz = ready_make in (
                lt_of_lt_of_le (ks.low i b) fs.shorter,
                lt_of_lt_of_le (kz.low i b) front.shorter,
                (fs.same (var s i) (ks.low i b) ∙ ks.wide i b) ∙ sym (front.same (var (make e).after i) (kz.low i b) ∙ kz.wide i b),
              ))

          good_make : GoodPassive widths (first e) → GoodPassive widths (rest e) → GoodPassive widths (make e).body
          unfolding join GoodPassive
          good_make g h = (g, equations-good (f e).after (sides e k).left_ready front_left, h, equations-good (second e).after (sides e k).right_ready front_right)

        counted_make : (at m n : ℕ) → size_at (f e).body m ≤ size_at (first e) at
            → size_at (second e).body n ≤ size_at (rest e) (past at (emit (first e) at))
            → next (make e).after ≤ next e + size_at (make e).body at
        unfolding join
        counted_make at m n h i =
            let zs = (make e).after.current in
            let new = new_widths (next (second e).after) ws zs in
            let xs = equations (f e).after.current zs in
            let ys = equations (second e).after.current zs in
            let older : (j : ℕ) → j < length (f e).after.current → var (f e).after j < next (second e).after =
            λ j b. lt_of_lt_of_le ((sides e k).left_ready.low j (rw (sides e k).left_ready.size at b)) (sides e k).right.front.shorter in
            omega (
              arith,
              length-append (second e).after.widths new,
              new-equations (next (second e).after) ws (f e).after.current zs lengths.0 older,
              size-choice o (first e) xs (rest e) ys at,
              h,
              i,
              x.counted e k m,
              y.counted _ (beside-ready e k) n,
            )

      -- what is left to show of either kind of choice, from what holds of its sides
      record Sides (go : Run) : Type 0 where
        holds_first : (e : Vars) (at : ℕ) → (n : ℕ) × (size_at (f e).body n ≤ size_at (first e) at)
        holds_rest : (e : Vars) (at : ℕ) → (n : ℕ) × (size_at (second e).body n ≤ size_at (rest e) at)
        good : (widths : List ℕ) (e : Vars) → Ready ws e → Front e.widths widths
            → GoodPassive widths (f e).body → GoodPassive widths (second e).body → GoodPassive widths (first e) × GoodPassive widths (rest e)
        sound : (widths : List ℕ) (v : ℕ → ℕ) (e : Vars) → Ready ws e → Front e.widths widths
            → Sound ws widths v a e (f e) → Sound ws widths v b (beside e (f e).after) (second e)
            → (length (f e).after.current ≡ length (make e).after.current) × (length (second e).after.current ≡ length (make e).after.current)
            → Sound ws widths v go e (make e)
        complete : (widths : List ℕ) (e : Vars) → Ready ws e → Front e.widths widths → Front (make e).after.widths widths
            → Complete widths a e (f e) → Complete widths b (beside e (f e).after) (second e) → Complete widths go e (make e)

      exact-sides : (go : Run) → Sides go → ExactForm go make
      exact-sides go s = record {
        ready = ready_make;
        steps = steps_make;
        counted = λ e k at.
            let l = s.holds_first e at in
            let r = s.holds_rest e (past at (emit (first e) at)) in
            counted_make e k at l.0 r.0 l.1 r.1;
        good = λ widths e k front.
            let g = s.good widths e k (front_before e k widths front)
            (x.good widths e k (front_left e k widths front)) (y.good widths _ (beside-ready e k) (front_right e k widths front)) in
            good_make e k widths front g.0 g.1;
        sound = λ widths v fits e k front.
            s.sound widths v e k (front_before e k widths front)
            (x.sound widths v fits e k (front_left e k widths front)) (y.sound widths v fits _ (beside-ready e k) (front_right e k widths front)) (lengths e k);
        complete = λ widths e k front.
            s.complete widths e k (front_before e k widths front) front
            (x.complete widths e k (front_left e k widths front)) (y.complete widths _ (beside-ready e k) (front_right e k widths front));
      }

    pub exact-choice : ExactForm (either_of a b) (λ e. join ws rule Origin.of_pipeline e (f e).body (f e).after (second e).body (second e).after)
    unfolding join
    exact-choice =
        exact-sides Origin.of_pipeline (λ e. (f e).body) (λ e. (second e).body) (either_of a b)
        (record {
          holds_first = λ e at. (at, le_refl _);
          holds_rest = λ e at. (at, le_refl _);
          good = λ widths e k front g h. (g, h);
          sound = λ widths v e k front l r n. sound_choice ws widths v a b rule e (f e) (second e) l r n;
          complete = λ widths e k before front l r.
              complete_choice ws widths rule laws sizes e (f e) (second e) (sides e k) a b l r front;
        })

    -- the test t is over the fields, and m over the current variables
    module _ (test : List ℕ → Bool) (t : Test) (gt : GoodTest ws t) (same : (packet : List ℕ) → test packet ≡ truth_of (bits_in ws packet) t) where
      abbrev m : Vars → Test
      m e = renamed_test e.current t

      abbrev matched : Vars → Passive
      matched e = Passive.assume (m e) then (f e).body

      abbrev missed : Vars → Passive
      missed e = Passive.assume (Test.not_test (m e)) then (second e).body

      pub exact_chain : ExactForm (whether test a b) (λ e. join ws rule Origin.of_chain e (matched e) (f e).after (missed e) (second e).after)
      unfolding join GoodPassive GoodTest
      exact_chain =
          exact-sides Origin.of_chain matched missed (whether test a b)
          (record {
            holds_first = λ e at. (_, behind-assume (m e) (f e).body at);
            holds_rest = λ e at. (_, behind-assume (Test.not_test (m e)) (second e).body at);
            good = λ widths e k front g h. let gm = reads-good-test ws widths e k front t gt in ((gm, g), (gm, h));
            sound = λ widths v e k front l r n.
                sound_chain ws widths v a b rule e (f e) (second e) l r test (m e) (reads-truth ws widths e k front v t gt ∙ sym (same _)) n;
            complete = λ widths e k before front l r.
                complete_chain ws widths rule laws sizes e (f e) (second e) (sides e k) a b l r test (m e)
                (λ v packet eq w d. still_truth ws widths e k before v packet eq t gt w d ∙ sym (same packet)) front;
          })

  -- the same run, told otherwise
  pub exact_same : (a b : Run) (f : Vars → Form) → ((s : State) → b s ≡ a s) → ExactForm a f → ExactForm b f
  exact_same a b f same x = record {
    ready = x.ready;
    steps = x.steps;
    counted = x.counted;
    good = x.good;
    sound = λ widths v fits e k front.
        let y = x.sound widths v fits e k front in
        record { on = λ o. goes_same b a (λ left u. same _) (y.on o); wrong = λ o. fails_same b a (λ left u. same _) (y.wrong o) };
    complete = λ widths e k front. record { meets = λ v fits t eq. rw (same t) ((x.complete widths e k front).meets v fits t eq) };
  }

  -- a statement that leaves the variables as they are
  exact_still : (go : Run) (q : Vars → Passive)
      → ((widths : List ℕ) (e : Vars) → Ready ws e → Front e.widths widths
      → GoodPassive widths (q e) × ((v : ℕ → ℕ) → Sound ws widths v go e (form (q e) e)) × Complete widths go e (form (q e) e))
      → ExactForm go (λ e. form (q e) e)
  exact_still go q h = record {
    ready = λ e k. k;
    steps = λ e k. steps_refl ws e;
    counted = λ e k at. omega arith;
    good = λ widths e k front. (h widths e k front).0;
    sound = λ widths v fits e k front. (h widths e k front).1 v;
    complete = λ widths e k front. (h widths e k front).2;
  }

  -- one that gives the field i a new variable
  module _ (i : ℕ) (there : i < length ws) where
    abbrev after : Vars → Vars
    after e = fresh e i (get_or ws i 0)

    exact-fresh : (go : Run) (q : Vars → Passive) → ((e : Vars) (at : ℕ) → 1 ≤ size_at (q e) at)
        → ((widths : List ℕ) (e : Vars) → Ready ws e → Front (after e).widths widths
        → GoodPassive widths (q e) × ((v : ℕ → ℕ) → Fits widths v → Sound ws widths v go e (form (q e) (after e))) × Complete widths go e (form (q e) (after e)))
        → ExactForm go (λ e. form (q e) (after e))
    exact-fresh go q some h = record {
      ready = λ e k. ready-fresh ws e i sizes there k;
      steps = λ e k. steps_fresh ws e i sizes there k;
      counted = λ e k at. omega (arith, fresh-next e i (get_or ws i 0), some e at);
      good = λ widths e k front. (h widths e k front).0;
      sound = λ widths v fits e k front. (h widths e k front).1 v fits;
      complete = λ widths e k front. (h widths e k front).2;
    }

  -- statements, where tables are exact
  module _ (rule : JoinRule) (laws : JoinLaws rule) (on_apply : ℕ → State → Outcome) (form_apply : ℕ → Vars → Form) (tables : ℕ)
      (applies : (t : ℕ) → t < tables → ExactForm (on_apply t) (form_apply t)) where
    abbrev Stated : Stmt → Type 0
    Stated s = ExactForm (run ws on_apply s) (passify ws rule form_apply s)

    exact-skip : Stated Stmt.skip
    unfolding run passify GoodPassive
    exact-skip =
        exact_still (run ws on_apply Stmt.skip) (λ e. Passive.skip)
        (λ widths e k front. (tt, λ v. sound_skip ws widths v on_apply rule form_apply e, complete_skip ws widths on_apply rule form_apply e k front))

    exact-assume : (n : ℕ) (t : Test) → GoodTest ws t → Stated (Stmt.assume n t)
    unfolding run passify GoodPassive
    exact-assume n t g =
        exact_still (run ws on_apply (Stmt.assume n t)) (λ e. Passive.assume (renamed_test e.current t))
        (λ widths e k front. (
          reads-good-test ws widths e k front t g,
          λ v. sound_assume ws widths v on_apply rule form_apply e k front n t g,
          complete_assume ws widths on_apply rule form_apply e k front n t g,
        ))

    exact-assert : (n : ℕ) (t : Test) → GoodTest ws t → Stated (Stmt.assert n t)
    unfolding run passify GoodPassive
    exact-assert n t g =
        exact_still (run ws on_apply (Stmt.assert n t)) (λ e. Passive.assert (renamed_test e.current t))
        (λ widths e k front. (
          reads-good-test ws widths e k front t g,
          λ v. sound_assert ws widths v on_apply rule form_apply e k front n t g,
          complete_assert ws widths on_apply rule form_apply e k front n t g,
        ))

    exact-havoc : (i : ℕ) → i < length ws → Stated (Stmt.havoc i)
    unfolding run passify GoodPassive emit
    exact-havoc i h =
        exact-fresh i h (run ws on_apply (Stmt.havoc i)) (λ e. Passive.havoced (next e)) (λ e at. le_refl 1)
        (λ widths e k front. (
          tt,
          λ v fits. sound_havoc ws widths v on_apply rule form_apply e i (rw (fresh-width e i (get_or ws i 0) widths front) at (fits (next e))),
          complete_havoc ws widths on_apply rule form_apply e k i front,
        ))

    exact-assign : (i : ℕ) (x : Val) → i < length ws → GoodValue ws x → width_of_value ws x ≡ get_or ws i 0 → Stated (Stmt.assign i x)
    unfolding run passify GoodPassive GoodValue width_of_value
    exact-assign i x h g w =
        exact-fresh i h (run ws on_apply (Stmt.assign i x)) (λ e. Passive.assume (equals e)) (λ e at. size-assume (equals e) at)
        (λ widths e k front.
        let before = front_trans (front_append e.widths _) front in (
          (
            reads-good ws widths e k before x g,
            fresh_there e i (get_or ws i 0) widths front,
            reads-width ws widths e k before x g ∙ w ∙ sym (fresh-width e i (get_or ws i 0) widths front),
          ),
          λ v fits. sound_assign ws widths v on_apply rule form_apply e k before i x g,
          complete_assign ws widths on_apply rule form_apply e k i front x g w,
        ))
      where
        equals : Vars → Test
        equals e = Test.compare Comparison.Equal (renamed e.current x) (Val.field (next e))

    pub exact-statement : (s : Stmt) → Good ws tables s → Stated s
    unfolding run passify Good
    exact-statement Stmt.skip g = exact-skip
    exact-statement (Stmt.assign i x) g = exact-assign i x g.0 g.1 g.2
    exact-statement (Stmt.havoc i) g = exact-havoc i g
    exact-statement (Stmt.assume n t) g = exact-assume n t g
    exact-statement (Stmt.assert n t) g = exact-assert n t g
    exact-statement (Stmt.sequence a b) g =
        exact_both (run ws on_apply a) (run ws on_apply b) (passify ws rule form_apply a) (passify ws rule form_apply b) (exact-statement a g.0) (exact-statement b g.1)
    exact-statement (Stmt.choice a b) g =
        exact-choice rule laws (run ws on_apply a) (run ws on_apply b) (passify ws rule form_apply a) (passify ws rule form_apply b)
        (exact-statement a g.0) (exact-statement b g.1)
    exact-statement (Stmt.apply t) g = applies t g
