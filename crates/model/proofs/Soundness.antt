-- Soundness: where a form goes on, or wrong, the run passes, or fails, on the choices that the walk takes out. Assumes nothing.
use Prim.Native.Nat.{ℕ, ◌^◌, ◌<◌}
use native.Mathlib.Nat.{add-zero}
use native.Mathlib.Numerals.{add-one}
use mathlib.Core.Path.{◌≡◌, sym, ◌∙◌}
use mathlib.Core.Bool.{Bool, true, false, not, ◌&&◌, false≢true}
use mathlib.Core.List.{List, ◌++◌, map}
use lib.ListN.{get_or, length}
use borrow.Author.Tests.{eqb-true, lt-ltb, not-true}
use Rattle.model.specs.Trees.{Val, Test, Stmt, bits_of, truth_of}
use Rattle.model.specs.Good.{GoodValue, GoodTest}
use Rattle.model.specs.Runs.{State, Outcome, run}
use Rattle.model.specs.Passive.{Passive, Origin, Vars, next, beside, Form, form, JoinRule, joined_vars, join, passify, renamed, renamed_test, equations, ◌then◌}
use Rattle.model.specs.Walk.{entry, equal, goes_on, goes_wrong, walk_on, walk_wrong}
use Rattle.model.specs.declared.Bits.{Bits}
use Rattle.model.proofs.Booleans.{both_true, by_side}
use Rattle.model.proofs.Renaming.{map-set}
use Rattle.model.proofs.Variables.{Front, Ready}
use Rattle.model.proofs.Equations.{var_bits, equal-map}
use Rattle.model.proofs.Reading.{reads_bits, reads-truth}
use Rattle.model.proofs.Runs.{Run, in_order, either_of, whether, Goes, Fails, goes_both, fails_left, fails_right, goes_first, goes_second, fails_first, fails_second, goes_same, fails_same}

-- `ws` are the fields' widths, `widths` those of all variables, `v` gives their values
module _ (ws widths : List ℕ) (v : ℕ → ℕ) where
  abbrev at : ℕ → Bits
  at = var_bits widths v

  -- the form, made at the variables e, is sound for the run
  pub record Sound (go : Run) (e : Vars) (f : Form) : Type 0 where
    pub on : goes_on at f.body ≡ true → Goes go (map v e.current) (walk_on at f.body) (map v f.after.current)
    pub wrong : goes_wrong at f.body ≡ true → Fails go (map v e.current) (walk_wrong at f.body)

  pub sound_both : (a b : Run) (e : Vars) (l r : Form) → Sound a e l → Sound b l.after r
      → Sound (in_order a b) e (form (l.body then r.body) r.after)
  unfolding goes_on goes_wrong walk_on walk_wrong
  sound_both a b e l r x y = record {
    on = λ o. let oo = both_true (goes_on at l.body) _ o in goes_both a b (x.on oo.0) (y.on oo.1);
    wrong = λ o. by_side (Fails (in_order a b) (map v e.current)) (goes_wrong at l.body) (goes_on at l.body && goes_wrong at r.body) _ _ o
        (λ i. fails_left a b (x.wrong i))
        (λ i. let ii = both_true (goes_on at l.body) (goes_wrong at r.body) i in fails_right a b (x.on ii.0) (y.wrong ii.1));
  }

  -- One side of a choice: where it goes on, or wrong, the run of both passes, or fails, with the side's entry first.
  record Side (both : Run) (e : Vars) (o : Origin) (n : ℕ) (q : Passive) (xs : List ℕ) : Type 0 where
    on : goes_on at q ≡ true → Goes both (map v e.current) (entry o n ++ walk_on at q) (map v xs)
    wrong : goes_wrong at q ≡ true → Fails both (map v e.current) (entry o n ++ walk_wrong at q)

  side-on : {go : Run} {p c : List ℕ} (q : Passive) (xs zs : List ℕ) → length xs ≡ length zs → (goes_on at q ≡ true → Goes go p c (map v xs))
      → goes_on at q && equal at (equations xs zs) ≡ true → Goes go p c (map v zs)
  side-on q xs zs k x o =
      let oo = both_true (goes_on at q) (equal at (equations xs zs)) o in
      rw (← equal-map widths v xs zs k oo.1) (x oo.0)

  sound_join : (both : Run) (rule : JoinRule) (o : Origin) (e : Vars) (p : Passive) (l : Vars) (q : Passive) (r : Vars)
      → let zs = joined_vars rule (next r) e.current l.current r.current in length l.current ≡ length zs → length r.current ≡ length zs
      → Side both e o 0 p l.current → Side both e o 1 q r.current → Sound both e (join ws rule o e p l q r)
  unfolding goes_on goes_wrong walk_on walk_wrong join
  sound_join both rule o e p l q r j k x y =
      let zs = joined_vars rule (next r) e.current l.current r.current in
      record {
        on = λ h.
            by_side (λ (c : List ℕ). Goes both (map v e.current) c (map v zs))
            (goes_on at p && equal at (equations l.current zs)) (goes_on at q && equal at (equations r.current zs)) _ _ h
            (side-on p l.current zs j x.on) (side-on q r.current zs k y.on);
        wrong = λ h. by_side (Fails both (map v e.current)) (goes_wrong at p) (goes_wrong at q) _ _ h x.wrong y.wrong;
      }

  module _ (a b : Run) (rule : JoinRule) (e : Vars) (l r : Form) (x : Sound a e l) (y : Sound b (beside e l.after) r) where
    abbrev Lengths : Type 0
    Lengths =
        let zs = joined_vars rule (next r.after) e.current l.after.current r.after.current in
        (length l.after.current ≡ length zs) × (length r.after.current ≡ length zs)

    pub sound_choice : Lengths → Sound (either_of a b) e (join ws rule Origin.of_pipeline e l.body l.after r.body r.after)
    sound_choice k =
        sound_join (either_of a b) rule Origin.of_pipeline e l.body l.after r.body r.after k.0 k.1
        (record { on = λ o. goes_first a b (x.on o); wrong = λ o. fails_first a b (x.wrong o) })
        (record { on = λ o. goes_second a b (y.on o); wrong = λ o. fails_second a b (y.wrong o) })

    -- a rule of a chain: m, over the variables, holds where the packet's test does
    pub sound_chain : (test : List ℕ → Bool) (m : Test) → truth_of at m ≡ test (map v e.current) → Lengths
        → Sound (whether test a b) e
        (join ws rule Origin.of_chain e (Passive.assume m then l.body) l.after (Passive.assume (Test.not_test m) then r.body) r.after)
    unfolding goes_on goes_wrong walk_on walk_wrong truth_of
    sound_chain test m same k =
        let yes : truth_of at m ≡ true → test (map v e.current) ≡ true = λ h. sym same ∙ h in
        let no : not (truth_of at m) ≡ true → test (map v e.current) ≡ false = λ h. sym same ∙ not-true (truth_of at m) h in
        sound_join (whether test a b) rule Origin.of_chain e (Passive.assume m then l.body) l.after (Passive.assume (Test.not_test m) then r.body) r.after k.0 k.1
        (record {
          on = λ o. let oo = both_true (truth_of at m) (goes_on at l.body) o in goes_same (whether test a b) a (λ c u. rw (yes oo.0)) (x.on oo.1);
          wrong = λ o. let oo = both_true (truth_of at m) (goes_wrong at l.body) o in fails_same (whether test a b) a (λ c u. rw (yes oo.0)) (x.wrong oo.1);
        })
        (record {
          on = λ o. let oo = both_true (not (truth_of at m)) (goes_on at r.body) o in goes_same (whether test a b) b (λ c u. rw (no oo.0)) (y.on oo.1);
          wrong = λ o. let oo = both_true (not (truth_of at m)) (goes_wrong at r.body) o in fails_same (whether test a b) b (λ c u. rw (no oo.0)) (y.wrong oo.1);
        })

  -- the statements that hold no other
  module _ (on_apply : ℕ → State → Outcome) (rule : JoinRule) (form_apply : ℕ → Vars → Form) (e : Vars) where
    abbrev Leaf : Stmt → Type 0
    Leaf s = Sound (run ws on_apply s) e (passify ws rule form_apply s e)

    pub sound_skip : Leaf Stmt.skip
    unfolding run passify goes_on goes_wrong walk_on
    sound_skip = record { on = λ o. record { goes = λ rest u. rw add-zero }; wrong = λ o. absurd (false≢true o) }

    pub sound_havoc : (f : ℕ) → v (next e) < 2 ^ get_or ws f 0 → Leaf (Stmt.havoc f)
    unfolding run passify goes_on goes_wrong walk_on
    sound_havoc f h = record {
      on = λ o. record { goes = λ rest u. rw (lt-ltb (v (next e)) (2 ^ get_or ws f 0) h, map-set, add-one) };
      wrong = λ o. absurd (false≢true o);
    }

    module _ (k : Ready ws e) (front : Front e.widths widths) where
      pub sound_assign : (f : ℕ) (x : Val) → GoodValue ws x → Leaf (Stmt.assign f x)
      unfolding run passify goes_on goes_wrong walk_on bits_of
      sound_assign f x g = record {
        on = λ o.
            let q : (bits_of at (renamed e.current x)).number ≡ v (next e) = eqb-true _ _ o in
            record { goes = λ rest u. rw (map-set, ← q, reads_bits ws widths e k front v x g, add-zero) };
        wrong = λ o. absurd (false≢true o);
      }

      pub sound_assume : (n : ℕ) (t : Test) → GoodTest ws t → Leaf (Stmt.assume n t)
      unfolding run passify goes_on goes_wrong walk_on
      sound_assume n t g = record {
        on = λ o. record { goes = λ rest u. rw (← reads-truth ws widths e k front v t g, o, add-zero) };
        wrong = λ o. absurd (false≢true o);
      }

      pub sound_assert : (n : ℕ) (t : Test) → GoodTest ws t → Leaf (Stmt.assert n t)
      unfolding run passify goes_on goes_wrong walk_on walk_wrong
      sound_assert n t g = record {
        on = λ o. record { goes = λ rest u. rw (← reads-truth ws widths e k front v t g, o, add-zero) };
        wrong = λ o.
            let w = not-true (truth_of at (renamed_test e.current t)) o in
            record { node = n; last = map v e.current; fails = λ rest u. rw (← reads-truth ws widths e k front v t g, w, add-zero) };
      }
