-- What a run does at each kind of node, once the node is read. Assumes nothing.
use Prim.Native.Nat.{ℕ, zero, suc, ◌+◌, ◌^◌, ◌<◌, ◌≤◌}
use native.Mathlib.Numerals.{add-one}
use native.Mathlib.Omega.{arith}
use mathlib.Core.Path.{◌≡◌, refl, sym, ap, subst, ◌∙◌}
use mathlib.Core.Bool.{Bool, true, false}
use mathlib.Core.Logic.{◌⊎◌, inl, inr, ⊎_elim}
use mathlib.Core.List.{List}
use borrow.Author.Tests.{ltb-true, ltb-false, eqb-true, eqb-false}
use lib.Dec.{eqb, ltb}
use lib.ListN.{length, drop, drop_of_length-le}
use Rattle.std.specs.Prelude.{if◌then◌else◌, Some, Result, Ok, Err}
use Rattle.model.specs.Lists.{word}
use Rattle.model.specs.Blocks.{F, N, T, R, widths, pipeline_node}
use Rattle.model.specs.Nodes.{kinds, kind_in}
use Rattle.model.specs.Trees.{Stmt, as_value, as_test, as_statement, tree, truth_of, bits_in}
use Rattle.model.specs.Tables.{hit, call_of}
use Rattle.model.specs.Good.{Within, Good, GoodTest}
use Rattle.model.specs.Demands.{Accepted}
use Rattle.model.specs.Runs.{State, Outcome, refused, and_then, with_next, take_side, run, no_apply}
use Rattle.model.specs.declared.Kind.{Kind}
use Rattle.model.specs.declared.Node.{Node}
use Rattle.model.specs.declared.Refusal.{Refusal}
use Rattle.model.proofs.Passing.{refusal_refuses}
use Rattle.actions.specs.declared.Action.{Action}
use Rattle.actions.specs.declared.Scope.{Scope}
use Rattle.actions.specs.Scopes.{in_body, given_in, IsStatement, Calls}
use Rattle.actions.proofs.Read.{havoc-field, Read, tree_is, children, is, good_by, first_below, sequence_pair, choice_pair, outside, is_skip}
use Rattle.blocks.proofs.Accepted.{few-fields}
use Rattle.actions.proofs.Actions.{called_is, body-statement}
use Rattle.values.proofs.Ready.{ready}
use Rattle.values.proofs.Others.{Skips}
use Rattle.states.specs.declared.State.{State as Held}
use Rattle.states.specs.declared.Ending.{Ending}
use Rattle.states.specs.declared.End.{End}
use Rattle.states.specs.States.{packet_in, held, state_in, outcome_by, end_of, Stands, EndsAs, RefusedAs, Answers, side_of, side_at, ends_by}
use Rattle.runs.specs.Runnable.{on_apply, run_of, Runnable}
use Rattle.states.proofs.Leaves.{next-entry}
use Rattle.states.proofs.Actions.{hit_there}

-- a node of the program is above every node inside a body, since a run goes from an apply into a body and never back
abbrev pub depth : Bool → List ℕ → ℕ → ℕ
depth true p n = n
depth false p n = N p + n

-- what a side that is told says of the list, and a refusal of the run
module _ (choices : List ℕ) (used a b : ℕ) where
  abbrev Told : Result ℕ Refusal → Type 0
  Told (Ok j) = (used < length choices) × (((word choices used ≡ 0) × (j ≡ a)) ⊎ ((word choices used ≡ 1) × (j ≡ b)))
  Told (Err why) = (packet : List ℕ) (x y : State → Outcome) → RefusedAs why (with_next packet (drop used choices) used (λ entry. take_side used entry x y))

  wrong-entry : (entry : ℕ) (x y : State → Outcome) (z : State) → 2 ≤ entry → take_side used entry x y z ≡ refused 15 used
  wrong-entry zero x y z l = let k : ⊥ = omega arith in absurd k
  wrong-entry (suc zero) x y z l = let k : ⊥ = omega arith in absurd k
  wrong-entry (suc (suc entry)) x y z l = refl

  side-told : Told (side_at choices used a b)
  unfolding side_at
  side-told = there (ltb used (length choices)) refl
    where
      entry : (x : ℕ) → x ≡ word choices used → used < length choices → (y z : Bool) → eqb x 0 ≡ y → eqb x 1 ≡ z
          → Told (if y then Ok a else if z then Ok b else Err (Refusal.Entry used))
      entry x e l true z d g = (l, inl (sym e ∙ eqb-true x 0 d, refl))
      entry x e l false true d g = (l, inr (sym e ∙ eqb-true x 1 g, refl))
      entry x e l false false d g =
          λ packet f k. let wrong : 2 ≤ word choices used = omega (arith, e, eqb-false x 0 d, eqb-false x 1 g) in
          rw (next-entry choices used l, wrong-entry (word choices used) f k _ wrong)

      there : (y : Bool) → ltb used (length choices) ≡ y → Told (if y then side_of used a b (word choices used) else Err (Refusal.Short used))
      there true e =
          let x = word choices used in
          entry x refl (ltb-true used (length choices) e) (eqb x 0) (eqb x 1) refl refl
      there false e = λ packet f k. rw (drop_of_length-le choices (ltb-false used (length choices) e))

  pub side_fits : {j : ℕ} {side : Result ℕ Refusal} → side ≡ side_at choices used a b → side ≡ Ok j → length choices < 2 ^ 64 → used + 1 < 2 ^ 64
  side_fits d g k = let told : Told (Ok _) = subst Told (sym d ∙ g) side-told in omega (arith, told.0)

-- what a run of node j asks
abbrev pub Ask : List ℕ → List ℕ → Scope → Held → ℕ → ℕ → Type 0
Ask p r scope s t j = (depth (in_body scope) p j < t) × Runnable p r scope s j

deeper : (inside : Bool) (p : List ℕ) {j n : ℕ} → j < n → depth inside p j < depth inside p n
deeper true p l = l
deeper false p l = omega arith

-- where a run of an accepted pipeline stands
pub stands_there : (p r : List ℕ) (s : Held) → Accepted p r → Within (widths p) (packet_in p s) → Stands p s
stands_there p r s accepted within = record { ready = ready p r (packet_in p s) accepted within; few = few-fields p r accepted }

-- node n has been read
module _ (p r : List ℕ) (scope : Scope) (n : ℕ) (node : Node) (kind : Kind) (statement : IsStatement p r scope n) (words : node ≡ pipeline_node p n) (is_kind : kind ≡ kind_in kinds node.kind) where
  abbrev a : ℕ
  a = node.a

  abbrev b : ℕ
  b = node.b

  abbrev here : Read p r scope n node kind
  here = record { statement = statement; words = words; is_kind = is_kind }

  -- ---- what the arms ask

  pub assign_below : kind ≡ Kind.Assign → b < N p
  assign_below e = omega (arith, (children here _ e).1, statement.below)

  pub havoc_below : kind ≡ Kind.Havoc → a < F p
  havoc_below e = havoc-field here e

  pub assume_below : kind ≡ Kind.Assume → a < N p
  assume_below e = first_below here _ e (λ c. c.0)

  pub assert_below : kind ≡ Kind.Assert → a < N p
  assert_below e = first_below here _ e (λ c. c.0)

  pub apply_below : kind ≡ Kind.Apply → a < T p
  apply_below e = (outside here e).1

  module _ (given : List ℕ) (data_is : given ≡ given_in scope) where
    pub assign_good : kind ≡ Kind.Assign → Good (widths p) 0 (Stmt.assign a (as_value (tree p given b)))
    unfolding Good
    assign_good e = rw data_is (good_by here _ e)

    pub assume_good : kind ≡ Kind.Assume → GoodTest (widths p) (as_test (tree p given a))
    unfolding Good
    assume_good e = rw data_is (good_by here Kind.Assume e)

    pub assert_good : kind ≡ Kind.Assert → GoodTest (widths p) (as_test (tree p given a))
    unfolding Good
    assert_good e = rw data_is (good_by here Kind.Assert e)

  module _ (t : ℕ) (start : depth (in_body scope) p n ≡ t) where
    child : (z : Held) → Within (widths p) (packet_in p z) → {j : ℕ} → (j < n) × IsStatement p r scope j → Ask p r scope z t j
    child z w c = (rw (← start) (deeper (in_body scope) p c.0), record { statement = c.1; within = w })

    pub left_asks : kind ≡ Kind.Sequence → (z : Held) → Within (widths p) (packet_in p z) → Ask p r scope z t a
    left_asks e z w = child z w (sequence_pair here e).0

    pub right_asks : kind ≡ Kind.Sequence → (z : Held) → Within (widths p) (packet_in p z) → Ask p r scope z t b
    right_asks e z w = child z w (sequence_pair here e).1

  module _ (s : Held) (within : Within (widths p) (packet_in p s)) where
    rules-below : (i : ℕ) → hit p r (packet_in p s) a ≡ Some i → i < R r
    rules-below = hit_there p r (packet_in p s) a refl

    module _ (e : kind ≡ Kind.Apply) (x : Action) (c : Calls p x (call_of p r a (hit p r (packet_in p s) a))) where
      pub body_asks : (t : ℕ) → depth (in_body scope) p n ≡ t → Ask p r x.scope s t x.body
      body_asks t start =
          let body = body-statement p r statement.accepted (apply_below e) rules-below x c in
          let k : depth (in_body scope) p n ≡ N p + n = ap (λ (i : Bool). depth i p n) (outside here e).0 in
          (rw c.inside (omega (arith, body.below, k, start)), record { statement = body; within = within })

    -- ---- what the arms give

    module _ (choices : List ℕ) where
      -- an end of this node's run, and an answer
      abbrev Gives : End → Type 0
      Gives x = EndsAs p choices x (run_of p r scope n (state_in p choices s))

      abbrev GivesAll : Result End Refusal → Type 0
      GivesAll x = Answers p choices x (run_of p r scope n (state_in p choices s))

      module _ (given : List ℕ) (data_is : given ≡ given_in scope) (x : End) where
        pub assign_gives : kind ≡ Kind.Assign → ((choices : List ℕ) → EndsAs p choices x (run (widths p) no_apply (Stmt.assign a (as_value (tree p given b))) (state_in p choices s))) → Gives x
        unfolding run
        assign_gives e g = rw (is here _ e) (rw data_is at (g choices))

      module _ (given : List ℕ) (data_is : given ≡ given_in scope) (x : Result End Refusal) where
        abbrev holds : Bool
        holds = truth_of (bits_in (widths p) (packet_in p s)) (as_test (tree p given a))

        abbrev Tests : Ending → Type 0
        Tests how = x ≡ ends_by s (if holds then Ok Ending.Passed else Ok how)

        tested_gives : (k : Kind) (how : Ending) → run (widths p) (on_apply (in_body scope) p r) (as_statement (tree_is here k)) (state_in p choices s)
            ≡ (if holds then outcome_by Ending.Passed (state_in p choices s) else outcome_by how (state_in p choices s)) → kind ≡ k → Tests how → GivesAll x
        tested_gives k how d e g = rw (g, is here k e, d) (told_by holds)
          where
            told_by : (test : Bool) → Answers p choices (ends_by s (if test then Ok Ending.Passed else Ok how))
                (if test then outcome_by Ending.Passed (state_in p choices s) else outcome_by how (state_in p choices s))
            told_by true = record { outcome = refl; within = within }
            told_by false = record { outcome = refl; within = within }

        pub assume_gives : kind ≡ Kind.Assume → Tests (Ending.Blocked n) → GivesAll x
        unfolding run
        assume_gives = tested_gives Kind.Assume (Ending.Blocked n) (rw data_is)

        pub assert_gives : kind ≡ Kind.Assert → Tests (Ending.Failed n) → GivesAll x
        unfolding run
        assert_gives = tested_gives Kind.Assert (Ending.Failed n) (rw data_is)

      pub havoc_gives : kind ≡ Kind.Havoc → (x : Result End Refusal) → Answers p choices x (run (widths p) no_apply (Stmt.havoc a) (state_in p choices s)) → GivesAll x
      unfolding run
      havoc_gives e x g = rw (is here _ e) g

      abbrev RunsTo : Result End Refusal → ℕ → State → Type 0
      RunsTo x j z = Answers p choices x (run_of p r scope j z)

      -- a sequence: its first statement has ended, or is refused
      module _ (e : kind ≡ Kind.Sequence) where
        module _ (x : End) (l : EndsAs p choices x (run_of p r scope a (state_in p choices s))) where
          pub sequence_gives : x.how ≡ Ending.Passed → (y : Result End Refusal) → RunsTo y b (state_in p choices x.state) → GivesAll y
          unfolding run
          sequence_gives d y g = rw (is here _ e, ← l.outcome, d) g

          pub sequence_ends : (x.how ≡ Ending.Passed → ⊥) → Gives x
          unfolding run
          sequence_ends o =
              record {
                outcome = rw (is here _ e, ← l.outcome) (stays x.how o);
                within = l.within;
              }
            where
              stays : (how : Ending) → (how ≡ Ending.Passed → ⊥)
                  → outcome_by how (state_in p choices x.state) ≡ and_then (outcome_by how (state_in p choices x.state)) (run_of p r scope b)
              stays Ending.Passed o = absurd (o refl)
              stays (Ending.Blocked i) o = refl
              stays (Ending.Failed i) o = refl

        pub sequence_refused : (why : Refusal) → RefusedAs why (run_of p r scope a (state_in p choices s))
            → RefusedAs why (run_of p r scope n (state_in p choices s))
        unfolding run
        sequence_refused why l = rw (is here _ e) (go (run_of p r scope a (state_in p choices s)) l)
          where
            go : (o : Outcome) → RefusedAs why o → RefusedAs why (and_then o (run_of p r scope b))
            go (Outcome.passed z) l = absurd (refusal_refuses why _ l)
            go (Outcome.blocked i z) l = l
            go (Outcome.failed i z) l = l
            go (Outcome.refused i z) l = l

      module _ (side : Result ℕ Refusal) (d : side ≡ side_at choices s.used a b) (e : kind ≡ Kind.Choice) where
        is_told : (q : Result ℕ Refusal) → side ≡ q → Told choices s.used a b q
        is_told q g = subst (Told choices s.used a b) (sym d ∙ g) (side-told choices s.used a b)

        module _ (j : ℕ) (g : side ≡ Ok j) (z : Held) (i : z ≡ held s.packet (s.used + 1)) where
          pub side_asks : (t : ℕ) → depth (in_body scope) p n ≡ t → Ask p r scope z t j
          side_asks t start =
              let w : Within (widths p) (packet_in p z) = rw i within in
              ⊎_elim (λ q. rw q.1 (child t start z w (choice_pair here e).0)) (λ q. rw q.1 (child t start z w (choice_pair here e).1))
              (is_told _ g).1

          pub side_gives : (x : Result End Refusal) → RunsTo x j (state_in p choices z) → GivesAll x
          unfolding run
          side_gives x l =
              let q = is_told _ g in
              let f = rw i at l in
              ⊎_elim (λ k. rw (is here _ e, next-entry choices s.used q.0, k.0, ← add-one s.used) (rw k.1 at f))
              (λ k. rw (is here _ e, next-entry choices s.used q.0, k.0, ← add-one s.used) (rw k.1 at f)) q.1

        pub side_refused : (why : Refusal) → side ≡ Err why → RefusedAs why (run_of p r scope n (state_in p choices s))
        unfolding run
        side_refused why g = rw (is here _ e) (is_told _ g _ _ _)

      pub apply_gives : (e : kind ≡ Kind.Apply) (x : Action) (c : Calls p x (call_of p r a (hit p r (packet_in p s) a))) (y : Result End Refusal)
          → Answers p choices y (run_of p r x.scope x.body (state_in p choices s)) → GivesAll y
      unfolding run
      apply_gives e x c y g = rw (is here _ e, (outside here e).0) (rw (c.inside, called_is p r statement.accepted (apply_below e) rules-below x c) at g)

      -- skip, and what is no statement
      pub rest_gives : Skips kind → Gives (end_of s Ending.Passed)
      unfolding run
      rest_gives o =
          rw (is_skip here o) (record { outcome = refl; within = within })

-- what the check cites at each arm
pub ruleset steps = (stands_there, side_fits, assign_below, havoc_below, assume_below, assert_below, apply_below, assign_good, assume_good, assert_good, havoc_gives, sequence_gives, sequence_ends, sequence_refused, side_gives, side_refused, apply_gives, rest_gives)

pub ruleset leaves = (assign_gives, assume_gives, assert_gives)
