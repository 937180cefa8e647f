-- Whether a parameter or an apply is in its place, from the owner of its node. Assumes nothing.
use Prim.Native.Nat.{ℕ, zero, suc, ◌<◌, ◌≤◌}
use native.Mathlib.Omega.{arith}
use mathlib.Core.Path.{◌≡◌, refl, sym, ap, ◌∙◌}
use mathlib.Core.Bool.{Bool, true, false, not, not-not, ◌&&◌}
use mathlib.Core.List.{List}
use lib.Dec.{eqb, ltb}
use borrow.Author.Tests.{ne_eqb}
use Rattle.std.specs.Prelude.{Option, Some, None, is_some, if◌then◌else◌}
use Rattle.model.specs.Lists.{every, exists}
use Rattle.model.specs.Blocks.{N, A, body, parameter_count, parameter_width, pipeline_node}
use Rattle.model.specs.Nodes.{number_of, kinds, kind_in}
use Rattle.model.specs.Refusals.{under_each, stands_under, placed_well}
use Rattle.model.specs.declared.Kind.{Kind}
use Rattle.model.proofs.Every.{exists-at, exists-none, every_one}
use Rattle.model.proofs.KindNumbers.{kind_number, kind_in-number}
use Rattle.model.proofs.Uses.{under_same}
use Rattle.uses.specs.Owners.{owner_of, Owned, has_parameter}

-- an owner's number, by which owners are told apart
abbrev number : Option ℕ → ℕ
number None = zero
number (Some k) = suc k

number_some : (o : Option ℕ) (k : ℕ) → number o ≡ suc k → o ≡ Some k
number_some None k e = let z : ◌≡◌ {A = ℕ} 0 (suc k) = e in absurd (omega arith)
number_some (Some m) k e = let same : m ≡ k = omega arith in ap Some same

-- what is asked of an owner, if there is one
abbrev asked : (ℕ → Bool) → Option ℕ → Bool
asked has None = false
asked has (Some k) = has k

module _ (p : List ℕ) {owners : List (Option ℕ)} (h : Owned p (A p) 0 owners) (x : ℕ) (l : x < N p) where
  abbrev owner : Option ℕ
  owner = owner_of owners x

  abbrev stands : ℕ → Bool
  stands k = stands_under p (under_each p) x k

  -- the node belongs to each action under whose body it stands: to none, or to one
  owner_is : (k : ℕ) → k < A p → stands k ≡ true → owner ≡ Some k
  owner_is k d m =
      number_some owner k
      (under_same p (λ i. number (owner_of owners i)) (λ i c e n. ap number (h.handed i c (omega arith) e n)) (body p k) x m ∙ ap number (h.bodies k d))

  not_stands : (k : ℕ) → k < A p → (owner ≡ Some k → ⊥) → stands k ≡ false
  not_stands k d n = go (stands k) refl
    where
      go : (b : Bool) → stands k ≡ b → b ≡ false
      go true e = absurd (n (owner_is k d e))
      go false e = refl

  pub owner_low : (k : ℕ) → owner ≡ Some k → k < A p
  owner_low k e = (h.stands x k l e).0

  in_body : exists stands (A p) ≡ is_some owner
  in_body = go owner refl
    where
      go : (o : Option ℕ) → owner ≡ o → exists stands (A p) ≡ is_some o
      go None e = exists-none stands (A p) (λ k d. not_stands k d (λ q. cc))
      go (Some k) e = let own = h.stands x k l e in exists-at stands (A p) k own.1 own.0

  -- what is asked of every action under whose body the node stands is asked of its owner
  of_owner : (has : ℕ → Bool) → exists stands (A p) && every (λ k. if stands k then has k else true) (A p) ≡ asked has owner
  of_owner has = rw in_body (go owner refl)
    where
      test : ℕ → Bool
      test k = if stands k then has k else true

      go : (o : Option ℕ) → owner ≡ o → is_some o && every test (A p) ≡ asked has o
      go None e = refl
      go (Some k) e =
          let own = h.stands x k l e in
          every_one test (A p) k own.0 (λ i d n. rw (not_stands i d (λ q. n (cc)))) ∙ rw own.1

  has_asked : (o : Option ℕ) (a b : ℕ) → has_parameter p o a b ≡ asked (λ k. ltb a (parameter_count p k) && eqb b (parameter_width p k a)) o
  has_asked None a b = refl
  has_asked (Some k) a b = refl

  module _ {k : Kind} (e : k ≡ kind_in kinds (pipeline_node p x).kind) where
    numbered : (o : Kind) → 1 ≤ number_of o → k ≡ o → (pipeline_node p x).kind ≡ number_of o
    numbered o h d = kind_number kinds (pipeline_node p x).kind o h (sym e ∙ d)

    other : (o : Kind) → (k ≡ o → ⊥) → (pipeline_node p x).kind ≡ number_of o → ⊥
    other o n d = n (e ∙ (rw d (kind_in-number o)))

    pub placed_parameter : {r : Bool} → r ≡ has_parameter p owner (pipeline_node p x).a (pipeline_node p x).b → k ≡ Kind.Parameter
        → r ≡ placed_well p (under_each p) x
    unfolding placed_well
    placed_parameter s d =
        let a = (pipeline_node p x).a in
        let b = (pipeline_node p x).b in
        rw (numbered Kind.Parameter (omega arith) d) (s ∙ has_asked owner a b ∙ sym (of_owner (λ k. ltb a (parameter_count p k) && eqb b (parameter_width p k a))))

    pub placed-apply : {r : Bool} → is_some owner ≡ not r → k ≡ Kind.Apply → r ≡ placed_well p (under_each p) x
    unfolding placed_well
    placed-apply {r} s d = rw (numbered Kind.Apply (omega arith) d, in_body, s) (sym (not-not r))

    pub placed_other : (k ≡ Kind.Parameter → ⊥) → (k ≡ Kind.Apply → ⊥) → true ≡ placed_well p (under_each p) x
    unfolding placed_well
    placed_other n m = rw (ne_eqb (pipeline_node p x).kind 3 (other Kind.Parameter n), ne_eqb (pipeline_node p x).kind 39 (other Kind.Apply m))
