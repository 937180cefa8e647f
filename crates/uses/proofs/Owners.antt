-- Who owns a node, as the array that says it changes. Assumes nothing.
use Prim.Native.Nat.{ℕ, ◌+◌, ◌<◌, ◌≤◌}
use native.Mathlib.Omega.{arith}
use mathlib.Core.Path.{◌≡◌, refl, ap, sym, ◌∙◌}
use mathlib.Core.Bool.{Bool, true, false, ◌||◌, false≢true}
use mathlib.Core.List.{List, [], ◌∷◌, ◌++◌}
use lib.Dec.{eqb}
use lib.ListN.{length, take, get_or, set, replicate, length-set, length-replicate, get_or-replicate}
use lib.Seq.{get_or-set_same, get_or-set_other}
use borrow.Author.Tests.{eqb-true, eqb-false}
use Rattle.std.specs.Prelude.{Option, Some, None, if◌then◌else◌}
use Rattle.model.specs.Lists.{times, among}
use Rattle.model.specs.Blocks.{N, A, body}
use Rattle.model.specs.Refusals.{under_each, stands_under}
use Rattle.model.proofs.Accepted.{statement-below}
use Rattle.model.proofs.Times.{among_one, among_not, among-append}
use Rattle.model.proofs.Uses.{children_of, one_parent, no_body, one-body, under_self, children-below, under_child}
use Rattle.uses.specs.Counts.{there, all_there}
use Rattle.uses.specs.Owners.{owner_of, UsedOnce, Gives, Owned}
use Rattle.uses.proofs.There.{all_there-next}

-- ---- an owner, and more

module _ (x : ℕ) (owner : Option ℕ) (owners : List (Option ℕ)) where
  pub gives_one : Gives (x ∷ []) owner owners (set owners x owner)
  gives_one = record { sized = length-set owners x owner; at = λ size y l. go y size l (eqb y x) refl }
    where
      go : (y : ℕ) → length owners ≡ 1024 → y < 1024 → (b : Bool) → eqb y x ≡ b
          → owner_of (set owners x owner) y ≡ (if among y (x ∷ []) then owner else owner_of owners y)
      go y size l true e =
          let d = eqb-true y x e in
          rw (among_one y x d, d) (get_or-set_same owners x owner None (omega arith))
      go y size l false e = let d = eqb-false y x e in rw (among_not y x d) (get_or-set_other owners x y owner None d)

  pub gives_past : 1024 ≤ x → Gives (x ∷ []) owner owners owners
  gives_past h = record { sized = refl; at = λ size y l. rw (among_not y x (λ e. omega arith)) }

pub gives_none : {owner : Option ℕ} {owners : List (Option ℕ)} → Gives [] owner owners owners
unfolding times
gives_none = record { sized = refl; at = λ size y l. refl }

pub gives_both : {xs ys : List ℕ} {owner : Option ℕ} {before between after : List (Option ℕ)} → Gives xs owner before between → Gives ys owner between after
    → Gives (xs ++ ys) owner before after
gives_both {xs} {ys} {owner} {before} {between} {after} h k =
    record { sized = k.sized ∙ h.sized; at = λ size y l. go y (among y xs) (among y ys) (among-append y xs ys) (h.at size y l) (k.at (h.sized ∙ size) y l) }
  where
    go : (y : ℕ) (a b : Bool) → among y (xs ++ ys) ≡ (a || b) → owner_of between y ≡ (if a then owner else owner_of before y)
        → owner_of after y ≡ (if b then owner else owner_of between y) → owner_of after y ≡ (if among y (xs ++ ys) then owner else owner_of before y)
    go y true true e d f = rw e f
    go y true false e d f = rw e (f ∙ d)
    go y false true e d f = rw e f
    go y false false e d f = rw e (f ∙ d)

-- one child more, if it is there
pub gives_next : (xs : List (Option ℕ)) (i : ℕ) {x owner : Option ℕ} {before between after : List (Option ℕ)} → i < length xs → get_or xs i None ≡ x
    → Gives (all_there (take i xs)) owner before between → Gives (there x) owner between after → Gives (all_there (take (i + 1) xs)) owner before after
gives_next xs i l e h k = rw (all_there-next xs i l, e) (gives_both h k)

-- who owns a node after that
module _ {xs : List ℕ} {owner : Option ℕ} {before after : List (Option ℕ)} (g : Gives xs owner before after) (size : length before ≡ 1024) (x : ℕ) (h : x < 1024) where
  given_in : among x xs ≡ true → owner_of after x ≡ owner
  given_in m = rw m at (g.at size x h)

  given_out : among x xs ≡ false → owner_of after x ≡ owner_of before x
  given_out m = rw m at (g.at size x h)

-- ---- the nodes under the bodies

pub owned_none : (p : List ℕ) → N p ≤ 1024 → Owned p 0 (N p) (replicate 1024 None)
owned_none p few =
    record {
      sized = length-replicate {A = Option ℕ} 1024 None;
      bodies = λ k h. absurd (omega arith);
      handed = λ j x h l m. absurd (omega arith);
      stands = λ x k h e. let none : owner_of (replicate 1024 None) x ≡ None = get_or-replicate 1024 x None None (omega arith) in cc;
    }

module _ (p : List ℕ) (few : N p ≤ 1024) (tree : UsedOnce p) where
  body_below : (k : ℕ) → k < A p → body p k < N p
  body_below k h = statement-below p (body p k) (tree.bodies k h)

  -- the body of the next action: it is no other's
  module _ {owners after : List (Option ℕ)} (k : ℕ) (l : k < A p) (h : Owned p k (N p) owners) (g : Gives (body p k ∷ []) (Some k) owners after) where
    body_own : (m : ℕ) → m < k + 1 → (b : Bool) → eqb m k ≡ b → owner_of after (body p m) ≡ Some m
    body_own m d true e =
        let s = eqb-true m k e in
        let low = body_below k l in
        rw s (given_in g h.sized (body p k) (omega arith) (among_one (body p k) (body p k) refl))
    body_own m d false e =
        let n = eqb-false m k e in
        let low = body_below m (omega arith) in
        let apart : body p m ≡ body p k → ⊥ = λ q. n (one-body p (body p m) (tree.once (body p m) low) m k (omega arith) l refl q) in
        given_out g h.sized (body p m) (omega arith) (among_not (body p m) (body p k) apart) ∙ h.bodies m (omega arith)

    body-stands : (x m : ℕ) → x < N p → owner_of after x ≡ Some m → (b : Bool) → eqb x (body p k) ≡ b
        → (m < A p) × (stands_under p (under_each p) x m ≡ true)
    body-stands x m d e true q =
        let s = eqb-true x (body p k) q in
        let own = given_in g h.sized x (omega arith) (among_one x (body p k) s) in
        let same : m ≡ k = cc in
        (omega arith, rw (same, s) (under_self p (body p k) (body_below k l)))
    body-stands x m d e false q =
        let n = eqb-false x (body p k) q in
        h.stands x m d (sym (given_out g h.sized x (omega arith) (among_not x (body p k) n)) ∙ e)

    pub owned_body : Owned p (k + 1) (N p) after
    owned_body =
        record {
          sized = g.sized ∙ h.sized;
          bodies = λ m d. body_own m d (eqb m k) refl;
          handed = λ j x d e m. absurd (omega arith);
          stands = λ x m d e. body-stands x m d e (eqb x (body p k)) refl;
        }

  -- the children of the node before: they are no bodies, no other's children, and stand before it
  module _ {owners after : List (Option ℕ)} (from i : ℕ) (next : from ≤ i + 1) (l : i < N p) (h : Owned p (A p) from owners)
      (g : Gives (children_of p i) (owner_of owners i) owners after) where
    body_keeps : (k : ℕ) → k < A p → (b : Bool) → among (body p k) (children_of p i) ≡ b → owner_of after (body p k) ≡ Some k
    body_keeps k d true m = absurd (no_body p (body p k) (tree.once (body p k) (body_below k d)) i k l d m refl)
    body_keeps k d false m = let low = body_below k d in given_out g h.sized (body p k) (omega arith) m ∙ h.bodies k d

    later_keeps : (j : ℕ) → i ≤ j → j < N p → (b : Bool) → among j (children_of p i) ≡ b → owner_of after j ≡ owner_of owners j
    later_keeps j d e true m = absurd (omega (arith, children-below p tree.formed i j l m))
    later_keeps j d e false m = given_out g h.sized j (omega arith) m

    child_handed : (j x : ℕ) → i ≤ j → j < N p → among x (children_of p j) ≡ true → (b : Bool) → among x (children_of p i) ≡ b
        → owner_of after x ≡ owner_of owners j
    child_handed j x d e m true n =
        let low = children-below p tree.formed j x e m in
        let same : i ≡ j = one_parent p x (tree.once x (omega arith)) i j l e n m in
        given_in g h.sized x (omega arith) n ∙ ap (owner_of owners) same
    child_handed j x d e m false n =
        let low = children-below p tree.formed j x e m in
        let apart : i ≡ j → ⊥ = λ q. false≢true (sym n ∙ rw (← q) at m) in
        given_out g h.sized x (omega arith) n ∙ h.handed j x (omega (arith, apart)) e m

    child_stands : (x m : ℕ) → x < N p → owner_of after x ≡ Some m → (b : Bool) → among x (children_of p i) ≡ b
        → (m < A p) × (stands_under p (under_each p) x m ≡ true)
    child_stands x m d e true n =
        let own = h.stands i m l (sym (given_in g h.sized x (omega arith) n) ∙ e) in
        (own.0, under_child p tree.formed (body p m) i x own.1 n)
    child_stands x m d e false n = h.stands x m d (sym (given_out g h.sized x (omega arith) n) ∙ e)

    pub owned_node : Owned p (A p) i after
    owned_node =
        record {
          sized = g.sized ∙ h.sized;
          bodies = λ k d. body_keeps k d (among (body p k) (children_of p i)) refl;
          handed = λ j x d e m.
              child_handed j x d e m (among x (children_of p i)) refl ∙ sym (later_keeps j d e (among j (children_of p i)) refl);
          stands = λ x m d e. child_stands x m d e (among x (children_of p i)) refl;
        }
