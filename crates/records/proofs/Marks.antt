-- Marks and sizes of groups, and the record that stands at a place. Assumes nothing.
use Prim.Native.Nat.{ℕ, ◌+◌, ◌*◌, ◌-◌, ◌≤◌, ◌<◌}
use native.Mathlib.Nat.{mul-le-mul}
use native.Mathlib.Omega.{arith}
use mathlib.Core.Path.{◌≡◌, refl, sym, ap, ◌∙◌}
use mathlib.Core.Bool.{Bool, true, false}
use mathlib.Core.List.{List, [], ◌∷◌}
use borrow.Author.Tests.{eq-eqb, ne_eqb, eqb-true, le-leb, lt-leb, leb-true, leb-false}
use lib.Dec.{eqb, leb}
use lib.ListN.{length, get_or}
use Rattle.std.specs.Prelude.{if◌then◌else◌, Some}
use Rattle.model.specs.Lists.{word}
use Rattle.model.specs.Blocks.{size}
use Rattle.model.specs.Files.{file_limit, turn, mark, groups, bytes, marked, marked_by}
use Rattle.model.specs.declared.Group.{Group}
use Rattle.model.proofs.Booleans.{both_true, and_true}
use Rattle.records.specs.Runs.{stands}

-- a record has few words, and so have all records of a file
pub few_words : (g : Group) → size g ≤ 64
few_words Group.Field = omega arith
few_words Group.Node = omega arith
few_words Group.Action = omega arith
few_words Group.Table = omega arith
few_words Group.Rule = omega arith
few_words Group.Root = omega arith

pub few_in_all : (g : Group) (words count : ℕ) → words ≡ size g → count ≤ file_limit → words * count ≤ 64 * file_limit
few_in_all g words count e h = rw e (mul-le-mul (few_words g) h)

-- the root comes last
pub last_turn : (g : Group) → turn g ≤ turn Group.Root
last_turn Group.Field = omega arith
last_turn Group.Node = omega arith
last_turn Group.Action = omega arith
last_turn Group.Table = omega arith
last_turn Group.Rule = omega arith
last_turn Group.Root = omega arith

-- a group is known by its turn
pub same-group : (g h : Group) → turn g ≡ turn h → g ≡ h
same-group g h e = sym (there g) ∙ ap back e ∙ there h
  where
    back : ℕ → Group
    back n = get_or groups n Group.Root

    there : (g : Group) → back (turn g) ≡ g
    there Group.Field = refl
    there Group.Node = refl
    there Group.Action = refl
    there Group.Table = refl
    there Group.Rule = refl
    there Group.Root = refl

module _ (file : List ℕ) (at : ℕ) where
  -- the two bytes of a mark, one after the other
  module _ (g : Group) (m : List ℕ) (e : m ≡ mark g) where
    pub first_alike : word file at ≡ get_or m 0 0 → eqb (word file (at + 1)) (get_or m 1 0) ≡ marked file at g
    first_alike h = rw (← e, eq-eqb (word file at) (get_or m 0 0) h)

    pub first_other : (word file at ≡ get_or m 0 0 → ⊥) → eqb (word file at) (get_or m 0 0) ≡ marked file at g
    first_other h = rw (← e, ne_eqb (word file at) (get_or m 0 0) h)

  -- a group whose mark stands there is the one that is found, and the one that is found has its mark there
  pub marked_found : (g : Group) → marked file at g ≡ true → marked_by file at groups ≡ Some g
  unfolding marked_by
  marked_found g h =
      let both = both_true (eqb (word file at) (word (mark g) 0)) (eqb (word file (at + 1)) (word (mark g) 1)) h in
      go g (eqb-true (word file at) (word (mark g) 0) both.0) (eqb-true (word file (at + 1)) (word (mark g) 1) both.1)
    where
      go : (g : Group) → word file at ≡ word (mark g) 0 → word file (at + 1) ≡ word (mark g) 1 → marked_by file at groups ≡ Some g
      go Group.Field a b = rw (a, b)
      go Group.Node a b = rw (a, b)
      go Group.Action a b = rw (a, b)
      go Group.Table a b = rw (a, b)
      go Group.Rule a b = rw (a, b)
      go Group.Root a b = rw (a, b)

  pub found_marked : (gs : List Group) (g : Group) → marked_by file at gs ≡ Some g → marked file at g ≡ true
  unfolding marked_by
  found_marked [] g e = cc
  found_marked (h ∷ gs) g e = go (marked file at h) refl e (found_marked gs g)
    where
      go : (b : Bool) → marked file at h ≡ b → (if b then Some h else marked_by file at gs) ≡ Some g
          → (marked_by file at gs ≡ Some g → marked file at g ≡ true) → marked file at g ≡ true
      go true m k later = let same : h ≡ g = cc in rw same at m
      go false m k later = later k

  -- a record stands with all its bytes where its mark does and the file goes on
  module _ (g : Group) where
    pub cut : (n : ℕ) → n ≡ bytes g → at ≤ length file → length file - at < n → false ≡ stands file g at
    unfolding stands
    cut n e h k = rw (lt-leb (at + bytes g) (length file) (omega arith))

    pub not_cut : (n : ℕ) → n ≡ bytes g → at ≤ length file → n ≤ length file - at → (b : Bool) → b ≡ marked file at g → b ≡ stands file g at
    unfolding stands
    not_cut n e h k b d = rw (le-leb (at + bytes g) (length file) (omega arith)) d

    pub stands_parts : stands file g at ≡ true → (at + bytes g ≤ length file) × (marked file at g ≡ true)
    unfolding stands
    stands_parts h =
        let both = both_true (leb (at + bytes g) (length file)) (marked file at g) h in
        (leb-true (at + bytes g) (length file) both.0, both.1)

    -- its mark stands there, so the file ends too early
    pub not_there : marked file at g ≡ true → stands file g at ≡ false → length file < at + bytes g
    unfolding stands
    not_there m f = leb-false (at + bytes g) (length file) (rw (m, and_true) at f)
