-- A file that is longer than can be read is answered from its first bytes: the text is the same. Assumes nothing.
use Prim.Native.Nat.{ℕ, zero, suc, ◌+◌, ◌<◌, ◌≤◌}
use native.Mathlib.Omega.{arith}
use mathlib.Core.Path.{◌≡◌, refl, sym, ap, ◌∙◌}
use mathlib.Core.Bool.{Bool, true, false}
use mathlib.Core.List.{List, [], ◌∷◌}
use lib.Dec.{eqb, ltb, leb}
use lib.ListN.{length, take}
use lib.Seq.{length-take-le, take_all, get_or-take}
use borrow.Author.Tests.{ltb-true, ltb-false, leb-true, leb-false, le-ltb, lt-leb, ne_eqb}
use Rattle.std.specs.Prelude.{if◌then◌else◌, Option, Some, None}
use Rattle.model.specs.Lists.{word}
use Rattle.model.specs.Files.{file_limit, turn, groups, Record, bytes, record_at, Held, whole, fault, behind, marked_by, record_there, records_from, too_long, held}
use Rattle.model.specs.Calls as calls
use Rattle.model.specs.Listing.{listing}
use Rattle.model.specs.declared.Group.{Group}
use Rattle.lister.specs.Lines.{read_limit}

-- ---- a fault that is found from a place on does not stand before it

abbrev Late : ℕ → Held → Type 0
Late at (whole xs) = Unit {0}
Late at (fault place) = at ≤ place

late_behind : (at next : ℕ) (x : Record) (h : Held) → at ≤ next → Late next h → Late at (behind x h)
late_behind at next x (whole xs) k l = tt
late_behind at next x (fault place) k l = omega arith

late_if : (at : ℕ) (b : Bool) (h k : Held) → Late at h → Late at k → Late at (if b then h else k)
late_if at true h k l m = l
late_if at false h k l m = m

late_there : (file : List ℕ) (at now : ℕ) (rest : ℕ → ℕ → Held) → ((next turned : ℕ) → Late next (rest next turned)) → (o : Option Group)
    → Late at (record_there file at now rest o)
unfolding record_there
late_there file at now rest l None = omega arith
late_there file at now rest l (Some g) =
    let next = at + bytes g in
    let here : at ≤ at = omega arith in
    let past : at ≤ next = omega arith in
    late_if at (ltb (turn g) now) _ _ here
    (late_if at (ltb (length file) next) _ _ here
    (late_if at (ltb (turn g) (turn Group.Root)) _ _
    (late_behind at next (record_at file at g) (rest next (turn g)) past (l next (turn g)))
    (late_if at (eqb next (length file)) _ _ tt past)))

late_from : (most : ℕ) (file : List ℕ) (at now : ℕ) → Late at (records_from most file at now)
unfolding records_from
late_from zero file at now = omega arith
late_from (suc most) file at now = late_there file at now (records_from most file) (λ next turned. late_from most file next turned) (marked_by file at groups)

-- so a file that is too long has its fault at the limit, where no fault stands before
late_long : (at : ℕ) (h : Held) → file_limit ≤ at → Late at h → too_long h ≡ fault file_limit
late_long at (whole xs) k l = refl
late_long at (fault place) k l = go (ltb file_limit place) refl
  where
    go : (b : Bool) → ltb file_limit place ≡ b → fault (if b then file_limit else place) ≡ fault file_limit
    go true e = refl
    go false e = ap fault (omega (arith, ltb-false file_limit place e))

long_from : (most : ℕ) (file : List ℕ) (at now : ℕ) → file_limit ≤ at → too_long (records_from most file at now) ≡ fault file_limit
long_from most file at now h = late_long at (records_from most file at now) h (late_from most file at now)

long_behind : (x : Record) (h : Held) → too_long (behind x h) ≡ too_long h
long_behind x (whole xs) = refl
long_behind x (fault place) = refl

-- ---- two files that are too long and have their first bytes in common

longest : (g : Group) → bytes g ≤ bytes Group.Rule
longest Group.Field = omega arith
longest Group.Node = omega arith
longest Group.Action = omega arith
longest Group.Table = omega arith
longest Group.Rule = omega arith
longest Group.Root = omega arith

module _ (x y : List ℕ) (same : (i : ℕ) → i < read_limit → word x i ≡ word y i) (long : read_limit ≤ length x) (also : read_limit ≤ length y) where
  marked-same : (at : ℕ) → at < file_limit → (gs : List Group) → marked_by x at gs ≡ marked_by y at gs
  unfolding marked_by
  marked-same at h [] = refl
  marked-same at h (g ∷ gs) = rw (same at (omega arith), same (at + 1) (omega arith), marked-same at h gs)

  module _ (at now : ℕ) (h : at < file_limit) (more other : ℕ → ℕ → Held)
      (rest : (g : Group) → too_long (more (at + bytes g) (turn g)) ≡ too_long (other (at + bytes g) (turn g))) where
    there_same : (o : Option Group) → too_long (record_there x at now more o) ≡ too_long (record_there y at now other o)
    unfolding record_there
    there_same None = refl
    there_same (Some g) =
        let next = at + bytes g in
        let l : next < read_limit = omega (arith, longest g) in
        rw (le-ltb (length x) next (omega arith), le-ltb (length y) next (omega arith), ne_eqb next (length x) (λ e. omega arith), ne_eqb next (length y) (λ e. omega arith))
        (go (ltb (turn g) now) (ltb (turn g) (turn Group.Root)))
      where
        go : (b c : Bool) → too_long (if b then fault at else if c then behind (record_at x at g) (more (at + bytes g) (turn g)) else fault (at + bytes g))
            ≡ too_long (if b then fault at else if c then behind (record_at y at g) (other (at + bytes g) (turn g)) else fault (at + bytes g))
        go true c = refl
        go false true = long_behind _ (more (at + bytes g) (turn g)) ∙ rest g ∙ sym (long_behind _ (other (at + bytes g) (turn g)))
        go false false = refl

  late_same : (m k at now : ℕ) → file_limit ≤ at → too_long (records_from m x at now) ≡ too_long (records_from k y at now)
  late_same m k at now h = long_from m x at now h ∙ sym (long_from k y at now h)

  from-same : (m k at now : ℕ) → file_limit < at + m → file_limit < at + k → too_long (records_from m x at now) ≡ too_long (records_from k y at now)
  unfolding records_from
  from-same zero k at now h l = late_same zero k at now (omega arith)
  from-same (suc m) zero at now h l = late_same (suc m) zero at now (omega arith)
  from-same (suc m) (suc k) at now h l = go (ltb at file_limit) refl (λ g. from-same m k (at + bytes g) (turn g) (omega arith) (omega arith))
    where
      go : (b : Bool) → ltb at file_limit ≡ b
          → ((g : Group) → too_long (records_from m x (at + bytes g) (turn g)) ≡ too_long (records_from k y (at + bytes g) (turn g)))
          → too_long (records_from (suc m) x at now) ≡ too_long (records_from (suc k) y at now)
      go false e rec = late_same (suc m) (suc k) at now (ltb-false at file_limit e)
      go true e rec =
          let h = ltb-true at file_limit e in
          rw (marked-same at h groups) (there_same at now h (records_from m x) (records_from k y) rec (marked_by y at groups))

-- ---- the law

held_cut : (file : List ℕ) → held (take read_limit file) ≡ held file
unfolding held
held_cut file = go (leb (length file) read_limit) refl
  where
    go : (b : Bool) → leb (length file) read_limit ≡ b → held (take read_limit file) ≡ held file
    go true e = ap held (take_all read_limit file (leb-true (length file) read_limit e))
    go false e =
        let l : read_limit < length file = leb-false (length file) read_limit e in
        let n : length (take read_limit file) ≡ read_limit = length-take-le read_limit file (omega arith) in
        rw (lt-leb (length (take read_limit file)) file_limit (omega arith), lt-leb (length file) file_limit (omega arith))
        (from-same (take read_limit file) file (λ i h. get_or-take read_limit file i 0 h) (omega arith) (omega arith)
        (suc (length (take read_limit file))) (suc (length file)) 0 0 (omega arith) (omega arith))

load_cut : (file : List ℕ) (pipeline_room rule_room : ℕ) → calls.load (take read_limit file) pipeline_room rule_room ≡ calls.load file pipeline_room rule_room
unfolding calls.load
load_cut file pipeline_room rule_room = simp (held_cut file)

pub listing_cut : (file : List ℕ) → listing (take read_limit file) ≡ listing file
unfolding listing
listing_cut file = rw (load_cut file)
