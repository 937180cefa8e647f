-- How a scanned file ends: whole, or with its first fault, where one that is too long has a fault at the limit. Assumes nothing.
use Prim.Native.Nat.{ℕ, suc, ◌+◌, ◌≤◌, ◌<◌}
use native.Mathlib.Omega.{arith}
use mathlib.Core.Path.{◌≡◌, refl, sym, ap, ◌∙◌}
use mathlib.Core.Bool.{Bool, true, false}
use mathlib.Core.List.{List}
use borrow.Author.Tests.{lt-ltb, le-ltb, le-leb, lt-leb, leb-true}
use lib.Dec.{ltb, leb}
use lib.ListN.{length}
use Rattle.std.specs.Prelude.{if◌then◌else◌, Err}
use Rattle.model.specs.Files.{Record, whole, fault, file_limit, bytes, records_from, held}
use Rattle.model.specs.declared.Group.{Group}
use Rattle.model.specs.declared.Refusal.{Refusal}
use Rattle.records.specs.declared.Runs.{Runs}
use Rattle.records.specs.Runs.{stands, Scanned, root_in, records_in, Whole, Ends}
use Rattle.records.proofs.Marks.{stands_parts}
use Rattle.records.proofs.Records.{found_none, found_more, found_whole}

-- the smaller of a place and the limit
abbrev first : ℕ → ℕ
first at = if ltb file_limit at then file_limit else at

pub at_limit : (at : ℕ) → file_limit < at → file_limit ≡ first at
at_limit at h = rw (lt-ltb file_limit at h)

pub below_limit : (at : ℕ) → at ≤ file_limit → at ≡ first at
below_limit at h = rw (le-ltb file_limit at h)

module _ (file : List ℕ) where
  -- a fault that was found is the first, or the limit is
  held-fault : (at : ℕ) → records_from (suc (length file)) file 0 0 ≡ fault at → at ≤ length file → held file ≡ fault (first at)
  unfolding held
  held-fault at e h = go (leb (length file) file_limit) refl
    where
      go : (b : Bool) → leb (length file) file_limit ≡ b → held file ≡ fault (first at)
      go true k = rw (k, e) (ap fault (below_limit at (omega (arith, leb-true (length file) file_limit k))))
      go false k = rw (k, e)

  module _ (xs : List Record) (e : records_from (suc (length file)) file 0 0 ≡ whole xs) where
    held_long : file_limit < length file → held file ≡ fault file_limit
    unfolding held
    held_long h = rw (lt-leb (length file) file_limit h, e)

    held-short : length file ≤ file_limit → held file ≡ whole xs
    unfolding held
    held-short h = rw (le-leb (length file) file_limit h, e)

  module _ (s : Runs) (x : Scanned file s) (b : Bool) (d : b ≡ stands file Group.Root s.rules.end) where
    pub no-root : b ≡ false → (why : Refusal) → why ≡ Refusal.File (first s.rules.end) → Ends file s (Err why)
    no-root f why e = (first s.rules.end, e, held-fault s.rules.end (found_none file s x (sym d ∙ f)) x.of_rules.inside)

    module _ (t : b ≡ true) (step : ℕ) (g : step ≡ bytes Group.Root) where
      pub root_and_more : (s.rules.end + step ≡ length file → ⊥) → (why : Refusal) → why ≡ Refusal.File (first (s.rules.end + step)) → Ends file s (Err why)
      root_and_more l why e =
          let inside = (stands_parts file s.rules.end Group.Root (sym d ∙ t)).0 in
          (first (root_in s).end, rw (e, g), held-fault (root_in s).end (found_more file s x (sym d ∙ t) (λ q. l (rw g q))) inside)

      module _ (q : s.rules.end + step ≡ length file) where
        found : records_from (suc (length file)) file 0 0 ≡ whole (records_in file s)
        found = found_whole file s x (sym d ∙ t) (rw (← g) q)

        pub too_long : file_limit < s.rules.end + step → Ends file s (Err (Refusal.File file_limit))
        too_long l = (file_limit, refl, held_long (records_in file s) found (rw (← q) l))

        pub whole_file : s.rules.end + step ≤ file_limit → Whole file s
        unfolding Whole
        whole_file l = let short = rw q at l in record { scanned = x; holds = held-short (records_in file s) found short; last = rw (← g) q; short = short }
