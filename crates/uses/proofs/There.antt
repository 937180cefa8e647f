-- The children of a node, one after the other. Assumes nothing.
use Prim.Native.Nat.{ℕ, ◌+◌, ◌<◌}
use native.Mathlib.Numerals.{add-one}
use mathlib.Core.Path.{◌≡◌, refl, ap, sym}
use mathlib.Core.List.{List, [], ◌∷◌, ◌++◌, append-nil, append_assoc}
use lib.ListN.{length, take, get_or}
use Rattle.std.proofs.Math.Seq.{take-suc}
use Rattle.std.specs.Prelude.{Option, None}
use Rattle.uses.specs.Counts.{there, all_there}

all_there-append : (xs ys : List (Option ℕ)) → all_there (xs ++ ys) ≡ all_there xs ++ all_there ys
all_there-append [] ys = refl
all_there-append (x ∷ xs) ys = rw (all_there-append xs ys) (sym (append_assoc (there x) (all_there xs) (all_there ys)))

pub all_there-next : (xs : List (Option ℕ)) (i : ℕ) → i < length xs → all_there (take (i + 1) xs) ≡ all_there (take i xs) ++ there (get_or xs i None)
all_there-next xs i h = rw (add-one, take-suc xs i None h, all_there-append) (ap (λ (ys : List ℕ). all_there (take i xs) ++ ys) (append-nil (there (get_or xs i None))))
