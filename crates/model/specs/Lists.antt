-- Small words that the other files are written in. Assumes nothing: these are definitions.
use Rattle.std.specs.Prelude.{ℕ, zero, suc, Bool, true, false, ◌&&◌, List, [], ◌∷◌, ◌++◌, eqb, ltb, leb, get_or, take, drop, if◌then◌else◌, Option, Some, None}

-- low ≤ n ≤ high
abbrev pub within : ℕ → ℕ → ℕ → Bool
within low high n = leb low n && leb n high

-- f 0, f 1, .. , f (n - 1)
unfoldable pub each : {A : Type 0} → (ℕ → A) → ℕ → List A
each f zero = []
each f (suc n) = each f n ++ (f n ∷ [])

-- a list made front to back, n long: each element from those before it and its place
unfoldable pub build : {A : Type 0} → (List A → ℕ → A) → ℕ → List A
build f zero = []
build f (suc n) = let before = build f n in before ++ (f before n ∷ [])

-- the lists f 0, f 1, .. , f (n - 1), one after the other
unfoldable pub joined : {A : Type 0} → (ℕ → List A) → ℕ → List A
joined f zero = []
joined f (suc n) = joined f n ++ f n

-- the test holds of every i below n; of some
unfoldable pub every : (ℕ → Bool) → ℕ → Bool
every test zero = true
every test (suc n) = every test n && test n

unfoldable pub exists : (ℕ → Bool) → ℕ → Bool
exists test zero = false
exists test (suc n) = if exists test n then true else test n

-- the first of two places that is there
abbrev pub earlier : Option ℕ → Option ℕ → Option ℕ
earlier (Some i) later = Some i
earlier None later = later

-- the first i below n of which the test does not hold
unfoldable pub first_not : (ℕ → Bool) → ℕ → Option ℕ
first_not test zero = None
first_not test (suc n) = earlier (first_not test n) (if test n then None else Some n)

-- the place that was found, or the count where none was
abbrev pub or_count : ℕ → Option ℕ → ℕ
or_count n None = n
or_count n (Some i) = i

abbrev pub first_place : (ℕ → Bool) → ℕ → ℕ
first_place test n = or_count n (first_not test n)

-- those of the list of which the test holds
unfoldable pub those : (ℕ → Bool) → List ℕ → List ℕ
those test [] = []
those test (x ∷ xs) = if test x then x ∷ those test xs else those test xs

-- how often x stands in the list; whether it does
unfoldable pub times : ℕ → List ℕ → ℕ
times x [] = 0
times x (y ∷ ys) = if eqb x y then suc (times x ys) else times x ys

abbrev pub among : ℕ → List ℕ → Bool
among x xs = ltb 0 (times x xs)

-- the word at a place, and 0 past the end
abbrev pub word : List ℕ → ℕ → ℕ
word ws i = get_or ws i 0

-- the words at a place, n of them
abbrev pub part : List ℕ → ℕ → ℕ → List ℕ
part ws at n = take n (drop at ws)
