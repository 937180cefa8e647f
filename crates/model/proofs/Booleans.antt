-- Small laws of tests. Assumes nothing.
use mathlib.Core.Path.{◌≡◌, refl}
use mathlib.Core.Bool.{Bool, true, false, ◌&&◌, ◌||◌}
use Rattle.std.specs.Prelude.{if◌then◌else◌}

pub both_true : (a b : Bool) → a && b ≡ true → (a ≡ true) × (b ≡ true)
both_true true b h = (refl, h)
both_true false b h = (h, cc)

pub true_both : (a b : Bool) → a ≡ true → b ≡ true → a && b ≡ true
true_both a b p q = rw (p, q)

pub or_left : (a b : Bool) → a ≡ true → a || b ≡ true
or_left a b h = rw h

pub or_right : (a b : Bool) → b ≡ true → a || b ≡ true
or_right true b h = refl
or_right false b h = h

-- one of two things is taken by the first of two tests: if one of them holds, what each of them gives its thing is what the taken one has
pub by_side : {A : Type 0} (P : A → Type 0) (x y : Bool) (c d : A) → x || y ≡ true → (x ≡ true → P c) → (y ≡ true → P d) → P (if x then c else d)
by_side P true y c d h f g = f refl
by_side P false y c d h f g = g h

pub and_self : (a : Bool) → a && a ≡ a
and_self true = refl
and_self false = refl

pub and_true : (a : Bool) → a && true ≡ a
and_true true = refl
and_true false = refl

pub and_assoc : (a b c : Bool) → (a && b) && c ≡ a && (b && c)
and_assoc true b c = refl
and_assoc false b c = refl

-- what follows a wrong, or can't go wrong, adds none
pub no-more-wrong : (w p : Bool) → w || (p && false) ≡ w
no-more-wrong true p = refl
no-more-wrong false true = refl
no-more-wrong false false = refl
