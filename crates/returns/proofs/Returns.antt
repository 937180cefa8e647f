-- What a call for C returns is decided by its answer. Assumes nothing.
use Prim.Native.Nat.{ℕ}
use mathlib.Core.Path.{◌≡◌}
use mathlib.Core.List.{List, [], ◌∷◌}
use Rattle.model.specs.Lists.{word}
use Rattle.model.specs.Answers.{Answer, done, number_in, values_in}
use Rattle.returns.specs.Returns.{Returns}

-- two returns that meet the statement for one answer are equal
pub one_return : {answer : Answer (List ℕ)} {r first second third r' first' second' third' : ℕ}
    → Returns answer r first second third → Returns answer r' first' second' third'
    → ◌≡◌ {A = ℕ × ℕ × ℕ × ℕ} (r, first, second, third) (r', first', second', third')
one_return x y = cc

-- a success by its values, and 0 for those that it doesn't have
pub success : (values : List ℕ) {r first second third : ℕ}
    → Returns (done (word values 0 ∷ word values 1 ∷ word values 2 ∷ [])) r first second third → Returns (done values) r first second third
success values h = record { number = h.number; first_value = h.first_value; second_value = h.second_value; third_value = h.third_value }

-- a refusal by its number and its place
pub refusal : {answer : Answer (List ℕ)} {number place : ℕ} → number ≡ number_in answer → values_in answer ≡ place ∷ [] → Returns answer number place 0 0
refusal e h = record { number = e; first_value = rw h; second_value = rw h; third_value = rw h }
