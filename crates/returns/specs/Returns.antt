-- What a call for C returns, and the three numbers that it leaves with its caller. Assumes nothing: these are definitions.
use Rattle.std.specs.Prelude.{ℕ, ◌≡◌, List}
use Rattle.model.specs.Lists.{word}
use Rattle.model.specs.Answers.{Answer, number_in, values_in}

-- a number that the answer doesn't name is 0
pub record Returns (answer : Answer (List ℕ)) (r first second third : ℕ) : Type 0 where
  pub number : r ≡ number_in answer
  pub first_value : first ≡ word (values_in answer) 0
  pub second_value : second ≡ word (values_in answer) 1
  pub third_value : third ≡ word (values_in answer) 2
