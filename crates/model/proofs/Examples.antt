-- The marked examples, the listing's, and ours: each row by computation. Assumes nothing.
use mathlib.Core.Path.{refl}
use Rattle.model.specs.Examples.{ExampleRows}
use Rattle.model.proofs.Compute.{compute}

pub examples : ExampleRows
unfolding compute
examples =
    record {
      one = (refl, refl, refl, refl);
      two = (refl, refl, refl);
      three = (refl, refl);
      four = (refl, refl, refl, refl);
      five = (refl, refl);
      six = (refl, λ valuation. refl);
      seven = (refl, λ valuation. refl);
      eight = (refl, refl, refl, refl, refl, refl, refl);
      nine = (refl, refl, refl, refl);
      listed = refl;
      both_sides_fail = (refl, refl, refl);
      one_side_fails = (refl, refl);
      wrong_all_the_same = (refl, refl);
      on_with_equations = refl;
      havoc_is_new = (refl, refl, refl);
      no_rules = refl;
      key_read_once = (refl, refl);
    }
