-- What stores keep over calls that follow each other.
use Rattle.std.proofs.Common.{◌∙◌, refl, arith}
use Rattle.up_shape.specs.Stores.{StoreState, Stays}

module _ {F : Type 0} where
  pub Stays-refl : (s : StoreState F) → Stays s s
  Stays-refl s = record { same = refl; few = omega arith; more = omega arith }

  pub Stays-trans : (a b c : StoreState F) → Stays a b → Stays b c → Stays a c
  Stays-trans a b c one two = record {
    same = two.same ∙ one.same;
    few = omega (arith, one.few, two.few);
    more = omega (arith, one.more, two.more);
  }
