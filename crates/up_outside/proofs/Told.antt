-- Changes of what is told, one after the other.
use Rattle.std.proofs.Common.{◌≡◌, ℕ, ◌+◌, Option, Some, None, IfSome, ap, ◌∙◌, zero-add, add_assoc, arith}
use Rattle.up_outside.specs.Told.{Then}

module _ {X : Type 0} where
  -- the one change and then the other
  pub Then-trans : (R S U : X → X → Type 0) (a b c : Option X) → ((x y z : X) → R x y → S y z → U x z) → Then R a b → Then S b c → Then U a c
  Then-trans R S U None None None both one two = tt
  Then-trans R S U None None (Some z) both one two = absurd two
  Then-trans R S U None (Some y) c both one two = absurd one
  Then-trans R S U (Some x) None c both one two = absurd one
  Then-trans R S U (Some x) (Some y) None both one two = absurd two
  Then-trans R S U (Some x) (Some y) (Some z) both one two = both x y z one two

  -- a change that says more, of a value of which this is so where it is told
  pub Then-map : (P : X → Type 0) (R S : X → X → Type 0) (a b : Option X) → ((x y : X) → P x → R x y → S x y) → IfSome a P → Then R a b → Then S a b
  Then-map P R S None None more is change = tt
  Then-map P R S None (Some y) more is change = absurd change
  Then-map P R S (Some x) None more is change = absurd change
  Then-map P R S (Some x) (Some y) more is change = more x y is change

  -- what is so after the change
  pub Then-after : (P Q : X → Type 0) (R : X → X → Type 0) (a b : Option X) → ((x y : X) → P x → R x y → Q y) → IfSome a P → Then R a b → IfSome b Q
  Then-after P Q R None None more is change = tt
  Then-after P Q R None (Some y) more is change = absurd change
  Then-after P Q R (Some x) None more is change = absurd change
  Then-after P Q R (Some x) (Some y) more is change = more x y is change

pub always : {X : Type 0} (a : Option X) → IfSome a (λ _. Unit {0})
always None = tt
always (Some x) = tt

-- a sum that began at nothing
pub counted_from : (a b : Option ℕ) (n : ℕ) → a ≡ Some 0 → Then (λ before after. after ≡ before + n) a b → b ≡ Some n
counted_from a None n is sum = absurd (rw is at sum)
counted_from a (Some m) n is sum = ap Some ((rw is at sum) ∙ zero-add n)

-- a sum that grew, and grew again
pub summed_on : (a b c : Option ℕ) (k n : ℕ) → Then (λ before after. after ≡ before + k) a b → Then (λ before after. after ≡ before + n) b c
    → Then (λ before after. after ≡ before + (k + n)) a c
summed_on a b c k n = Then-trans _ _ _ a b c (λ x y z one two. two ∙ ap (λ m. m + n) one ∙ add_assoc x k n)

pub summed_none : (a : Option ℕ) (n : ℕ) → n ≡ 0 → Then (λ before after. after ≡ before + n) a a
summed_none None n none = tt
summed_none (Some x) n none = omega arith
