-- Counts of faults that rose where something failed, one after the other.
use Rattle.std.proofs.Common.{◌≡◌, ℕ, ◌+◌, ◌≤◌, Bool, Option, Some, None, nat_lt, true, false, refl, sym, subst, ◌∙◌, arith}
use Rattle.std.proofs.lemmas.Bool.{lt-ltb}
use Rattle.up_outside.specs.Counts.{Rose, CountsWhere}
use Rattle.up_outside.specs.States.{SinkState}
use Rattle.up_outside.specs.Told.{Then}
use Rattle.up_outside.proofs.Told.{Then-trans, summed_on}
use Rattle.upipe_run.specs.Filling.{IsSameSink}

-- a count that stays
pub stays : (failed : Bool) (before now : ℕ) → failed ≡ false → now ≡ before → CountsWhere failed before now
stays failed before now is same = record {
  later = omega arith;
  rose = λ did. absurd (let wrong : true ≡ false = sym did ∙ is in cc);
  stays = λ not. same;
}

-- after a call without a fault, or before one
pub then_none : (failed : Bool) (a b c : ℕ) → CountsWhere failed a b → CountsWhere false b c → CountsWhere failed a c
then_none failed a b c one none = subst (CountsWhere failed a) (sym (none.stays refl)) one

pub none_then : (failed : Bool) (a b c : ℕ) → CountsWhere false a b → CountsWhere failed b c → CountsWhere failed a c
none_then failed a b c none one = subst (λ n. CountsWhere failed n c) (none.stays refl) one

pub rose_later : (a b c : ℕ) → Rose a b → b ≤ c → Rose a c
rose_later a b c rose later = omega arith

pub later_rose : (a b c : ℕ) → a ≤ b → Rose b c → Rose a c
later_rose a b c later rose = omega arith

-- the same sink, and still the same
pub told_still : {X : Type 0} (a : Option X) → Then (λ before after. Unit {0}) a a
told_still None = tt
told_still (Some x) = tt

pub same_itself : (a : SinkState) → IsSameSink a a
same_itself a = record { place = refl; sum = told_still a.moved }

pub same_on : (a b c : SinkState) → IsSameSink a b → IsSameSink b c → IsSameSink a c
same_on a b c one two = record {
  place = two.place ∙ one.place;
  sum = Then-trans (λ before after. Unit {0}) (λ before after. Unit {0}) (λ before after. Unit {0}) a.moved b.moved c.moved (λ x y z s t. tt) one.sum two.sum;
}

-- a write is of the same sink
pub same_summed : (a b : SinkState) (n : ℕ) → b.place ≡ a.place → Then (λ before after. after ≡ before + n) a.moved b.moved → IsSameSink a b
same_summed a b n place sum = record { place = place; sum = told_summed a.moved b.moved sum }
  where
    told_summed : (x y : Option ℕ) → Then (λ before after. after ≡ before + n) x y → Then (λ before after. Unit {0}) x y
    told_summed None None sum = tt
    told_summed None (Some y) sum = absurd sum
    told_summed (Some x) None sum = absurd sum
    told_summed (Some x) (Some y) sum = tt

-- a sum that grew, and grew again, to a total
pub summed_total : (a b c : Option ℕ) (k n total : ℕ) → total ≡ k + n → Then (λ before after. after ≡ before + k) a b → Then (λ before after. after ≡ before + n) b c
    → Then (λ before after. after ≡ before + total) a c
summed_total a b c k n total is one two = subst (λ m. Then (λ before after. after ≡ before + m) a c) (sym is) (summed_on a b c k n one two)

-- an object that had no fault, and whether it has one
pub fresh_stays : (before now : ℕ) → before ≡ 0 → CountsWhere false before now → nat_lt 0 now ≡ false
fresh_stays before now fresh counts = rw (counts.stays refl ∙ fresh) refl

pub fresh_rose : (before now : ℕ) → CountsWhere true before now → nat_lt 0 now ≡ true
fresh_rose before now counts = lt-ltb 0 now (let rose = counts.rose refl in omega arith)

-- whether an object that had no fault has one
pub same_flag : (failed : Bool) (before now : ℕ) → before ≡ 0 → CountsWhere failed before now → nat_lt 0 now ≡ failed
same_flag true before now fresh counts = fresh_rose before now counts
same_flag false before now fresh counts = fresh_stays before now fresh counts

pub still_counted : (a : Option ℕ) → Then (λ before after. after ≡ before + 0) a a
still_counted None = tt
still_counted (Some x) = omega arith
