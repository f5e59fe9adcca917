-- Counts of faults: of one call, and of several, one after the other.
use Rattle.std.proofs.Common.{◌≡◌, ℕ, ◌+◌, cond, nat_lt, Bool, true, false, refl, ap, ◌∙◌, arith}
use Rattle.std.proofs.lemmas.Bool.{lt-ltb}
use Rattle.up_engine.specs.Counting.{RoseBy}
use Rattle.up_outside.specs.Counts.{CountsWhere}

-- a count that began at 0 tells whether something failed
pub faults_tell : (failed : Bool) (before now : ℕ) → before ≡ 0 → CountsWhere failed before now → nat_lt 0 now ≡ failed
faults_tell true before now none counts = let up = counts.rose refl in lt-ltb 0 now (omega arith)
faults_tell false before now none counts = ap (nat_lt 0) (counts.stays refl ∙ none)

-- nothing was counted
pub rose_none : (faults count : ℕ) → faults ≡ 0 → RoseBy faults count count
rose_none faults count none = record { later = omega arith; rose = omega (arith, none); stays = λ is. refl }

-- one close more
pub rose_more : (faults more : ℕ) (failed : Bool) (a b c : ℕ) → more ≡ faults + cond failed 1 0 → RoseBy faults a b → CountsWhere failed b c → RoseBy more a c
rose_more faults more true a b c is one two =
    let rose = two.rose refl in
    record {
      later = omega (arith, one.later, two.later);
      rose = omega (arith, is, one.rose, rose);
      stays = λ none. absurd (omega (arith, is, none));
    }
rose_more faults more false a b c is one two =
    let same = two.stays refl in
    record {
      later = omega (arith, one.later, two.later);
      rose = omega (arith, is, one.rose, same);
      stays = λ none. same ∙ one.stays (omega (arith, is, none));
    }

-- by these, and then by those
pub rose_on : (one two : ℕ) (a b c : ℕ) → RoseBy one a b → RoseBy two b c → RoseBy (one + two) a c
rose_on one two a b c first second = record {
  later = omega (arith, first.later, second.later);
  rose = omega (arith, first.rose, second.rose, first.later, second.later);
  stays = λ none. second.stays (omega (arith, none)) ∙ first.stays (omega (arith, none));
}
