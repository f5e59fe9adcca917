-- What every kind keeps, and how a kind comes to keep it.
use Rattle.std.proofs.Common.{◌≡◌, ℕ, ◌≤◌, ℤ, List, [], ◌++◌, All, Option, Some, None, Bool, true, false, refl, ap, subst}
use Rattle.std.proofs.lemmas.Bool.{false≢true}
use Rattle.std.specs.Prelude.{MatchOption, ◌&&◌, unwrap_or}
use Rattle.up_base.specs.Lists.{IsPrefix}
use Rattle.up_model.proofs.Packetwise.{passed-append, summed-grows, work_counts, KeepsLegal, passed_is_legal}
use Rattle.up_model.specs.KindMeaning.{KindMeaning, Setting, admits}
use Rattle.up_model.specs.Kinds.{IsWithinBounds, meaning_of, setting_of, module_kind}
use Rattle.up_model.specs.OptionValues.{IsSet}
use Rattle.up_model.specs.Packet.{Flow, IsLegal}
use Rattle.up_model.specs.Packetwise.{Step, packetwise, passed}
use Rattle.up_model.specs.Tallies.{IsAtMost, nothing}
use Rattle.up_model.specs.Work.{Counts}
use Rattle.up_model.specs.declared.fan_out.FanOut.{FanOut}
use Rattle.up_model.specs.declared.kind.Kind.{Kind}
use Rattle.up_model.specs.declared.limits.TheConstants.{MAX_PID}
use Rattle.up_model.specs.declared.opt.Opt.{Opt}

-- nothing comes of nothing, what is settled stays, its sums grow and count the packets, legal packets give legal ones, and what is
-- written stays
pub record KeepsFlows (meaning : KindMeaning) : Type 0 where
  pub settles_nothing : meaning.settled [] ≡ []
  pub settles_no_sums : meaning.settled_tally [] ≡ nothing
  pub owes_nothing : meaning.output [] ≡ []
  pub owes_no_sums : meaning.tally [] ≡ nothing
  pub longer : (taken more : Flow) → IsPrefix (meaning.settled taken) (meaning.settled (taken ++ more))
  pub whole : (taken more : Flow) → IsPrefix (meaning.settled taken) (meaning.output (taken ++ more))
  pub sums_longer : (taken more : Flow) → IsAtMost (meaning.settled_tally taken) (meaning.settled_tally (taken ++ more))
  pub sums_whole : (taken more : Flow) → IsAtMost (meaning.settled_tally taken) (meaning.tally (taken ++ more))
  pub counts_settled : (taken : Flow) → Counts (record { flow = meaning.settled taken; tally = meaning.settled_tally taken }) taken
  pub counts_whole : (taken : Flow) → Counts (record { flow = meaning.output taken; tally = meaning.tally taken }) taken
  pub legal : (taken : Flow) → All IsLegal taken → All IsLegal (meaning.output taken)
  pub writes_on : (taken more : Flow) → IsPrefix (meaning.written taken) (meaning.written (taken ++ more))

-- an option lies within its own bounds, and a value within them is set in it alone
pub record KeepsOptions (kind : Kind) : Type 0 where
  pub admitted : (option : Opt) (setting : Setting) → IsWithinBounds kind → setting_of kind option ≡ Some setting → admits setting setting.value ≡ true
  pub set : (option : Opt) (setting : Setting) (value : ℤ) → setting_of kind option ≡ Some setting → admits setting value ≡ true
      → IsSet option value kind (setting.set value)

-- a kind that stands in is within its bounds
abbrev pub KeepsBounds : Kind → Type 0
KeepsBounds kind = (numbers : List ℕ) → IsWithinBounds kind → All (λ number. number ≤ MAX_PID) numbers → IsWithinBounds (module_kind numbers kind)

pub record IsLawful (kind : Kind) : Type 0 where
  pub flows : IsWithinBounds kind → KeepsFlows (meaning_of kind)
  pub options : KeepsOptions kind
  pub stand_in : KeepsBounds kind

-- a kind that looks at each packet by itself
pub by_packets : (IsWithin : Type 0) (step : Step) (setting : Opt → Option Setting) (fan_out : FanOut) → KeepsLegal step
    → KeepsFlows (packetwise IsWithin step setting fan_out)
by_packets IsWithin step setting fan_out keeps = record {
  settles_nothing = refl;
  settles_no_sums = refl;
  owes_nothing = refl;
  owes_no_sums = refl;
  longer = λ taken more. (passed step more, passed-append step taken more);
  whole = λ taken more. (passed step more, passed-append step taken more);
  sums_longer = summed-grows step;
  sums_whole = summed-grows step;
  counts_settled = work_counts step;
  counts_whole = work_counts step;
  legal = passed_is_legal step keeps;
  writes_on = λ taken more. ([], refl);
}

-- nothing is no setting
pub not_some : {X : Type 0} (x : X) → None ≡ Some x → ⊥
not_some {X} x is = subst (λ (option : Option X). MatchOption option (Unit {0}) (λ there. ⊥)) is tt

-- what holds of the one holds of the other, where both are the same setting
pub of_some : {X : Type 0} (IsSo : X → Type 0) {x y : X} → Some x ≡ Some y → IsSo x → IsSo y
of_some IsSo {y = y} are_same is = subst IsSo (ap (λ there. unwrap_or there y) are_same) is

-- both are true where the two together are
pub both_are : (x y : Bool) → (x && y) ≡ true → (x ≡ true) × (y ≡ true)
both_are true y are = (refl, are)
both_are false y are = absurd (false≢true are)

-- a kind without options
pub no_options_kept : (kind : Kind) → ((option : Opt) → setting_of kind option ≡ None) → KeepsOptions kind
no_options_kept kind none = record {
  admitted = λ option setting within is. absurd (not_some setting (rw (none option) at is));
  set = λ option setting value is admitted. absurd (not_some setting (rw (none option) at is));
}

-- a kind whose module has its own kind
pub stands_for_itself : (kind : Kind) → ((numbers : List ℕ) → module_kind numbers kind ≡ kind) → KeepsBounds kind
stands_for_itself kind own numbers within pids = rw (own numbers) within
