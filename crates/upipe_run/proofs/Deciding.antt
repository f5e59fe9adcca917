-- Which pipe decides how a run is told.
use Rattle.std.proofs.Common.{◌≡◌, ℕ, ◌<◌, ◌≤◌, List, length, map, get_or, cond, ltb, true, false, Option, Some, None, slice_get, refl, subst, arith, inl, inr}
use Rattle.std.specs.List.{position_or_len}
use Rattle.std.specs.Option.{option_map_or}
use Rattle.std.proofs.lemmas.Bool.{cases_lt, lt-ltb}
use Rattle.std.proofs.lemmas.List.{get_or_past}
use Rattle.std.proofs.lemmas.List.FromFn.{get_or-map-range_with_len, length-map-range_with_len}
use Rattle.std.proofs.lemmas.List.Quantifiers.{position-Some}
use Rattle.std.proofs.lemmas.List.Sums.{fails_before_first}
use Rattle.std.proofs.lemmas.Option.{slice_get_past, slice_get_within}
use Rattle.up_model.proofs.WellFormed.{there}
use Rattle.up_model.specs.Inputs.{places}
use Rattle.up_model.specs.Outcomes.{deciding, is_cause}
use Rattle.up_model.specs.declared.outcome.Outcome.{Outcome}
use Rattle.up_model.specs.declared.outcome.Outcome.TheVariants.{Whole, ReadFault, WriteFault, BadFrame, TooLong, Broken, NoMemory}
use Rattle.up_model.specs.declared.pipe.Pipe.{Pipe}
use Rattle.upipe_run.specs.Endings.{ending_by, ending_told}
use Rattle.upipe_run.specs.declared.ending.Ending.TheVariants as endings

-- a place of no pipe decides nothing, nor does one of no outcome
module _ (pipes : List Pipe) (ends : List Outcome) (place : ℕ) where
  pub past_pipes : length pipes ≤ place → endings.Whole ≡ ending_told pipes ends (Some place)
  past_pipes past = let none = slice_get_past pipes place past in rw none refl

  decides_nothing : (pipe : Option Pipe) → endings.Whole ≡ option_map_or (λ (pipe : Pipe). ending_by pipe Whole) pipe endings.Whole
  decides_nothing None = refl
  decides_nothing (Some pipe) = refl

  pub past_ends : length ends ≤ place → endings.Whole ≡ ending_told pipes ends (Some place)
  past_ends past =
      let whole : get_or ends place Whole ≡ Whole = get_or_past ends place Whole past in
      rw whole (decides_nothing (slice_get pipes place))

-- a cause is told
cause_told : (pipe : Pipe) (outcome : Outcome) → is_cause outcome ≡ true → ending_by pipe outcome ≡ endings.Whole → ⊥
cause_told pipe Whole cause told = absurd (cc)
cause_told pipe ReadFault cause told = cc
cause_told pipe WriteFault cause told = cc
cause_told pipe (BadFrame offset) cause told = cc
cause_told pipe (TooLong limit) cause told = cc
cause_told pipe Broken cause told = absurd (cc)
cause_told pipe NoMemory cause told = absurd (cc)

-- a whole run is one that no pipe decides
pub none_decides : (pipes : List Pipe) (ends : List Outcome) → length ends ≡ length pipes → ending_told pipes ends (deciding ends) ≡ endings.Whole → deciding ends ≡ None
none_decides pipes ends each whole = by (deciding ends) refl whole
  where
    by : (decides : Option ℕ) → deciding ends ≡ decides → ending_told pipes ends decides ≡ endings.Whole → decides ≡ None
    by None is whole = refl
    by (Some place) is whole =
        let found = position-Some is_cause ends place Whole is in
        let pipe = there pipes place (omega (arith, found.0, each)) in
        absurd (cause_told pipe.0 (get_or ends place Whole) found.1 (rw pipe.1 at whole))

none_before : (n len : ℕ) → cond (ltb n len) (Some n) None ≡ None → len ≤ n
none_before n len none =
    elim (cases_lt n len) [
      | inl within ↦ absurd (let some : Some n ≡ None = rw (lt-ltb n len within) at none in cc)
      | inr beyond ↦ beyond
    ]

module _ (pipes : List Pipe) (of : ℕ → Outcome) where
  pub each_told : length (map of (places pipes)) ≡ length pipes
  each_told = length-map-range_with_len of 0 (length pipes)

  -- where none decides, no pipe has a cause
  pub no_cause : deciding (map of (places pipes)) ≡ None → (place : ℕ) (pipe : Pipe) → slice_get pipes place ≡ Some pipe → is_cause (of place) ≡ false
  no_cause none place pipe is =
      let within : place < length pipes = slice_get_within pipes place pipe is in
      let far : length (map of (places pipes)) ≤ position_or_len is_cause (map of (places pipes)) = none_before _ _ none in
      let fails : is_cause (get_or (map of (places pipes)) place Whole) ≡ false =
      fails_before_first is_cause (map of (places pipes)) place Whole (omega (arith, within, far, each_told)) in
      subst (λ (outcome : Outcome). is_cause outcome ≡ false) (get_or-map-range_with_len of 0 (length pipes) place place Whole within (omega arith)) fails
