-- The bytes that a source gave tell what all bytes at its path tell.
use Rattle.std.proofs.Common.{◌≡◌, ℕ, List, false, true, Option, Some, None, slice_get, refl, sym, ap, ◌∙◌}
use Rattle.up_base.specs.Lists.{IsPrefix}
use Rattle.up_engine.specs.Runs.{Gave, Ways, ending}
use Rattle.up_model.proofs.Shown.{shown_is_told, shown_of_all}
use Rattle.up_model.specs.Ends.{is_source}
use Rattle.up_model.specs.Outcomes.{is_cause, shown_by, source_outcome}
use Rattle.up_model.specs.declared.form.SourceForm.{SourceForm}
use Rattle.up_model.specs.declared.kind.Kind.{Kind}
use Rattle.up_model.specs.declared.kind.Kind.TheVariants.{Source}
use Rattle.up_model.specs.declared.outcome.Outcome.{Outcome}
use Rattle.up_model.specs.declared.outcome.Outcome.TheVariants.{Whole}
use Rattle.up_model.specs.declared.pipe.Pipe.{Pipe}
use Rattle.up_outside.specs.Held.{Held}
use Rattle.upipe_run.specs.FirstCauses.{HasOutcome}
use Rattle.upipe_run.specs.WholeOutput.{IsWholeSource}
use Rattle.upipe_run.proofs.Decided.{IsToldBy}
use Rattle.upipe_run.proofs.WholeRuns.{source_clean}

told_by_all : (form : SourceForm) (limit : ℕ) (given bytes : List ℕ) → IsPrefix given bytes → (shown_by form limit given ≡ None → given ≡ bytes)
    → source_outcome form limit bytes ≡ source_outcome form limit given
told_by_all form limit given bytes first all = by (shown_by form limit given) refl
  where
    by : (shown : Option Outcome) → shown_by form limit given ≡ shown → source_outcome form limit bytes ≡ source_outcome form limit given
    by None is = ap (source_outcome form limit) (sym (all is))
    by (Some told) is = ap (source_outcome form limit) first.1 ∙ shown_of_all form limit given first.0 told is ∙ sym (shown_is_told form limit given told is)

same_bytes : (a b : List ℕ) → Some a ≡ Some b → a ≡ b
same_bytes a b same = cc

-- the bytes at a path have one outcome
pub one_outcome : (held : Held) (kind : Kind) (a b : Outcome) → HasOutcome held kind a → HasOutcome held kind b → a ≡ b
one_outcome held (Source path form limit) a b one other =
    let same : one.0 ≡ other.0 = same_bytes one.0 other.0 (sym one.1 ∙ other.1) in
    sym one.2 ∙ ap (source_outcome form limit) same ∙ other.2
one_outcome held kind a b one other = absurd one

-- so those of a whole source have no cause
pub not_whole_too : (held : Held) (kind : Kind) (told : Outcome) → HasOutcome held kind told → is_cause told ≡ true → IsWholeSource held kind → ⊥
not_whole_too held (Source path form limit) told has cause whole =
    let same : told ≡ Whole = one_outcome held (Source path form limit) told Whole has whole in
    let wrong : true ≡ false = sym cause ∙ ap is_cause same in
    cc
not_whole_too held kind told has cause whole = has

module _ (pipes : List Pipe) (ways : Ways) (held : Held) (place : ℕ) (pipe : Pipe) (at : slice_get pipes place ≡ Some pipe)
    (gave : is_source pipe.kind ≡ true → Gave pipes ways held place pipe) where
  -- a source without a failed read has the outcome of what it gave
  pub has_outcome : (told : Outcome) → IsToldBy pipe.kind (ways.failed place) (ways.given place) told → HasOutcome held pipe.kind told
  has_outcome told by =
      let gives = (gave (rw by.is refl)).there by.path (rw by.is refl) in
      let all = told_by_all by.form by.limit (ways.given place) gives.0 gives.2 (λ unshown. gives.3 by.clean (rw by.is unshown)) in
      rw by.is (gives.0, gives.1, all ∙ by.told)

  -- one without a cause is whole
  pub whole_by : (kind : Kind) → pipe.kind ≡ kind → is_cause (ending pipes ways place) ≡ false → IsWholeSource held kind
  whole_by (Source path form limit) is none =
      let gives = (gave (rw is refl)).there path (rw is refl) in
      let clean = source_clean path form limit (ways.failed place) (ways.given place) _ (rw (at, is) at none) in
      let all = told_by_all form limit (ways.given place) gives.0 gives.2 (λ unshown. gives.3 clean.0 (rw is unshown)) in
      (gives.0, gives.1, all ∙ clean.1)
  whole_by kind is none = tt
