-- The kinds `source` and `sink` keep the laws.
use Rattle.std.proofs.Common.{ℕ, [], ◌++◌, List, refl, arith, length-append}
use Rattle.std.proofs.lemmas.List.Elements.{All-nil}
use Rattle.up_base.specs.Lists.{IsPrefix}
use Rattle.up_model.proofs.Lawful.{IsLawful, KeepsFlows, no_options_kept, stands_for_itself}
use Rattle.up_model.proofs.Joined.{joined-append, frames_of-append}
use Rattle.up_model.specs.Ends.{end_meaning, written_by}
use Rattle.up_model.specs.FrameSpelling.{frames_of}
use Rattle.up_model.specs.Packet.{Flow, IsLegal, joined}
use Rattle.up_model.specs.Tallies.{IsAtMost, of_taken}
use Rattle.up_model.specs.declared.fan_out.FanOut.{FanOut}
use Rattle.up_model.specs.declared.form.SinkForm.{SinkForm}
use Rattle.up_model.specs.declared.form.SinkForm.TheVariants.{Raw, Framed}
use Rattle.up_model.specs.declared.form.SourceForm.{SourceForm}
use Rattle.up_model.specs.declared.kind.Kind.TheVariants.{Source, Sink}

sums_grow : (taken more : Flow) → IsAtMost (of_taken taken) (of_taken (taken ++ more))
sums_grow taken more = record {
  taken = omega (arith, length-append taken more);
  put = omega arith;
  dropped = omega arith;
  cut = omega arith;
  gained = omega arith;
  lost = omega arith;
}

-- what is written of more packets goes on with what was written of the first
abbrev pub WritesOn : (Flow → List ℕ) → Type 0
WritesOn written = (taken more : Flow) → IsPrefix (written taken) (written (taken ++ more))

pub sink_writes_on : (form : SinkForm) → WritesOn (written_by form)
sink_writes_on Raw taken more = (joined more, joined-append taken more)
sink_writes_on Framed taken more = (frames_of more, frames_of-append taken more)

ends_keep : (IsWithin : Type 0) (fan_out : FanOut) (written : Flow → List ℕ) → WritesOn written → KeepsFlows (end_meaning IsWithin fan_out written)
ends_keep IsWithin fan_out written writes_on = record {
  settles_nothing = refl;
  settles_no_sums = refl;
  owes_nothing = refl;
  owes_no_sums = refl;
  longer = λ taken more. ([], refl);
  whole = λ taken more. ([], refl);
  sums_longer = sums_grow;
  sums_whole = sums_grow;
  counts_settled = λ taken. record { packets_taken = refl; packets_put = refl };
  counts_whole = λ taken. record { packets_taken = refl; packets_put = refl };
  legal = λ taken legal. All-nil IsLegal;
  writes_on = writes_on;
}

pub source_is_lawful : (path : List ℕ) (form : SourceForm) (limit : ℕ) → IsLawful (Source path form limit)
source_is_lawful path form limit = record {
  flows = λ within. ends_keep _ _ _ (λ taken more. ([], refl));
  options = no_options_kept (Source path form limit) (λ option. refl);
  stand_in = stands_for_itself (Source path form limit) (λ numbers. refl);
}

pub sink_is_lawful : (path : List ℕ) (form : SinkForm) → IsLawful (Sink path form)
sink_is_lawful path form = record {
  flows = λ within. ends_keep _ _ _ (sink_writes_on form);
  options = no_options_kept (Sink path form) (λ option. refl);
  stand_in = stands_for_itself (Sink path form) (λ numbers. refl);
}
