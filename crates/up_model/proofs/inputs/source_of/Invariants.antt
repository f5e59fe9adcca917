use Rattle.std.proofs.Common.{◌≡◌, ◌-◌, length}
use Rattle.up_model.specs.Inputs.{ends_at_source, reached_within, source_of}
use Rattle.up_model.proofs.inputs.source_of.Given as goal

abbrev pub invariant-loop-step : goal.invariant-loop-step
invariant-loop-step l =
    reached_within (length l.pipes - l._step) ends_at_source l.pipes l.place ≡ source_of l.pipes l.fn.place
