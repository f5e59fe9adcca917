use Rattle.std.proofs.Common.{ap, sym, ◌∙◌}
use Rattle.std.specs.Option.{option_map_or}
use Rattle.up_model.specs.declared.outcome.Outcome.TheVariants.{BadFrame, Whole}
use Rattle.up_strand.proofs.frame_source.FrameSource.outcome_at_end.Goals as goal

pub returns-in-Some : goal.returns-in-Some
returns-in-Some g c bytes given stands = ap (λ place. option_map_or BadFrame place Whole) (sym c.in-Some.is ∙ c.cut.ensures bytes given stands)

pub returns-in-None : goal.returns-in-None
returns-in-None g c bytes given stands = ap (λ place. option_map_or BadFrame place Whole) (sym c.in-None.is ∙ c.cut.ensures bytes given stands)
