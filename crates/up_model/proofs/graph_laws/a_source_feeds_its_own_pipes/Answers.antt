use Rattle.std.proofs.Common.{◌∙◌}
use Rattle.up_model.proofs.FedSources.{fed_reached, unfed_both, fed_alike_at}
use Rattle.up_model.proofs.Ways.{same_flow}
use Rattle.up_model.specs.Meaning.{to_sources}
use Rattle.up_model.proofs.graph_laws.a_source_feeds_its_own_pipes.Goals as goal

pub returns : goal.returns
returns c does pipes given other place source is same =
    same_flow pipes does (to_sources pipes given) (to_sources pipes other) (unfed_both pipes given other) place source
    (fed_reached pipes given place ∙ is) (fed_alike_at pipes given other source same)
