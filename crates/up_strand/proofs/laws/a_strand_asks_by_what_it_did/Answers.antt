use Rattle.std.proofs.Common.{is_some, refl, sym, ap, ◌∙◌}
use Rattle.up_strand.proofs.HeadFlows.{none_of, reads_of_source, takes_of_lane, wants_more}
use Rattle.up_strand.proofs.LaneFlows.{ended_of_done, more_due, none_waiting, waits_for_lane}
use Rattle.up_strand.proofs.laws.a_strand_asks_by_what_it_did.Goals as goal
use Rattle.up_strand.specs.Strands.{first_ready, place_of, wants_in}
use Rattle.up_strand.specs.declared.want.Want.TheVariants.{Read, Input}

pub returns-clause-read : goal.returns-clause-read
returns-clause-read g c strand h stands wants =
    let asks = wants_more (first_ready strand) (place_of strand) (is_some strand.ended) (wants_in strand strand.intake) Read refl refl wants in
    (none_of h.ended (ap is_some (sym stands.ended.ended) ∙ asks.0), reads_of_source g.S.Source.state strand strand.intake h stands.intake asks.1)

pub returns-clause-input : goal.returns-clause-input
returns-clause-input g c strand h stands wants =
    let asks = wants_more (first_ready strand) (place_of strand) (is_some strand.ended) (wants_in strand strand.intake) Input refl refl wants in
    (none_of h.ended (ap is_some (sym stands.ended.ended) ∙ asks.0), takes_of_lane g.S.Source.state strand strand.intake h stands.intake asks.1)

pub returns-clause-output : goal.returns-clause-output
returns-clause-output g c strand h lane stands wants = waits_for_lane g.P.LocalPacket.plain g.S.Source.state g.K.Sink.state strand h stands lane wants

pub returns-clause-due : goal.returns-clause-due
returns-clause-due g c strand h lane pipe stands wants there =
    let plain = g.P.LocalPacket.plain in
    let is_one = waits_for_lane plain g.S.Source.state g.K.Sink.state strand h stands lane wants in
    more_due plain g.S.Source.state g.K.Sink.state strand h stands lane pipe wants is_one.0 there

pub returns-clause-least : goal.returns-clause-least
returns-clause-least g c strand h lane other pipe stands wants contains less there =
    let plain = g.P.LocalPacket.plain in
    let is_one = waits_for_lane plain g.S.Source.state g.K.Sink.state strand h stands lane wants in
    none_waiting plain g.S.Source.state g.K.Sink.state strand h stands lane other pipe wants is_one.0 contains less there

pub returns-clause-done : goal.returns-clause-done
returns-clause-done g c strand h stands wants = ended_of_done g.P.LocalPacket.plain g.S.Source.state g.K.Sink.state strand h stands wants
