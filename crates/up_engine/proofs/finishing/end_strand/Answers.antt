use Rattle.std.proofs.Common.{ℕ, List, length, ap, sym, ◌∙◌}
use Rattle.std.specs.List.{filter}
use Rattle.up_engine.proofs.EndedStrands.{intake_source, planned_strand_back, source_left}
use Rattle.up_model.specs.Inputs.{ends_at_source, passes_at}
use Rattle.up_model.specs.Plans.{ends_at_sink, sinks_of}
use Rattle.up_model.specs.declared.pipe.Pipe.{Pipe}
use Rattle.up_strand.specs.StrandCalls.{is_done}
use Rattle.up_strand.specs.Strands.{want_of}
use Rattle.up_engine.proofs.finishing.end_strand.Goals as goal

pub put_back-requires-clause-source : goal.put_back-requires-clause-source
put_back-requires-clause-source g c =
    let (h, stands, graph, place) = c.requires.stands in
    let reads = g.S.Source.state in
    source_left reads c.finish-parts.result.parts.source h (c.finish-parts.ensures.finished h stands).source
    ∙ intake_source reads c.args.strand.intake h stands.intake
    ∙ ap (λ (ps : List Pipe). passes_at ends_at_source ps h.head) graph ∙ ap (passes_at ends_at_source c.args.graph.now.pipes) place

pub put_back-requires-clause-sinks : goal.put_back-requires-clause-sinks
put_back-requires-clause-sinks g c =
    let (h, stands, graph, place) = c.requires.stands in
    (c.finish-parts.ensures.finished h stands).sinks
    ∙ ap (λ (ps : List Pipe). length (sinks_of ps h.head)) graph ∙ ap (λ (head : ℕ). length (sinks_of c.args.graph.now.pipes head)) place
    ∙ ap (λ (places : List ℕ). length (filter (passes_at ends_at_sink c.args.graph.now.pipes) places)) (sym c.requires.places)

pub returns-clause-back : goal.returns-clause-back
returns-clause-back g c h stands graph place =
    planned_strand_back g.S.Source.state g.K.Sink.state c.args.graph.now.pipes c.args.own.now.head c.args.own.now.pipes c.requires.places c.requires.strand h graph place
    (is_done (want_of c.args.strand)) c.finish-parts.result (c.finish-parts.ensures.finished h stands) c.args.table.now c.put_back.new.table c.put_back.ensures

pub returns-clause-told : goal.returns-clause-told
returns-clause-told g c h stands =
    let finished = c.finish-parts.ensures.finished h stands in
    record { outcomes = finished.outcomes; tallies = finished.tallies; count = finished.count }
