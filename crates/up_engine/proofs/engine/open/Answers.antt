use Rattle.std.proofs.Common.{length, ap, ◌∙◌, arith}
use Rattle.std.proofs.lemmas.List.{length-replicate}
use Rattle.std.proofs.lemmas.Option.{slice_get_within}
use Rattle.up_engine.proofs.RanGraphs.{none_opened, refused_within}
use Rattle.up_engine.proofs.engine.open.Goals as goal
use Rattle.up_model.specs.declared.outcome.Outcome.TheVariants as outcomes

pub open_all-opening-requires-clause-none : goal.open_all-opening-requires-clause-none
open_all-opening-requires-clause-none g c κs within =
    none_opened g.D.Src.Source.state g.D.Snk.Sink.state c.args.graph.now.pipes c.deref_mut.result.now (c.deref_mut.ensures.value ∙ c.requires.rooms.table)

pub at-requires : goal.at-requires
at-requires g c =
    let within = refused_within g.D.Src.Source.state g.D.Snk.Sink.state c.args.graph.now.pipes (g.D.Depot.state c.args.depot.now) (g.D.Depot.state c.open_all-opening.new.depot)
    c.open_all-opening.new.table c.in-Refused.place c.in-Refused.ensures in
    omega (arith, within, c.from-at.ensures)

pub index_mut-requires : goal.index_mut-requires
index_mut-requires g c =
    let within = slice_get_within c.args.graph.now.pipes c.from-at.result c.at.result.now c.at.ensures in
    let long = ap length c.requires.rooms.endings in
    omega (arith, within, long, c.args.rooms.now.results.outcomes.ok.0, length-replicate (length c.args.graph.now.pipes) outcomes.Broken)
