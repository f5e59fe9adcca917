use Rattle.std.proofs.Common.{◌≡◌, ℕ, List, length, refl, sym, ap, ◌∙◌}
use Rattle.std.proofs.lemmas.List.{get_or_default}
use Rattle.std.proofs.lemmas.List.Elements.{All-same}
use Rattle.up_engine.proofs.Opened.{none_there}
use Rattle.up_engine.proofs.WrittenBack.{written_back}
use Rattle.up_engine.proofs.engine.close.Goals as goal
use Rattle.up_engine.specs.Objects.{Closes}
use Rattle.up_engine.specs.Rooms.{IsNone}
use Rattle.up_engine.specs.declared.object.Object.{Object}
use Rattle.up_engine.specs.declared.object.Object.TheVariants as objects
use Rattle.up_model.specs.declared.outcome.Outcome.{Outcome}
use Rattle.up_model.specs.declared.pipe.Pipe.{Pipe}
use Rattle.up_outside.specs.States.{DepotState, SourceState, SinkState}

closed_as : {S K : Type 0} (reads : S → SourceState) (writes : K → SinkState) (pipes : List Pipe) (count : ℕ) (old new : DepotState)
    (table table' after after' : List (Object S K)) (ends ends' told told' : List Outcome) → table' ≡ table → after' ≡ after → ends' ≡ ends → told' ≡ told
    → Closes reads writes pipes count old new table after ends told → Closes reads writes pipes count old new table' after' ends' told'
closed_as reads writes pipes count old new table table' after after' ends ends' told told' was is had has closes = rw (was, is, had, has) closes

pub returns-clause-closed : goal.returns-clause-closed
returns-clause-closed g c count there = record {
  closes = closed_as g.D.Src.Source.state g.D.Snk.Sink.state c.args.graph.now.pipes count (g.D.Depot.state c.args.depot.now) (g.D.Depot.state c.close_all.new.depot)
      _ _ _ _ _ _ _ _ (sym c.deref_mut.ensures.value)
      (written_back c.args.rooms.now.table.len c.args.rooms.now.table.items c.deref_mut.result.now c.close_all.new.table c.deref_mut.ensures.len c.close_all.auto.table)
      (sym c.deref_mut-2.ensures.value)
      (written_back c.args.rooms.now.results.outcomes.len c.args.rooms.now.results.outcomes.items c.deref_mut-2.result.now c.close_all.new.outcomes
      c.deref_mut-2.ensures.len c.close_all.auto.outcomes)
      (c.close_all.ensures count (rw c.deref_mut.ensures.value there));
  sums = refl;
}

pub returns-clause-rooms : goal.returns-clause-rooms
returns-clause-rooms g c = record {
  plan = c.requires.rooms.plan;
  order = c.requires.rooms.order;
  ends = ap length (written_back c.args.rooms.now.results.outcomes.len c.args.rooms.now.results.outcomes.items c.deref_mut-2.result.now c.close_all.new.outcomes
      c.deref_mut-2.ensures.len c.close_all.auto.outcomes)
      ∙ c.close_all.auto.outcomes ∙ ap length c.deref_mut-2.ensures.value ∙ c.requires.rooms.ends;
  sums = c.requires.rooms.sums;
  outcomes = c.requires.rooms.outcomes;
  tallies = c.requires.rooms.tallies;
}

pub returns-clause-none : goal.returns-clause-none
returns-clause-none g c =
    let opened = c.requires.open in
    let closes = c.close_all.ensures opened.0 (rw c.deref_mut.ensures.value opened.1) in
    All-same IsNone _ c.close_all.new.table
    (written_back c.args.rooms.now.table.len c.args.rooms.now.table.items c.deref_mut.result.now c.close_all.new.table c.deref_mut.ensures.len c.close_all.auto.table)
    (λ k d within. get_or_default c.close_all.new.table k d objects.None within
    ∙ none_there g.D.Src.Source.state g.D.Snk.Sink.state c.args.graph.now.pipes c.close_all.new.table closes.none k)
