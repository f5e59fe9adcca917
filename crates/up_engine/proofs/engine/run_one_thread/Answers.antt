use Rattle.up_engine.proofs.RanGraphs.{can_close_turned, none_asked, ran_graph}
use Rattle.up_engine.proofs.engine.run_one_thread.Goals as goal

pub returns-in-Err-clause-ran : goal.returns-in-Err-clause-ran
returns-in-Err-clause-ran g c = none_asked c.args.graph.now.pipes (g.D.Depot.state c.args.depot.now) (g.P.Store.Stash.state c.args.store.now)

pub close-requires-clause-open : goal.close-requires-clause-open
close-requires-clause-open g c κs within =
    can_close_turned g.D.Src.Source.state g.D.Snk.Sink.state c.args.graph.now.pipes (g.D.Depot.state c.args.depot.now) (g.D.Depot.state c.open-opened.new.depot)
    c.open-opened.new.rooms c.turns-carried.new.rooms (g.P.Store.Stash.state c.args.store.now) (g.P.Store.Stash.state c.turns-carried.new.store)
    c.open-opened.result c.turns-carried.result c.open-opened.ensures.opened c.turns-carried.ensures.turned

pub returns-clause-ran : goal.returns-clause-ran
returns-clause-ran g c =
    rw c.end.ensures (ran_graph g.D.Src.Source.state g.D.Snk.Sink.state c.args.graph.now.pipes (g.D.Depot.state c.args.depot.now) (g.D.Depot.state c.open-opened.new.depot)
    c.open-opened.new.rooms c.turns-carried.new.rooms (g.P.Store.Stash.state c.args.store.now) (g.P.Store.Stash.state c.turns-carried.new.store)
    c.requires.well_formed c.turns-carried.ensures.rooms (g.D.Depot.state c.close.new.depot) c.close.new.rooms c.close.ensures.closed
    c.open-opened.result c.turns-carried.result c.open-opened.ensures.opened c.turns-carried.ensures.turned)
