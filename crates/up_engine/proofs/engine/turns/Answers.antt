use Rattle.up_engine.proofs.RanGraphs.{ran_strands}
use Rattle.up_engine.proofs.WrittenBack.{written_back}
use Rattle.up_engine.proofs.engine.turns.Goals as goal

pub returns-in-All-clause-turned : goal.returns-in-All-clause-turned
returns-in-All-clause-turned g c =
    ran_strands g.S.Source.state g.K.Sink.state c.args.graph.now.pipes c.args.rooms.now _ (g.P.Store.Stash.state c.args.store.now) (g.P.Store.Stash.state c.carry_all.new.store)
    c.deref_mut.result.now c.carry_all.new.table c.carry_all.result c.args.opened c.in-All.is c.deref_mut.ensures.value
    (written_back c.args.rooms.now.table.len c.args.rooms.now.table.items c.deref_mut.result.now c.carry_all.new.table c.deref_mut.ensures.len c.carry_all.auto.table)
    c.carry_all.ensures.through c.carry_all.ensures.short
