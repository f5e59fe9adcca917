use Rattle.up_engine.proofs.CarriedByNets.{net_short, net_through, unmade_short}
use Rattle.up_engine.proofs.carrying.carry.Goals as goal

pub returns-in_err-net-clause-short : goal.returns-in_err-net-clause-short
returns-in_err-net-clause-short g c =
    let back = c.in_err-net.ensures.back in
    unmade_short g.S.Source.state g.K.Sink.state c.args.graph.now.pipes c.requires.well_formed c.args.table.now c.new.new.table c.requires.there back.0 back.1 back.2

pub run-requires-clause-family : goal.run-requires-clause-family
run-requires-clause-family g c = c.in_ok-net.ensures.family (g.P.Store.Stash.state c.new.new.s).family

pub finish-requires-clause-stands : goal.finish-requires-clause-stands
finish-requires-clause-stands g c =
    let made = c.in_ok-net.ensures.stands in
    let ran = c.run.ensures.ran c.args.graph.now.pipes made.0 made.2 in
    (ran.went.now, ran.went.stands)

pub finish-requires-clause-over : goal.finish-requires-clause-over
finish-requires-clause-over g c =
    let made = c.in_ok-net.ensures.stands in
    (c.run.ensures.ran c.args.graph.now.pipes made.0 made.2).over

pub returns-clause-through : goal.returns-clause-through
returns-clause-through g c =
    let made = c.in_ok-net.ensures.stands in
    let ran = c.run.ensures.ran c.args.graph.now.pipes made.0 made.2 in
    net_through g.S.Source.state g.K.Sink.state c.args.graph.now.pipes c.requires.well_formed c.args.table.now c.finish.new.table c.requires.there made.0 made.1
    g.P.LocalPacket.plain c.run.new.self (g.P.Store.Stash.state c.new.new.s) (g.P.Store.Stash.state c.run.new.s) ran (c.finish.ensures.back ran.went.now ran.went.stands)
    c.finish.new.results (c.finish.ensures.told ran.went.now ran.went.stands) (g.P.Store.Stash.state c.args.s.now) (g.P.Store.Stash.state c.finish.new.s)
    c.new.ensures.store.more c.finish.ensures.store.more

pub returns-clause-short : goal.returns-clause-short
returns-clause-short g c =
    let made = c.in_ok-net.ensures.stands in
    let ran = c.run.ensures.ran c.args.graph.now.pipes made.0 made.2 in
    net_short g.S.Source.state g.K.Sink.state c.args.graph.now.pipes c.requires.well_formed c.args.table.now c.finish.new.table c.requires.there made.0 made.1
    g.P.LocalPacket.plain c.run.new.self (g.P.Store.Stash.state c.new.new.s) (g.P.Store.Stash.state c.run.new.s) ran (c.finish.ensures.back ran.went.now ran.went.stands)

pub returns-clause-outcomes : goal.returns-clause-outcomes
returns-clause-outcomes g c =
    let made = c.in_ok-net.ensures.stands in
    let ran = c.run.ensures.ran c.args.graph.now.pipes made.0 made.2 in
    (c.finish.ensures.told ran.went.now ran.went.stands).outcome_count

pub returns-clause-tallies : goal.returns-clause-tallies
returns-clause-tallies g c =
    let made = c.in_ok-net.ensures.stands in
    let ran = c.run.ensures.ran c.args.graph.now.pipes made.0 made.2 in
    (c.finish.ensures.told ran.went.now ran.went.stands).tally_count
