use Rattle.std.proofs.Common.{nat_lt, arith}
use Rattle.upipe_run.proofs.AskedTexts.{as_read, as_failed}
use Rattle.upipe_run.proofs.Counting.{fresh_stays, fresh_rose}
use Rattle.upipe_run.proofs.Entries.{text_open, text_closed}
use Rattle.upipe_run.proofs.graph_text.read_start.Goals as goal

pub close_source-requires : goal.close_source-requires
close_source-requires g c =
    text_open c.args.path.now _ _ _ _ _ c.in-Ok.ensures.opens.next c.fill-filled.ensures.fills.moved.place c.in-Ok.ensures.asks.entries

pub returns-in-Full-clause-asked : goal.returns-in-Full-clause-asked
returns-in-Full-clause-asked g c =
    let filled = c.fill-filled.ensures in
    let now = g.D.Src.Source.state c.fill-filled.new.source in
    as_read c.args.path.now _ c.fill-filled.result.count (nat_lt 0 now.faults) _ _ (omega (arith, filled.fits))
    (text_closed c.args.path.now _ _ _ _ _ _ c.fill-filled.result.count c.in-Ok.ensures.opens.next (record { place = filled.fills.moved.place; sum = filled.fills.moved.sum }) c.in-Ok.ensures.asks.entries c.close_source.ensures.closes.entries)
    c.fill-filled.result.count (fresh_stays _ _ c.in-Ok.ensures.opens.fresh (rw c.in-Full.is at filled.fills.faults))

pub returns-in-End-clause-asked : goal.returns-in-End-clause-asked
returns-in-End-clause-asked g c =
    let filled = c.fill-filled.ensures in
    let now = g.D.Src.Source.state c.fill-filled.new.source in
    as_read c.args.path.now _ c.fill-filled.result.count (nat_lt 0 now.faults) _ _ (omega (arith, filled.fits))
    (text_closed c.args.path.now _ _ _ _ _ _ c.fill-filled.result.count c.in-Ok.ensures.opens.next (record { place = filled.fills.moved.place; sum = filled.fills.moved.sum }) c.in-Ok.ensures.asks.entries c.close_source.ensures.closes.entries)
    c.fill-filled.result.count (fresh_stays _ _ c.in-Ok.ensures.opens.fresh (rw c.in-End.is at filled.fills.faults))

pub returns-in-Fault-clause-asked : goal.returns-in-Fault-clause-asked
returns-in-Fault-clause-asked g c =
    let filled = c.fill-filled.ensures in
    let now = g.D.Src.Source.state c.fill-filled.new.source in
    as_failed c.args.path.now _ c.fill-filled.result.count (nat_lt 0 now.faults) _ _ (omega (arith, filled.fits))
    (text_closed c.args.path.now _ _ _ _ _ _ c.fill-filled.result.count c.in-Ok.ensures.opens.next (record { place = filled.fills.moved.place; sum = filled.fills.moved.sum }) c.in-Ok.ensures.asks.entries c.close_source.ensures.closes.entries)
    (fresh_rose _ _ (rw c.in-Fault.is at filled.fills.faults))
