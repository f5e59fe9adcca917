use Rattle.std.proofs.Common.{◌≡◌, ℕ, [], take, Bool, sym, ◌∙◌, subst, arith}
use Rattle.up_engine.proofs.PutParts.{is_sink_there, next_place, put_next, sink_waits, sinks_end}
use Rattle.up_engine.specs.Objects.{object_at}
use Rattle.up_engine.specs.Parts.{PutsNext, sinks_in}
use Rattle.up_engine.proofs.parts.put_sinks.Goals as goal

pub put_sink-requires-clause-some : goal.put_sink-requires-clause-some
put_sink-requires-clause-some g c is =
    let next = next_place c.args.places.now c.loop-i.i c.at.result.now c.from-place.result c.requires.apart c.at.ensures c.from-place.ensures in
    sink_waits c.args.graph.now.pipes c.args.places.now c.args.table.now c.loop-i.table c.args.sinks c.loop-i.sinks c.requires.no_sinks c.requires.count
    c.loop-i.i c.from-place.result next c.loop-i.invariant
    (is_sink_there c.args.graph.now.pipes c.from-place.result c.at-in-loop-i.result.now c.at-in-loop-i.ensures ∙ sym c.is_sink.ensures ∙ is)

pub loop-i-preserved : goal.loop-i-preserved
loop-i-preserved g c =
    let pipes = c.args.graph.now.pipes in
    let place = c.from-place.result in
    let next = next_place c.args.places.now c.loop-i.i c.at.result.now place c.requires.apart c.at.ensures c.from-place.ensures in
    let is = is_sink_there pipes place c.at-in-loop-i.result.now c.at-in-loop-i.ensures ∙ sym c.is_sink.ensures in
    let puts = subst (λ (b : Bool). PutsNext b place c.loop-i.table c.put_sink.new.table c.loop-i.sinks c.put_sink.new.sinks) (sym is) c.put_sink.ensures in
    rw next.more (put_next (take c.loop-i.i c.args.places.now) place next.fresh pipes c.args.table.now c.loop-i.table c.put_sink.new.table
    c.args.sinks c.loop-i.sinks c.put_sink.new.sinks c.loop-i.invariant puts
    (subst (λ (p : ℕ). sinks_in (object_at c.args.table.now p) ≡ []) next.here (c.requires.no_sinks c.loop-i.i next.within)))

pub end-requires : goal.end-requires
end-requires g c =
    (sinks_end c.args.graph.now.pipes c.args.places.now c.args.table.now c.loop-i.table c.args.sinks c.loop-i.sinks c.requires.no_sinks c.requires.count
    c.loop-i.i (omega arith) c.loop-i.invariant).0

pub returns : goal.returns
returns g c =
    (sinks_end c.args.graph.now.pipes c.args.places.now c.args.table.now c.loop-i.table c.args.sinks c.loop-i.sinks c.requires.no_sinks c.requires.count
    c.loop-i.i (omega arith) c.loop-i.invariant).1
