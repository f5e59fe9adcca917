use Rattle.std.proofs.Common.{ℕ, ◌<◌, length, take, sym, ap, ◌∙◌, subst, arith}
use Rattle.std.proofs.lemmas.List.{length-take}
use Rattle.up_engine.proofs.PutParts.{few_sinks, given_next, next_place, taken_next}
use Rattle.up_engine.specs.Parts.{sinks_at}
use Rattle.up_engine.proofs.parts.take_sinks.Goals as goal

pub take_sink-requires-clause-room : goal.take_sink-requires-clause-room
take_sink-requires-clause-room g c =
    let inv = c.loop-i.invariant in
    let few = few_sinks c.args.table.now (take c.loop-i.i c.args.places.now) in
    let below : c.loop-i.i < length c.args.places.now = omega arith in
    let all = c.requires.room in
    omega (arith, few, below, all, inv.room, ap length inv.given, length-take c.loop-i.i c.args.places.now)

pub loop-i-preserved : goal.loop-i-preserved
loop-i-preserved g c =
    let inv = c.loop-i.invariant in
    let places = c.args.places.now in
    let olds = take c.loop-i.i places in
    let next = next_place places c.loop-i.i c.at.result.now c.from.result c.requires.apart c.at.ensures c.from.ensures in
    let room : c.from.result < length c.args.table.now =
    subst (λ (p : ℕ). p < length c.args.table.now) next.here (c.requires.within c.loop-i.i next.within) in
    record {
      room = c.take_sink.ensures.room ∙ inv.room;
      given = c.take_sink.ensures.given ∙ given_next olds c.from.result next.fresh c.args.table.now c.loop-i.table c.loop-i.sinks.items inv.left inv.given
          ∙ ap (sinks_at c.args.table.now) (sym next.more);
      left = rw (next.more, c.take_sink.ensures.left) (taken_next olds c.from.result next.fresh c.args.table.now c.loop-i.table inv.left room);
    }
