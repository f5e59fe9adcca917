use Rattle.std.proofs.Common.{◌≡◌, ℕ, Bool, drop, get_or, ap, sym, ◌∙◌, arith, rules, cond, None}
use Rattle.std.proofs.lemmas.List.{drop-drop, get_or_default, length-drop}
use Rattle.up_strand.proofs.Begun.{more_at, next_owned, next_sink, node_begins, one_more, sink_waits, sinks_before}
use Rattle.up_strand.specs.Making.{HasBegun, is_sink_in, seat_in, sink_places}
use Rattle.up_strand.specs.StrandCalls.{told_of}
use Rattle.up_strand.specs.declared.node.Part.TheVariants.{Sink}
use Rattle.up_strand.specs.declared.spelling.Spelling.{Spelling}
use Rattle.up_strand.proofs.making.nodes_of.Goals as goal

pub part_at-part-requires-clause-sinks : goal.part_at-part-requires-clause-sinks
part_at-part-requires-clause-sinks g c is =
    let waits = sink_waits c.args.pipes.now c.args.shape.now c.requires.shape c.args.sinks c.loop-i.i c.requires.sinks is in
    let before = sinks_before c.args.pipes.now c.args.shape.now c.loop-i.i in
    rw c.loop-i.invariant.rest (omega (arith, waits, length-drop before c.args.sinks))

pub part_at-part-requires-clause-value : goal.part_at-part-requires-clause-value
part_at-part-requires-clause-value g c =
    c.next_value-value.ensures.first ∙ ap (λ l. get_or l 0 None) c.loop-i.invariant.values
    ∙ next_owned c.args.pipes.now c.args.shape.now c.requires.shape c.args.values c.loop-i.i c.requires.values

pub loop-i-preserved : goal.loop-i-preserved
loop-i-preserved g c =
    let inv = c.loop-i.invariant in
    let pipes = c.args.pipes.now in
    let shape = c.args.shape.now in
    let i = c.loop-i.i in
    let sinks = c.args.sinks in
    let can = c.requires.shape in
    let state = g.K.Sink.state in
    let plain = g.P.LocalPacket.plain in
    let told = told_of state (sink_places pipes shape) sinks in
    let more : ℕ = cond (is_sink_in pipes shape i) 1 0 in
    let inputs = can.inputs in
    let takers = can.takers in
    let part_stands = c.part_at-part.ensures.stands told (λ is d. rw inv.rest ((next_sink pipes shape can state sinks i d c.requires.sinks is).1)) in
    let start : (sink : g.row.K.Denot) (spelling : Spelling) (failed : Bool) → c.part_at-part.result ≡ Sink sink spelling failed → (seat_in pipes shape told i).start ≡ state sink =
    λ sink spelling failed is. let first = c.part_at-part.ensures.sink sink spelling failed is in
    (next_sink pipes shape can state sinks i sink c.requires.sinks first.0).1 ∙ ap state (sym (ap (λ l. get_or l 0 sink) inv.rest) ∙ first.1 sink) in
    let input : c.index.result.now ≡ get_or shape.inputs.items i None =
    search (rules, get_or_default shape.inputs.items i c.index.result.now None (omega (arith, inputs, c.loop-i-test.true))) in
    let takers_here : c.index-in-loop-i.result.now ≡ get_or shape.takers.items i None =
    search (rules, get_or_default shape.takers.items i c.index-in-loop-i.result.now None (omega (arith, takers, c.loop-i-test.true))) in
    let begins = node_begins pipes c.requires.well_formed shape told plain state i _ _ _ c.new.result c.new.ensures.made c.new.ensures.empty c.new.ensures.stands part_stands start
    input takers_here c.part_at-part.ensures.outlet c.part_at-part.ensures.going c.part_at-part.ensures.works in
    record {
      upto = search rules;
      count = search rules;
      room = search rules;
      begun = rw c.push_reserved.ensures.items (more_at (HasBegun pipes shape plain state told) c.loop-i.nodes.items c.new.result i inv.count inv.begun begins);
      values = c.next_value-value.ensures.rest ∙ ap (drop 1) inv.values ∙ drop-drop 1 i c.args.values;
      rest = c.part_at-part.ensures.rest ∙ ap (drop more) inv.rest ∙ drop-drop more (sinks_before pipes shape i) sinks
          ∙ ap (λ n. drop n sinks) (sym (one_more pipes shape can i));
    }
