use Rattle.std.proofs.Common.{◌≡◌, ℕ, length, take, map, ap, ◌∙◌, rules, subst, false, replicate}
use Rattle.std.specs.List.{filter}
use Rattle.std.proofs.lemmas.List.{length-replicate}
use Rattle.up_model.specs.Inputs.{passes_at}
use Rattle.up_model.specs.Plans.{ends_at_sink, sinks_of, strand_of}
use Rattle.up_strand.specs.Making.{caught_at}
use Rattle.up_strand.specs.Rooms.{HasOnlyRoom}
use Rattle.up_strand.specs.Shapes.{IsShapeOf}
use Rattle.up_strand.specs.Values.{value_at}
use Rattle.up_strand.proofs.Begun.{own_is, none_set}
use Rattle.up_strand.proofs.making.Rooms.of.Goals as goal

pub returns-in-Ok : goal.returns-in-Ok
returns-in-Ok g c =
    let pipes = c.args.graph.now.pipes in
    let shape = c.in_ok-shape.shape in
    let is : IsShapeOf pipes c.args.head shape = c.in_ok-shape.ensures in
    let own = own_is pipes c.args.head shape is in
    let test = passes_at ends_at_sink pipes in
    let places : take shape.pipes c.deref.result.now ≡ strand_of pipes c.args.head = ap (take shape.pipes) c.deref.ensures.value ∙ own in
    let values : c.in_ok-values.values ≡ map (value_at pipes) (take shape.pipes c.deref.result.now) = c.in_ok-values.ensures in
    let caught : c.in_ok-caught.caught.items ≡ map (caught_at pipes) (take shape.pipes c.deref.result.now) = c.in_ok-caught.ensures in
    let closed : c.in_ok-closed.closed.items ≡ replicate c.len.result false = c.in_ok-closed.ensures in
    let len : c.len.result ≡ length shape.places.items = search rules in
    let sinks : c.sink_count-sinks.result ≡ length (sinks_of pipes c.args.head) = c.sink_count-sinks.ensures ∙ ap (λ own. length (filter test own)) places in
    record {
      shape = is;
      empty = search rules;
      room = search rules;
      values = values ∙ ap (λ all. map (value_at pipes) (take shape.pipes all)) c.deref.ensures.value;
      caught = caught ∙ ap (map (caught_at pipes)) places;
      closings = ap length closed ∙ length-replicate c.len.result false ∙ len;
      open_yet = λ i. rw closed (none_set c.len.result i);
      told = subst (λ (n : ℕ). HasOnlyRoom n (length (sinks_of pipes c.args.head)) c.in-Ok.told) is.pipes_of
          (subst (λ (n : ℕ). HasOnlyRoom shape.pipes n c.in-Ok.told) sinks c.in-Ok.ensures);
    }
