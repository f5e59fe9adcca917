use Rattle.std.proofs.Common.{◌≡◌, ◌++◌, length, map, ap, ◌∙◌, rules}
use Rattle.up_model.specs.Plans.{heads, outlets_of, strand_of}
use Rattle.up_strand.proofs.ShapeLists.{planned_heads}
use Rattle.up_strand.proofs.ShapeWhole.{places_are, shape_is}
use Rattle.up_strand.specs.Shapes.{node_input}
use Rattle.up_strand.proofs.shape.Shape.of.Goals as goal

pub returns : goal.returns
returns c =
    let pipes = c.args.graph.now.pipes in
    let head = c.args.head in
    let own : c.in_ok-own.own.items ≡ strand_of pipes head = c.in_ok-own.ensures pipes c.requires.plan c.requires.head in
    let all : c.in_ok-heads.heads.items ≡ heads pipes =
    c.in_ok-heads.ensures ∙ planned_heads pipes c.args.plan.now.strands (ap (λ p. p.strands) c.requires.plan) in
    let places : c.in_ok-places.places.items ≡ strand_of pipes head ++ outlets_of pipes head =
    places_are pipes c.requires.well_formed head c.in_ok-own.own.items c.in_ok-heads.heads.items c.in_ok-places.places.items own all
    (rw (c.deref.ensures.value, c.deref-2.ensures.value) at c.in_ok-places.ensures) in
    let inputs : c.in_ok-inputs.inputs.items ≡ map (node_input pipes c.in_ok-own.own.items head) c.in_ok-places.places.items =
    rw (c.deref-3.ensures.value, c.deref-4.ensures.value) at c.in_ok-inputs.ensures in
    let count : c.len.result ≡ length c.in_ok-own.own.items = search rules in
    let takers = rw c.deref-5.ensures.value at c.in_ok-takers_of.ensures in
    shape_is pipes c.requires.well_formed head c.requires.head _ places (count ∙ ap length own) (rw (own, places) at inputs) takers.0 takers.1
    (rw (c.deref-6.ensures.value, places) at c.in_ok-order_of.ensures)
