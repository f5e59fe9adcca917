use Rattle.std.proofs.Common.{◌≡◌, ℕ, ◌<◌, length, get_or, subst, refl, rules}
use Rattle.std.proofs.lemmas.List.Elements.{All-nil}
use Rattle.std.specs.Option.{option_map}
use Rattle.up_outside.specs.States.{SinkState}
use Rattle.up_strand.proofs.Made.{can_begin, kept_within, made_stands, told_is}
use Rattle.up_strand.specs.StrandCalls.{sinks_told}
use Rattle.up_strand.specs.Making.{HasBegun}
use Rattle.up_strand.specs.declared.node.Node.{Node}
use Rattle.up_strand.proofs.making.Rooms.fill.Goals as goal

pub returns-clause-stands : goal.returns-clause-stands
returns-clause-stands g c =
    let pipes = c.args.graph.now.pipes in
    let rooms = c.requires.rooms in
    let shape = c.args.self.shape in
    let state = g.K.Sink.state in
    let plain = g.P.LocalPacket.plain in
    let reads = g.S.Source.state in
    let source = option_map reads c.args.source in
    let told = sinks_told state pipes c.args.head c.args.sinks in
    let count : length c.nodes_of-nodes.result.items ≡ length shape.places.items = c.nodes_of-nodes.ensures.count in
    let ready : c.len.result ≡ length shape.places.items = search rules in
    let each : (i : ℕ) (d : Node _ _) → i < length c.nodes_of-nodes.result.items → HasBegun pipes shape plain state told i (get_or c.nodes_of-nodes.result.items i d) =
    λ i d within. subst (λ (told : ℕ → SinkState). HasBegun pipes shape plain state told i (get_or c.nodes_of-nodes.result.items i d))
    (told_is state pipes c.args.head shape c.args.sinks rooms.shape) (c.nodes_of-nodes.ensures.begun i d within) in
    made_stands plain reads state _ pipes c.args.head source told shape rooms.shape c.requires.well_formed c.requires.head (record {
      places = refl;
      order = refl;
      count = count;
      each = each;
      caught = rooms.caught;
      closings = rooms.closings;
      open_yet = rooms.open_yet;
      long = refl;
      ended = refl;
      ready = ready;
      kept = refl;
      last = refl;
      intake = c.intake_of.ensures told;
      rooms = rooms.told;
    })

pub returns-clause-family : goal.returns-clause-family
returns-clause-family g c f = record {
  nodes = λ i d within. rw (c.nodes_of-nodes.ensures.begun i d within).empty (All-nil _);
  kept = tt;
}

pub nodes_of-nodes-requires-clause-shape : goal.nodes_of-nodes-requires-clause-shape
nodes_of-nodes-requires-clause-shape g c = can_begin c.args.graph.now.pipes c.args.head c.args.self.shape c.requires.rooms.shape

pub intake_of-requires-clause-head : goal.intake_of-requires-clause-head
intake_of-requires-clause-head g c = kept_within _ c.args.graph.now.pipes c.args.head c.requires.head
