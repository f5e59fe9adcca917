use Rattle.std.proofs.Common.{◌≡◌, ℕ, ◌<◌, length, get_or, ap, ◌∙◌, subst, arith, rules}
use Rattle.std.proofs.lemmas.List.{get_or_default}
use Rattle.up_strand.proofs.Closed.{sink_has_room, told_next, without_next}
use Rattle.up_strand.specs.Closing.{AreToldFirst}
use Rattle.up_strand.specs.Making.{catches_nothing}
use Rattle.up_strand.specs.declared.node.Node.{Node}
use Rattle.up_strand.proofs.closing.tell_all.Goals as goal

pub add-requires-clause-sinks : goal.add-requires-clause-sinks
add-requires-clause-sinks g c =
    let inv = c.loop-i.invariant in
    let e = c.index-nodes-i.result in
    let below : c.loop-i.i < length c.args.caught.now = search rules in
    let nodes = c.requires.nodes in
    let within : c.loop-i.i < length c.loop-i.nodes = omega (arith, c.loop-i.auto.nodes, nodes, below) in
    let room = sink_has_room c.args.ending c.args.caught.now c.args.nodes.now c.loop-i.nodes c.loop-i.told c.loop-i.told c.loop-i.i (get_or c.loop-i.nodes c.loop-i.i e)
    (get_or c.loop-i.nodes c.loop-i.i e) catches_nothing within c.loop-i.auto.nodes inv.left (λ d. get_or_default c.loop-i.nodes c.loop-i.i d e within)
    (length c.args.caught.now) below nodes in
    let there = c.requires.rooms.sinks in
    omega (arith, room, there, ap length inv.told.sinks, inv.rooms.sinks)

pub loop-i-preserved : goal.loop-i-preserved
loop-i-preserved g c =
    let inv = c.loop-i.invariant in
    let i = c.loop-i.i in
    let e = c.index-nodes-i.result in
    let olds = c.args.nodes.now in
    let below : i < length c.args.caught.now = search rules in
    let nodes = c.requires.nodes in
    let within : i < length c.loop-i.nodes = omega (arith, c.loop-i.auto.nodes, nodes, below) in
    let node = get_or c.loop-i.nodes i e in
    let here : (d : Node _ _) → get_or c.loop-i.nodes i d ≡ node = λ d. get_or_default c.loop-i.nodes i d e within in
    record {
      upto = omega (arith, below);
      rooms = record {
        outcomes = c.add.ensures.rooms.outcomes ∙ inv.rooms.outcomes;
        tallies = c.add.ensures.rooms.tallies ∙ inv.rooms.tallies;
        sinks = c.add.ensures.rooms.sinks ∙ inv.rooms.sinks;
      };
      told = told_next c.args.ending c.args.caught.now olds c.loop-i.nodes c.loop-i.told c.add.new.self i node c.add.new.node _ within c.loop-i.auto.nodes inv.left here
          inv.told (λ d. get_or_default c.args.caught.now i d _ below) c.add.ensures.outcome c.add.ensures.tally c.add.ensures.sink;
      left = without_next c.args.ending c.args.caught.now olds c.loop-i.nodes c.loop-i.told c.add.new.self i node c.add.new.node catches_nothing within c.loop-i.auto.nodes inv.left here
          c.add.ensures.none c.add.ensures.out;
    }

pub returns-clause-told : goal.returns-clause-told
returns-clause-told g c =
    let all : c.loop-i.i ≡ length c.args.caught.now = search rules in
    subst (λ (n : ℕ). AreToldFirst n c.args.ending c.args.caught.now c.args.nodes.now c.loop-i.told) all c.loop-i.invariant.told
