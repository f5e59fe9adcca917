use Rattle.std.proofs.Common.{true, false, set}
use Rattle.std.proofs.lemmas.List.{length-set}
use Rattle.up_strand.proofs.Finishing.{ends_short, ends_passed, ready_set}
use Rattle.up_strand.proofs.Lists.{all_set}
use Rattle.up_strand.proofs.Sweeping.{tree_on, placed_set, stand_stepped}
use Rattle.up_strand.specs.Nodes.{NodeFits}
use Rattle.up_strand.proofs.ending.end_at.Goals as goal

pub returns-in-Err-clause-ends : goal.returns-in-Err-clause-ends
returns-in-Err-clause-ends g c =
    ends_short g.P.LocalPacket.plain g.K.Sink.state c.args.nodes.now c.args.place c.index-nodes-place.result c.end.new.self c.requires.within
    c.end.ensures.placed c.end.ensures.took

pub returns-in-Err-clause-family : goal.returns-in-Err-clause-family
returns-in-Err-clause-family g c =
    all_set (λ n. NodeFits g.P.LocalPacket.fits n (g.P.Store.Stash.state c.args.s.now).family) c.args.nodes.now c.args.place c.end.new.self
    c.requires.family c.end.ensures.family

pub pass_on-requires-clause-tree : goal.pass_on-requires-clause-tree
pass_on-requires-clause-tree g c =
    let nodes = c.args.nodes.now in
    let y = c.end.new.self in (
      c.requires.tree.0,
      tree_on c.requires.tree.0 nodes (set nodes c.args.place y) (length-set nodes c.args.place y)
          (placed_set g.P.LocalPacket.plain g.K.Sink.state nodes c.args.place c.index-nodes-place.result y c.requires.within c.end.ensures.placed) c.requires.tree.1,
    )

pub pass_on-requires-clause-ready : goal.pass_on-requires-clause-ready
pass_on-requires-clause-ready g c =
    ready_set g.P.LocalPacket.plain g.K.Sink.state c.args.nodes.now c.args.place c.index-nodes-place.result c.end.new.self c.requires.within
    c.end.ensures.placed c.end.ensures.took c.requires.tree c.requires.ready

pub pass_on-requires-clause-stand : goal.pass_on-requires-clause-stand
pass_on-requires-clause-stand g c =
    let went = stand_stepped g.P.LocalPacket.plain g.K.Sink.state c.args.nodes.now c.args.place c.index-nodes-place.result c.end.new.self c.requires.within
    c.end.ensures.placed c.end.ensures.took c.requires.stand.0 c.requires.stand.1 in
    (_, went.stand)

pub pass_on-requires-clause-family : goal.pass_on-requires-clause-family
pass_on-requires-clause-family g c =
    rw c.end.ensures.store.same
    (all_set (λ n. NodeFits g.P.LocalPacket.fits n (g.P.Store.Stash.state c.args.s.now).family) c.args.nodes.now c.args.place c.end.new.self
    c.requires.family c.end.ensures.family)

pub returns-in-Ok-pass_on-clause-ends : goal.returns-in-Ok-pass_on-clause-ends
returns-in-Ok-pass_on-clause-ends g c =
    ends_passed g.P.LocalPacket.plain g.K.Sink.state c.args.nodes.now c.args.place c.index-nodes-place.result c.end.new.self c.requires.within
    c.end.ensures.placed c.end.ensures.took true c.pass_on.new.nodes c.pass_on.auto.nodes c.in-Ok-pass_on.ensures.passes
    c.in-Ok.ensures.done c.in-Ok.ensures.still

pub returns-in-Ok-pass_on-clause-family : goal.returns-in-Ok-pass_on-clause-family
returns-in-Ok-pass_on-clause-family g c = rw c.end.ensures.store.same at c.pass_on.ensures.family

pub returns-in-Err-pass_on-clause-ends : goal.returns-in-Err-pass_on-clause-ends
returns-in-Err-pass_on-clause-ends g c =
    ends_passed g.P.LocalPacket.plain g.K.Sink.state c.args.nodes.now c.args.place c.index-nodes-place.result c.end.new.self c.requires.within
    c.end.ensures.placed c.end.ensures.took false c.pass_on.new.nodes c.pass_on.auto.nodes c.in-Err-pass_on.ensures.passes
    c.in-Ok.ensures.done c.in-Ok.ensures.still

pub returns-in-Err-pass_on-clause-family : goal.returns-in-Err-pass_on-clause-family
returns-in-Err-pass_on-clause-family g c = rw c.end.ensures.store.same at c.pass_on.ensures.family
