use Rattle.std.proofs.Common.{◌<◌, [], length, set, get_or, sym}
use Rattle.std.proofs.lemmas.List.{length-set}
use Rattle.up_strand.proofs.Gives.{placed_on}
use Rattle.up_strand.proofs.Lists.{all_set, pairs_on}
use Rattle.up_strand.proofs.Passing.{stand_on}
use Rattle.up_strand.proofs.Sweeping.{swept_on, head_untaken, placed_set, stand_head}
use Rattle.up_strand.specs.Nodes.{IsAsPlaced, IsSound, IsTaking, NodeFits}
use Rattle.up_strand.proofs.sweep.feed_head.Goals as goal

pub settle-requires-clause-swept : goal.settle-requires-clause-swept
settle-requires-clause-swept g c =
    let nodes = c.args.nodes.now in
    let place = get_or c.args.order.now 0 0 in
    let within : place < length nodes = c.requires.swept.sweeps.within 0 0 c.requires.some in
    swept_on c.args.order.now nodes (set nodes place c.take.new.self) (length-set nodes place c.take.new.self)
    (placed_set g.P.LocalPacket.plain g.K.Sink.state nodes place c.index-nodes-order.result c.take.new.self within c.take.ensures.placed) c.requires.swept

pub settle-requires-clause-taking : goal.settle-requires-clause-taking
settle-requires-clause-taking g c = all_set IsTaking c.args.nodes.now (get_or c.args.order.now 0 0) c.take.new.self c.requires.taking c.take.ensures.taking

pub settle-requires-clause-stand : goal.settle-requires-clause-stand
settle-requires-clause-stand g c =
    let nodes = c.args.nodes.now in
    let order = c.args.order.now in
    let e = c.index-nodes-order.result in
    let within : get_or order 0 0 < length nodes = c.requires.swept.sweeps.within 0 0 c.requires.some in
    let went = stand_head g.P.LocalPacket.plain g.K.Sink.state nodes (get_or order 0 0) e c.take.new.self within c.take.ensures.placed _ c.take.ensures.took
    (head_untaken order nodes 0 e c.requires.some c.requires.swept) (λ i d inside none. sym (c.requires.swept.head i d inside none 0)) c.requires.stand.0 c.requires.stand.1 in
    (_, went.stand)

pub settle-requires-clause-family : goal.settle-requires-clause-family
settle-requires-clause-family g c =
    rw c.take.ensures.store.same
    (all_set (λ n. NodeFits g.P.LocalPacket.fits n (g.P.Store.Stash.state c.args.s.now).family) c.args.nodes.now (get_or c.args.order.now 0 0) c.take.new.self
    c.requires.family c.take.ensures.family)

pub returns-in-Err-clause-stand : goal.returns-in-Err-clause-stand
returns-in-Err-clause-stand g c =
    let nodes = c.args.nodes.now in
    let order = c.args.order.now in
    let e = c.index-nodes-order.result in
    let within : get_or order 0 0 < length nodes = c.requires.swept.sweeps.within 0 0 c.requires.some in
    stand_head g.P.LocalPacket.plain g.K.Sink.state nodes (get_or order 0 0) e c.take.new.self within c.take.ensures.placed _ c.take.ensures.took
    (head_untaken order nodes 0 e c.requires.some c.requires.swept) (λ i d inside none. sym (c.requires.swept.head i d inside none 0))

pub returns-in-Err-clause-taking : goal.returns-in-Err-clause-taking
returns-in-Err-clause-taking g c = all_set IsTaking c.args.nodes.now (get_or c.args.order.now 0 0) c.take.new.self c.requires.taking c.take.ensures.taking

pub returns-in-Err-clause-placed : goal.returns-in-Err-clause-placed
returns-in-Err-clause-placed g c =
    placed_set g.P.LocalPacket.plain g.K.Sink.state c.args.nodes.now (get_or c.args.order.now 0 0) c.index-nodes-order.result c.take.new.self
    (c.requires.swept.sweeps.within 0 0 c.requires.some) c.take.ensures.placed

pub returns-in-Err-clause-family : goal.returns-in-Err-clause-family
returns-in-Err-clause-family g c =
    all_set (λ n. NodeFits g.P.LocalPacket.fits n (g.P.Store.Stash.state c.args.s.now).family) c.args.nodes.now (get_or c.args.order.now 0 0) c.take.new.self
    c.requires.family c.take.ensures.family

pub returns-in-Ok-settle-clause-stand : goal.returns-in-Ok-settle-clause-stand
returns-in-Ok-settle-clause-stand g c =
    let nodes = c.args.nodes.now in
    let order = c.args.order.now in
    let e = c.index-nodes-order.result in
    let place = get_or order 0 0 in
    let y = c.take.new.self in
    let within : place < length nodes = c.requires.swept.sweeps.within 0 0 c.requires.some in
    let head = stand_head g.P.LocalPacket.plain g.K.Sink.state nodes place e y within c.take.ensures.placed _ c.take.ensures.took
    (head_untaken order nodes 0 e c.requires.some c.requires.swept) (λ i d inside none. sym (c.requires.swept.head i d inside none 0)) in
    stand_on g.P.LocalPacket.plain g.K.Sink.state nodes (set nodes place y) c.settle.new.nodes _ [] (length-set nodes place y)
    (placed_set g.P.LocalPacket.plain g.K.Sink.state nodes place e y within c.take.ensures.placed) head c.settle.ensures.stand

pub returns-in-Err-settle-clause-stand : goal.returns-in-Err-settle-clause-stand
returns-in-Err-settle-clause-stand g c =
    let nodes = c.args.nodes.now in
    let order = c.args.order.now in
    let e = c.index-nodes-order.result in
    let place = get_or order 0 0 in
    let y = c.take.new.self in
    let within : place < length nodes = c.requires.swept.sweeps.within 0 0 c.requires.some in
    let head = stand_head g.P.LocalPacket.plain g.K.Sink.state nodes place e y within c.take.ensures.placed _ c.take.ensures.took
    (head_untaken order nodes 0 e c.requires.some c.requires.swept) (λ i d inside none. sym (c.requires.swept.head i d inside none 0)) in
    stand_on g.P.LocalPacket.plain g.K.Sink.state nodes (set nodes place y) c.settle.new.nodes _ [] (length-set nodes place y)
    (placed_set g.P.LocalPacket.plain g.K.Sink.state nodes place e y within c.take.ensures.placed) head c.settle.ensures.stand

pub returns-in-Ok-settle-clause-sound : goal.returns-in-Ok-settle-clause-sound
returns-in-Ok-settle-clause-sound g c sound =
    let nodes = c.args.nodes.now in
    let place = get_or c.args.order.now 0 0 in
    c.in-Ok-settle.ensures.sound
    (all_set IsSound nodes place c.take.new.self sound (c.in-Ok.ensures.sound (sound place c.index-nodes-order.result (c.requires.swept.sweeps.within 0 0 c.requires.some))))

pub returns-in-Ok-settle-clause-placed : goal.returns-in-Ok-settle-clause-placed
returns-in-Ok-settle-clause-placed g c =
    let nodes = c.args.nodes.now in
    let place = get_or c.args.order.now 0 0 in
    let mid = set nodes place c.take.new.self in
    pairs_on IsAsPlaced IsAsPlaced IsAsPlaced nodes mid c.settle.new.nodes (length-set nodes place c.take.new.self) placed_on
    (placed_set g.P.LocalPacket.plain g.K.Sink.state nodes place c.index-nodes-order.result c.take.new.self (c.requires.swept.sweeps.within 0 0 c.requires.some) c.take.ensures.placed)
    c.settle.ensures.placed

pub returns-in-Err-settle-clause-placed : goal.returns-in-Err-settle-clause-placed
returns-in-Err-settle-clause-placed g c =
    let nodes = c.args.nodes.now in
    let place = get_or c.args.order.now 0 0 in
    let mid = set nodes place c.take.new.self in
    pairs_on IsAsPlaced IsAsPlaced IsAsPlaced nodes mid c.settle.new.nodes (length-set nodes place c.take.new.self) placed_on
    (placed_set g.P.LocalPacket.plain g.K.Sink.state nodes place c.index-nodes-order.result c.take.new.self (c.requires.swept.sweeps.within 0 0 c.requires.some) c.take.ensures.placed)
    c.settle.ensures.placed

pub returns-in-Ok-settle-clause-family : goal.returns-in-Ok-settle-clause-family
returns-in-Ok-settle-clause-family g c = rw c.take.ensures.store.same at c.settle.ensures.family

pub returns-in-Err-settle-clause-family : goal.returns-in-Err-settle-clause-family
returns-in-Err-settle-clause-family g c = rw c.take.ensures.store.same at c.settle.ensures.family

pub take-requires-clause-taking : goal.take-requires-clause-taking
take-requires-clause-taking g c =
    c.requires.taking (get_or c.args.order.now 0 0) c.index-nodes-order.result (c.requires.swept.sweeps.within 0 0 c.requires.some)

pub take-requires-clause-family : goal.take-requires-clause-family
take-requires-clause-family g c =
    c.requires.family (get_or c.args.order.now 0 0) c.index-nodes-order.result (c.requires.swept.sweeps.within 0 0 c.requires.some)
