use Rattle.std.proofs.Common.{[], ◌∷◌, refl}
use Rattle.std.proofs.lemmas.List.Elements.{All-cons, All-nil}
use Rattle.up_model.specs.Packet.{IsLegal}
use Rattle.up_strand.proofs.NodeSteps.{short_took, Took-then}
use Rattle.up_strand.proofs.node.Node.take.Goals as goal

pub returns-then-self-clause-took : goal.returns-then-self-clause-took
returns-then-self-clause-took g c =
    let packet = g.P.LocalPacket.plain c.args.p in
    let legal = All-cons IsLegal packet [] c.requires.legal (All-nil IsLegal) in
    short_took g.P.LocalPacket.plain g.K.Sink.state c.args.self.now c.args.self.now (packet ∷ [])
    c.if-self.true refl refl refl c.requires.taking.goes_on legal

pub returns-in-Err-clause-took : goal.returns-in-Err-clause-took
returns-in-Err-clause-took g c =
    Took-then g.P.LocalPacket.plain g.K.Sink.state c.args.self.now c.take_in.new.self c.fall.new.self (g.P.LocalPacket.plain c.args.p ∷ [])
    c.take_in.ensures.took c.fall.ensures.took
