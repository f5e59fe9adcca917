use Rattle.std.proofs.Common.{◌≡◌, ◌∙◌, ap, [], ◌∷◌, not, refl, sym}
use Rattle.std.specs.Prelude.{is_ok}
use Rattle.std.proofs.lemmas.List.Elements.{All-cons, All-nil}
use Rattle.up_model.specs.Packet.{IsLegal}
use Rattle.up_model.specs.Tallies.{added}
use Rattle.up_strand.proofs.NodeSteps.{pipe_took, pipe_fell, sink_took, head_took, outlet_took, short_took}
use Rattle.up_strand.proofs.node.Node.take_in.Goals as goal

pub returns-in-Ok-clause-took : goal.returns-in-Ok-clause-took
returns-in-Ok-clause-took g c =
    pipe_took g.P.LocalPacket.plain g.K.Sink.state c.args.self.now _ (g.P.LocalPacket.plain c.args.p) c.requires.legal c.requires.sound.long
    _ _ c.in-Pipe.is refl c.requires.sound.long c.feed.ensures.kind c.in-Ok.ensures.stands c.in-Ok.ensures.grew

pub returns-in-Err-clause-took : goal.returns-in-Err-clause-took
returns-in-Err-clause-took g c =
    pipe_fell g.P.LocalPacket.plain g.K.Sink.state c.args.self.now _ (g.P.LocalPacket.plain c.args.p) c.requires.legal c.requires.sound.long
    _ _ c.in-Pipe.is refl refl c.feed.ensures.kind c.in-Err.ensures.in_part

pub returns-in-Sink-clause-took : goal.returns-in-Sink-clause-took
returns-in-Sink-clause-took g c =
    let written = c.write_unless_failed-written in
    let well : not c.is_err-self.result ≡ is_ok written.result = sym c.is_err-self.ensures.negation in
    sink_took g.P.LocalPacket.plain g.K.Sink.state c.args.self.now _ (g.P.LocalPacket.plain c.args.p) c.requires.legal c.requires.sound.long
    _ _ _ _ _ _ c.in-Sink.is refl written.ensures.form (rw well written.ensures.bytes) written.ensures.faults
    c.add_tally.ensures.packets (c.add_tally.ensures.tally ∙ ap (added c.args.self.now.out.tally) c.of_sink.ensures)

pub returns-in-Ok-put_out-clause-took : goal.returns-in-Ok-put_out-clause-took
returns-in-Ok-put_out-clause-took g c =
    head_took g.P.LocalPacket.plain g.K.Sink.state c.args.self.now _ (g.P.LocalPacket.plain c.args.p) c.requires.legal c.requires.sound.long
    c.args.p refl c.in-Head.is c.in-Head.is c.requires.sound.long
    (c.add_tally-in-Ok-put_out.ensures.packets ∙ c.in-Ok-put_out.ensures.added)
    (c.add_tally-in-Ok-put_out.ensures.tally ∙ ap (λ t. added t c.of_head.result) c.put_out.ensures.tally ∙ ap (added c.args.self.now.out.tally) c.of_head.ensures)

pub returns-in-Err-put_out-clause-took : goal.returns-in-Err-put_out-clause-took
returns-in-Err-put_out-clause-took g c =
    short_took g.P.LocalPacket.plain g.K.Sink.state c.args.self.now _ (g.P.LocalPacket.plain c.args.p ∷ [])
    refl refl c.in-Err-put_out.ensures.unchanged c.put_out.ensures.tally (rw c.in-Head.is refl) (All-cons IsLegal _ [] c.requires.legal (All-nil IsLegal))

pub returns-in-Ok-put_out-2-clause-took : goal.returns-in-Ok-put_out-2-clause-took
returns-in-Ok-put_out-2-clause-took g c =
    outlet_took g.P.LocalPacket.plain g.K.Sink.state c.args.self.now _ (g.P.LocalPacket.plain c.args.p) c.requires.legal c.requires.sound.long
    c.args.p refl c.in-Outlet.is c.in-Outlet.is c.requires.sound.long c.in-Ok-put_out-2.ensures.added c.put_out-in-Outlet.ensures.tally

pub returns-in-Err-put_out-2-clause-took : goal.returns-in-Err-put_out-2-clause-took
returns-in-Err-put_out-2-clause-took g c =
    short_took g.P.LocalPacket.plain g.K.Sink.state c.args.self.now _ (g.P.LocalPacket.plain c.args.p ∷ [])
    refl refl c.in-Err-put_out-2.ensures.unchanged c.put_out-in-Outlet.ensures.tally (rw c.in-Outlet.is refl) (All-cons IsLegal _ [] c.requires.legal (All-nil IsLegal))
