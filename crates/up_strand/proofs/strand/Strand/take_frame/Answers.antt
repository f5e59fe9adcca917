use Rattle.std.proofs.Common.{ap, arith, refl}
use Rattle.up_strand.proofs.FrameStrands.{frames_ended, no_frame_taken, packet_taken, piece_taken, gives_frames}
use Rattle.up_strand.proofs.ReadStrands.{read_fits, read_is_going}
use Rattle.up_strand.specs.declared.strand.Strand.{Strand}
use Rattle.up_strand.proofs.strand.Strand.take_frame.Goals as goal

pub next-requires : goal.next-requires
next-requires g c =
    record {
      stands = gives_frames g.P.LocalPacket.plain g.S.Source.state g.K.Sink.state c.args.self.now c.requires.want c.in-FromFrames.frames c.in-FromFrames.is c.requires.stands;
    }

pub feed_next-requires-clause-going : goal.feed_next-requires-clause-going
feed_next-requires-clause-going g c =
    read_is_going g.P.LocalPacket.plain g.S.Source.state g.K.Sink.state c.args.self.now c.requires.want g.P.LocalPacket.fits _ _ c.next.ensures.store.same
    c.requires.stands c.requires.family

pub end-requires : goal.end-requires
end-requires g c =
    record {
      going = read_is_going g.P.LocalPacket.plain g.S.Source.state g.K.Sink.state c.args.self.now c.requires.want g.P.LocalPacket.fits _ _ c.next.ensures.store.same
          c.requires.stands c.requires.family;
    }

pub run_short-requires : goal.run_short-requires
run_short-requires g c =
    record {
      going = read_is_going g.P.LocalPacket.plain g.S.Source.state g.K.Sink.state c.args.self.now c.requires.want g.P.LocalPacket.fits _ _ c.next.ensures.store.same
          c.requires.stands c.requires.family;
    }

pub returns-in-Packet-clause-stepped : goal.returns-in-Packet-clause-stepped
returns-in-Packet-clause-stepped g c =
    packet_taken g.P.LocalPacket.plain g.S.Source.state g.K.Sink.state c.args.self.now c.requires.want c.in-FromFrames.frames c.in-FromFrames.is
    c.next.new.self c.feed_next.new.self (g.P.Store.Stash.state c.args.s.now) (g.P.Store.Stash.state c.next.new.s) (g.P.Store.Stash.state c.feed_next.new.s)
    c.next.ensures.store c.feed_next.ensures.store c.in-Packet.p c.in-Packet.ensures.gave c.in-Packet.ensures.drawn
    c.feed_next.ensures.same c.feed_next.ensures.went.took c.feed_next.ensures.went.is c.requires.stands

pub returns-in-Packet-clause-family : goal.returns-in-Packet-clause-family
returns-in-Packet-clause-family g c =
    read_fits g.P.LocalPacket.fits _ _ c.args.self.now c.feed_next.new.self (ap (λ (strand : Strand g.row.P.Denot g.row.S.Denot g.row.K.Denot). strand.kept) c.feed_next.ensures.same)
    c.next.ensures.store.same c.feed_next.ensures.went.fitting c.requires.family

pub returns-in-Piece-clause-stepped : goal.returns-in-Piece-clause-stepped
returns-in-Piece-clause-stepped g c =
    piece_taken g.P.LocalPacket.plain g.S.Source.state g.K.Sink.state c.args.self.now c.requires.want c.in-FromFrames.frames c.in-FromFrames.is
    c.next.new.self _ (g.P.Store.Stash.state c.args.s.now) (g.P.Store.Stash.state c.next.new.s) (g.P.Store.Stash.state c.next.new.s)
    c.next.ensures.store (record { same = refl; few = omega arith; more = omega arith }) c.in-Piece.ensures.gave refl c.requires.stands

pub returns-in-Ended-clause-stepped : goal.returns-in-Ended-clause-stepped
returns-in-Ended-clause-stepped g c =
    frames_ended g.P.LocalPacket.plain g.S.Source.state g.K.Sink.state c.args.self.now c.requires.want c.in-FromFrames.frames c.in-FromFrames.is
    c.next.new.self c.end.new.self (g.P.Store.Stash.state c.args.s.now) (g.P.Store.Stash.state c.next.new.s) (g.P.Store.Stash.state c.end.new.s)
    c.next.ensures.store c.end.ensures.store c.in-Ended.outcome c.in-Ended.ensures.gave
    c.end.ensures.same c.end.ensures.went.took c.end.ensures.went.is c.end.ensures.short c.requires.stands

pub returns-in-Ended-clause-family : goal.returns-in-Ended-clause-family
returns-in-Ended-clause-family g c =
    read_fits g.P.LocalPacket.fits _ _ c.args.self.now c.end.new.self (ap (λ (strand : Strand g.row.P.Denot g.row.S.Denot g.row.K.Denot). strand.kept) c.end.ensures.same)
    c.next.ensures.store.same c.end.ensures.went.fitting c.requires.family

pub returns-in-NoMemory-clause-stepped : goal.returns-in-NoMemory-clause-stepped
returns-in-NoMemory-clause-stepped g c =
    no_frame_taken g.P.LocalPacket.plain g.S.Source.state g.K.Sink.state c.args.self.now c.requires.want c.in-FromFrames.frames c.in-FromFrames.is
    c.next.new.self c.run_short.new.self (g.P.Store.Stash.state c.args.s.now) (g.P.Store.Stash.state c.next.new.s) (g.P.Store.Stash.state c.run_short.new.s)
    c.next.ensures.store c.run_short.ensures.store c.in-NoMemory.ensures.gave
    c.run_short.ensures.same c.run_short.ensures.went.took c.run_short.ensures.went.is c.run_short.ensures.short

pub returns-in-NoMemory-clause-family : goal.returns-in-NoMemory-clause-family
returns-in-NoMemory-clause-family g c =
    read_fits g.P.LocalPacket.fits _ _ c.args.self.now c.run_short.new.self (ap (λ (strand : Strand g.row.P.Denot g.row.S.Denot g.row.K.Denot). strand.kept) c.run_short.ensures.same)
    c.next.ensures.store.same c.run_short.ensures.went.fitting c.requires.family
