use Rattle.std.proofs.Common.{ap, arith, length, refl}
use Rattle.up_strand.proofs.ReadStrands.{block_taken, end_taken, fault_taken, last_taken, long_taken, none_taken, read_fits, read_is_going, read_is_legal}
use Rattle.up_strand.specs.declared.strand.Strand.{Strand}
use Rattle.up_strand.proofs.strand.Strand.take_block.Goals as goal

pub feed_next-requires-clause-going : goal.feed_next-requires-clause-going
feed_next-requires-clause-going g c =
    read_is_going g.P.LocalPacket.plain g.S.Source.state g.K.Sink.state c.args.self.now c.requires.want g.P.LocalPacket.fits _ _ c.read_packet.ensures.store.same
    c.requires.stands c.requires.family

pub feed_last-requires-clause-going : goal.feed_last-requires-clause-going
feed_last-requires-clause-going g c =
    read_is_going g.P.LocalPacket.plain g.S.Source.state g.K.Sink.state c.args.self.now c.requires.want g.P.LocalPacket.fits _ _ c.read_packet.ensures.store.same
    c.requires.stands c.requires.family

pub end-requires : goal.end-requires
end-requires g c =
    record {
      going = read_is_going g.P.LocalPacket.plain g.S.Source.state g.K.Sink.state c.args.self.now c.requires.want g.P.LocalPacket.fits _ _ c.read_packet.ensures.store.same
          c.requires.stands c.requires.family;
    }

pub end-requires-in-Fault : goal.end-requires-in-Fault
end-requires-in-Fault g c =
    record {
      going = read_is_going g.P.LocalPacket.plain g.S.Source.state g.K.Sink.state c.args.self.now c.requires.want g.P.LocalPacket.fits _ _ c.read_packet.ensures.store.same
          c.requires.stands c.requires.family;
    }

pub end-requires-in-TooLong : goal.end-requires-in-TooLong
end-requires-in-TooLong g c =
    record {
      going = read_is_going g.P.LocalPacket.plain g.S.Source.state g.K.Sink.state c.args.self.now c.requires.want g.P.LocalPacket.fits _ _ c.read_packet.ensures.store.same
          c.requires.stands c.requires.family;
    }

pub run_short-requires : goal.run_short-requires
run_short-requires g c =
    record {
      going = read_is_going g.P.LocalPacket.plain g.S.Source.state g.K.Sink.state c.args.self.now c.requires.want g.P.LocalPacket.fits _ _ c.read_packet.ensures.store.same
          c.requires.stands c.requires.family;
    }

pub run_short-requires-in-NoRoom : goal.run_short-requires-in-NoRoom
run_short-requires-in-NoRoom g c =
    record {
      going = read_is_going g.P.LocalPacket.plain g.S.Source.state g.K.Sink.state c.args.self.now c.requires.want g.P.LocalPacket.fits _ _ c.read_packet.ensures.store.same
          c.requires.stands c.requires.family;
    }

pub feed_next-requires-clause-legal : goal.feed_next-requires-clause-legal
feed_next-requires-clause-legal g c =
    let read = c.in-Packet.ensures.reads in
    read_is_legal g.P.LocalPacket.plain g.S.Source.state g.K.Sink.state c.args.self.now c.requires.want c.in-FromSource.source c.in-FromSource.block c.in-FromSource.limit c.in-FromSource.left c.in-FromSource.is
    c.requires.stands (g.P.LocalPacket.plain c.in-Packet.p) read.taken read.are.0 read.in_block

pub feed_last-requires-clause-legal : goal.feed_last-requires-clause-legal
feed_last-requires-clause-legal g c =
    let read = c.in-Last.ensures.reads in
    read_is_legal g.P.LocalPacket.plain g.S.Source.state g.K.Sink.state c.args.self.now c.requires.want c.in-FromSource.source c.in-FromSource.block c.in-FromSource.limit c.in-FromSource.left c.in-FromSource.is
    c.requires.stands (g.P.LocalPacket.plain c.in-Last.p) read.taken read.are.0 read.in_block

pub returns-in-Packet-clause-stepped : goal.returns-in-Packet-clause-stepped
returns-in-Packet-clause-stepped g c =
    block_taken g.P.LocalPacket.plain g.S.Source.state g.K.Sink.state c.args.self.now c.requires.want c.in-FromSource.source c.in-FromSource.block c.in-FromSource.limit c.in-FromSource.left c.in-FromSource.is
    c.read_packet.new.source c.feed_next.new.self (g.P.Store.Stash.state c.args.s.now) (g.P.Store.Stash.state c.read_packet.new.s) (g.P.Store.Stash.state c.feed_next.new.s) c.feed_next.ensures.store
    c.in-Packet.p c.from.result c.from.ensures c.in-Packet.ensures.reads c.in-Packet.ensures.drawn c.feed_next.ensures.same c.feed_next.ensures.went.took c.feed_next.ensures.went.is

pub returns-in-Packet-clause-family : goal.returns-in-Packet-clause-family
returns-in-Packet-clause-family g c =
    read_fits g.P.LocalPacket.fits _ _ c.args.self.now c.feed_next.new.self (ap (λ (strand : Strand g.row.P.Denot g.row.S.Denot g.row.K.Denot). strand.kept) c.feed_next.ensures.same)
    c.read_packet.ensures.store.same c.feed_next.ensures.went.fitting c.requires.family

pub returns-in-Last-clause-stepped : goal.returns-in-Last-clause-stepped
returns-in-Last-clause-stepped g c =
    last_taken g.P.LocalPacket.plain g.S.Source.state g.K.Sink.state c.args.self.now c.requires.want c.in-FromSource.source c.in-FromSource.block c.in-FromSource.limit c.in-FromSource.left c.in-FromSource.is
    c.read_packet.new.source c.feed_last.new.self (g.P.Store.Stash.state c.args.s.now) (g.P.Store.Stash.state c.read_packet.new.s) (g.P.Store.Stash.state c.feed_last.new.s) c.feed_last.ensures.store
    c.in-Last.p c.in-Last.ensures.reads c.in-Last.ensures.drawn c.feed_last.ensures.same c.feed_last.ensures.went.took c.feed_last.ensures.went.is

pub returns-in-Last-clause-family : goal.returns-in-Last-clause-family
returns-in-Last-clause-family g c =
    read_fits g.P.LocalPacket.fits _ _ c.args.self.now c.feed_last.new.self (ap (λ (strand : Strand g.row.P.Denot g.row.S.Denot g.row.K.Denot). strand.kept) c.feed_last.ensures.same)
    c.read_packet.ensures.store.same c.feed_last.ensures.went.fitting c.requires.family

pub returns-in-End-clause-stepped : goal.returns-in-End-clause-stepped
returns-in-End-clause-stepped g c =
    end_taken g.P.LocalPacket.plain g.S.Source.state g.K.Sink.state c.args.self.now c.requires.want c.in-FromSource.source c.in-FromSource.block c.in-FromSource.limit c.in-FromSource.left c.in-FromSource.is
    c.read_packet.new.source c.end.new.self (g.P.Store.Stash.state c.args.s.now) (g.P.Store.Stash.state c.read_packet.new.s) (g.P.Store.Stash.state c.end.new.s) c.end.ensures.store
    c.in-End.ensures.reads c.in-End.ensures.drawn c.end.ensures.same c.end.ensures.went.took c.end.ensures.went.is

pub returns-in-End-clause-family : goal.returns-in-End-clause-family
returns-in-End-clause-family g c =
    read_fits g.P.LocalPacket.fits _ _ c.args.self.now c.end.new.self (ap (λ (strand : Strand g.row.P.Denot g.row.S.Denot g.row.K.Denot). strand.kept) c.end.ensures.same)
    c.read_packet.ensures.store.same c.end.ensures.went.fitting c.requires.family

pub returns-in-Fault-clause-stepped : goal.returns-in-Fault-clause-stepped
returns-in-Fault-clause-stepped g c =
    fault_taken g.P.LocalPacket.plain g.S.Source.state g.K.Sink.state c.args.self.now c.requires.want c.in-FromSource.source c.in-FromSource.block c.in-FromSource.limit c.in-FromSource.left c.in-FromSource.is
    c.read_packet.new.source c.end-in-Fault.new.self (g.P.Store.Stash.state c.args.s.now) (g.P.Store.Stash.state c.read_packet.new.s) (g.P.Store.Stash.state c.end-in-Fault.new.s) c.end-in-Fault.ensures.store
    c.in-Fault.ensures.reads c.in-Fault.ensures.drawn c.end-in-Fault.ensures.same c.end-in-Fault.ensures.went.took c.end-in-Fault.ensures.went.is
    (c.end-in-Fault.ensures.short (λ same. cc))

pub returns-in-Fault-clause-family : goal.returns-in-Fault-clause-family
returns-in-Fault-clause-family g c =
    read_fits g.P.LocalPacket.fits _ _ c.args.self.now c.end-in-Fault.new.self (ap (λ (strand : Strand g.row.P.Denot g.row.S.Denot g.row.K.Denot). strand.kept) c.end-in-Fault.ensures.same)
    c.read_packet.ensures.store.same c.end-in-Fault.ensures.went.fitting c.requires.family

pub returns-in-TooLong-clause-stepped : goal.returns-in-TooLong-clause-stepped
returns-in-TooLong-clause-stepped g c =
    long_taken g.P.LocalPacket.plain g.S.Source.state g.K.Sink.state c.args.self.now c.requires.want c.in-FromSource.source c.in-FromSource.block c.in-FromSource.limit c.in-FromSource.left c.in-FromSource.is
    c.read_packet.new.source c.end-in-TooLong.new.self (g.P.Store.Stash.state c.args.s.now) (g.P.Store.Stash.state c.read_packet.new.s) (g.P.Store.Stash.state c.end-in-TooLong.new.s) c.end-in-TooLong.ensures.store
    c.in-TooLong.ensures.reads c.in-TooLong.ensures.drawn c.end-in-TooLong.ensures.same c.end-in-TooLong.ensures.went.took c.end-in-TooLong.ensures.went.is
    (c.end-in-TooLong.ensures.short (λ same. cc))

pub returns-in-TooLong-clause-family : goal.returns-in-TooLong-clause-family
returns-in-TooLong-clause-family g c =
    read_fits g.P.LocalPacket.fits _ _ c.args.self.now c.end-in-TooLong.new.self (ap (λ (strand : Strand g.row.P.Denot g.row.S.Denot g.row.K.Denot). strand.kept) c.end-in-TooLong.ensures.same)
    c.read_packet.ensures.store.same c.end-in-TooLong.ensures.went.fitting c.requires.family

pub returns-in-NoMemory-clause-stepped : goal.returns-in-NoMemory-clause-stepped
returns-in-NoMemory-clause-stepped g c =
    none_taken g.P.LocalPacket.plain g.S.Source.state g.K.Sink.state c.args.self.now c.requires.want c.in-FromSource.source c.in-FromSource.block c.in-FromSource.limit c.in-FromSource.left c.in-FromSource.is
    c.read_packet.new.source c.run_short.new.self (g.P.Store.Stash.state c.args.s.now) (g.P.Store.Stash.state c.read_packet.new.s) (g.P.Store.Stash.state c.run_short.new.s) c.run_short.ensures.store
    _ c.in-NoMemory.ensures.reads refl c.read_packet.ensures.store.more (λ some. c.in-NoMemory.ensures.drawn)
    c.run_short.ensures.same c.run_short.ensures.went.took c.run_short.ensures.went.is c.run_short.ensures.short

pub returns-in-NoMemory-clause-family : goal.returns-in-NoMemory-clause-family
returns-in-NoMemory-clause-family g c =
    read_fits g.P.LocalPacket.fits _ _ c.args.self.now c.run_short.new.self (ap (λ (strand : Strand g.row.P.Denot g.row.S.Denot g.row.K.Denot). strand.kept) c.run_short.ensures.same)
    c.read_packet.ensures.store.same c.run_short.ensures.went.fitting c.requires.family

pub returns-in-NoRoom-clause-stepped : goal.returns-in-NoRoom-clause-stepped
returns-in-NoRoom-clause-stepped g c =
    none_taken g.P.LocalPacket.plain g.S.Source.state g.K.Sink.state c.args.self.now c.requires.want c.in-FromSource.source c.in-FromSource.block c.in-FromSource.limit c.in-FromSource.left c.in-FromSource.is
    c.read_packet.new.source c.run_short-in-NoRoom.new.self (g.P.Store.Stash.state c.args.s.now) (g.P.Store.Stash.state c.read_packet.new.s) (g.P.Store.Stash.state c.run_short-in-NoRoom.new.s) c.run_short-in-NoRoom.ensures.store
    _ c.in-NoRoom.ensures.reads refl c.read_packet.ensures.store.more (λ some. let none = ap length c.in-NoRoom.ensures.reads.are in absurd (omega (arith, some, none)))
    c.run_short-in-NoRoom.ensures.same c.run_short-in-NoRoom.ensures.went.took c.run_short-in-NoRoom.ensures.went.is c.run_short-in-NoRoom.ensures.short

pub returns-in-NoRoom-clause-family : goal.returns-in-NoRoom-clause-family
returns-in-NoRoom-clause-family g c =
    read_fits g.P.LocalPacket.fits _ _ c.args.self.now c.run_short-in-NoRoom.new.self (ap (λ (strand : Strand g.row.P.Denot g.row.S.Denot g.row.K.Denot). strand.kept) c.run_short-in-NoRoom.ensures.same)
    c.read_packet.ensures.store.same c.run_short-in-NoRoom.ensures.went.fitting c.requires.family
