use Rattle.std.proofs.Common.{rules, ◌≡◌, refl}
use Rattle.up_model.specs.declared.outcome.Outcome.TheVariants as outcomes
use Rattle.up_queue.specs.declared.end_kind.EndKind.TheVariants as ends
use Rattle.up_queue.specs.declared.item.Item.TheVariants.{End}
use Rattle.up_strand.proofs.ItemSteps.{end_taken, old_is_going, packet_taken}
use Rattle.up_strand.proofs.strand.Strand.take_item.Goals as goal

pub feed-requires-clause-going : goal.feed-requires-clause-going
feed-requires-clause-going g c =
    old_is_going g.P.LocalPacket.plain g.S.Source.state g.K.Sink.state c.args.self.now c.requires.want g.P.LocalPacket.fits _ c.requires.stands c.requires.family

pub end-requires : goal.end-requires
end-requires g c =
    record {
      going = old_is_going g.P.LocalPacket.plain g.S.Source.state g.K.Sink.state c.args.self.now c.requires.want g.P.LocalPacket.fits _ c.requires.stands c.requires.family;
    }

pub end-requires-in-End-Broken : goal.end-requires-in-End-Broken
end-requires-in-End-Broken g c =
    record {
      going = old_is_going g.P.LocalPacket.plain g.S.Source.state g.K.Sink.state c.args.self.now c.requires.want g.P.LocalPacket.fits _ c.requires.stands c.requires.family;
    }

pub returns-in-Packet-clause-stepped : goal.returns-in-Packet-clause-stepped
returns-in-Packet-clause-stepped g c =
    rw c.in-Packet.is
    (packet_taken g.P.LocalPacket.plain g.S.Source.state g.K.Sink.state c.args.self.now c.requires.want c.in-Packet.p c.feed.new.self
    c.feed.ensures.same c.feed.ensures.went.took c.feed.ensures.went.is)

pub returns-in-End-Whole-clause-stepped : goal.returns-in-End-Whole-clause-stepped
returns-in-End-Whole-clause-stepped g c =
    let item : c.args.item ≡ End ends.Whole = search rules in
    rw item
    (end_taken g.P.LocalPacket.plain g.S.Source.state g.K.Sink.state c.args.self.now c.requires.want ends.Whole outcomes.Whole c.end.new.self
    c.end.ensures.same tt refl c.end.ensures.went.took c.end.ensures.went.is)

pub returns-in-End-Broken-clause-stepped : goal.returns-in-End-Broken-clause-stepped
returns-in-End-Broken-clause-stepped g c =
    let item : c.args.item ≡ End ends.Broken = search rules in
    rw item
    (end_taken g.P.LocalPacket.plain g.S.Source.state g.K.Sink.state c.args.self.now c.requires.want ends.Broken outcomes.Broken c.end-in-End-Broken.new.self
    c.end-in-End-Broken.ensures.same tt refl c.end-in-End-Broken.ensures.went.took c.end-in-End-Broken.ensures.went.is)
