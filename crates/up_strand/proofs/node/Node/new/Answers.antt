use Rattle.std.proofs.lemmas.List.Elements.{All-nil}
use Rattle.up_model.specs.Packet.{IsLegal}
use Rattle.up_strand.proofs.NodeSteps.{holds_nothing}
use Rattle.up_strand.specs.Nodes.{is_whole}
use Rattle.up_strand.proofs.node.Node.new.Goals as goal

pub returns-clause-stands : goal.returns-clause-stands
returns-clause-stands g c seat within part =
    record {
      legal = All-nil IsLegal;
      within = within;
      part = part;
      holds = holds_nothing g.P.LocalPacket.plain (is_whole c.args.part) seat.kind c.new.result within c.new.ensures.packets c.new.ensures.tally;
    }
