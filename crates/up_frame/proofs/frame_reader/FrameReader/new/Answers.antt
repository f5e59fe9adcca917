use Rattle.std.proofs.Common.{[], length, refl, sym, ap, ◌∙◌, arith}
use Rattle.std.proofs.lemmas.List.Elements.{All-nil}
use Rattle.up_model.proofs.FrameStreams.{nothing_at_end}
use Rattle.up_model.specs.FrameFronts.{packet_at}
use Rattle.up_model.specs.Packet.{IsLegal}
use Rattle.up_frame.proofs.frame_reader.FrameReader.new.Goals as goal

pub returns-clause-stands : goal.returns-clause-stands
returns-clause-stands c = record {
  count = refl;
  waiting = [];
  waits = record { legal = All-nil IsLegal; frames = refl };
  whole = refl;
  keeps = record {
    rest = sym c.new.ensures.items;
    front = ap packet_at c.new.ensures.items ∙ nothing_at_end;
    on = tt;
    all = omega (arith, ap length c.new.ensures.items);
  };
}
