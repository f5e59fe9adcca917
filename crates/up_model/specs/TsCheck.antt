-- The kind `ts_check`: takes the transport stream packets out of larger packets.
use Rattle.std.specs.Prelude.{map}
use Rattle.std.specs.List.{filter, flat_map}
use Rattle.up_base.specs.Transport.{is_ts_packet}
use Rattle.up_base.specs.declared.transport.TheConstants.{TS_SIZE}
use Rattle.up_model.specs.Cutting.{blocks}
use Rattle.up_model.specs.KindMeaning.{KindMeaning, no_options, no_stand_in, writes_nothing}
use Rattle.up_model.specs.Packet.{PlainPacket, Flow}
use Rattle.up_model.specs.Parts.{of_cut}
use Rattle.up_model.specs.declared.fan_out.FanOut.TheVariants as fans

-- the packet's bytes cut at every 188, without the pieces that are no packets: those that begin
-- with another byte than sync_byte, and a shorter one at the end
abbrev pub ts_pieces : PlainPacket → Flow
ts_pieces packet = filter (λ piece. is_ts_packet piece.bytes) (blocks TS_SIZE packet.bytes)

-- each of them, with the packet's attributes
abbrev pub ts_checked_packet : PlainPacket → Flow
ts_checked_packet packet = map (λ piece. record packet { bytes = piece.bytes }) (ts_pieces packet)

-- each packet by itself: no piece reaches into the next
abbrev pub ts_checked : Flow → Flow
ts_checked flow = flat_map ts_checked_packet flow

abbrev pub ts_check_meaning : KindMeaning
ts_check_meaning = record {
  IsWithin = Unit {0};
  output = ts_checked;
  settled = ts_checked;
  tally = λ taken. of_cut taken (ts_checked taken);
  settled_tally = λ taken. of_cut taken (ts_checked taken);
  setting = no_options;
  fan_out = fans.One;
  stand_in = no_stand_in;
  written = writes_nothing;
}
