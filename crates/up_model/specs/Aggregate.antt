-- The kind `aggregate`: joins packets in a row to one, as long as it isn't larger than `mtu` bytes.
use Rattle.std.specs.Prelude.{ℕ, zero, suc, pos, ◌-◌, ◌≤◌, [], ◌∷◌, ◌++◌, nat_le, length, take, Option, Some, None, if◌then◌else◌}
use Rattle.std.specs.Int.RustNames.{unsigned_abs}
use Rattle.up_model.specs.KindMeaning.{KindMeaning, Setting, no_stand_in, writes_nothing}
use Rattle.up_model.specs.Packet.{PlainPacket, Flow, joined}
use Rattle.up_model.specs.Parts.{of_held}
use Rattle.up_model.specs.declared.fan_out.FanOut.TheVariants as fans
use Rattle.up_model.specs.declared.kind.Kind.{Kind}
use Rattle.up_model.specs.declared.limits.TheConstants.{MAX_PACKET}
use Rattle.up_model.specs.declared.opt.Opt.{Opt}
use Rattle.up_model.specs.declared.opt.Opt.TheVariants.{Mtu, Align, Offset, Low, High, By, Sync}

abbrev pub IsMtu : ℕ → Type 0
IsMtu mtu = (1 ≤ mtu) × (mtu ≤ MAX_PACKET)

-- how many packets from the front on have at most so many bytes together
abbrev pub fitting : ℕ → Flow → ℕ
fitting room [] = 0
fitting room (packet ∷ flow) =
    if nat_le (length packet.bytes) room
    then suc (fitting (room - length packet.bytes) flow) else 0

-- how many packets join the first of a group: as many as fit with it, also empty ones where it is
-- full; and none, not even an empty one, where the first alone is larger than `mtu`
abbrev pub joining : ℕ → PlainPacket → Flow → ℕ
joining mtu first flow =
    if nat_le (length first.bytes) mtu then fitting (mtu - length first.bytes) flow else 0

-- the first of a group and those that join it as one packet, with the attributes of the first
abbrev pub group_packet : ℕ → PlainPacket → Flow → PlainPacket
group_packet mtu first flow =
    record first { bytes = first.bytes ++ joined (take (joining mtu first flow) flow) }

-- the groups behind so many packets, which joined the group before
abbrev pub aggregated_behind : ℕ → ℕ → Flow → Flow
aggregated_behind mtu count [] = []
aggregated_behind mtu (suc count) (packet ∷ flow) = aggregated_behind mtu count flow
aggregated_behind mtu zero (packet ∷ flow) =
    group_packet mtu packet flow ∷ aggregated_behind mtu (joining mtu packet flow) flow

abbrev pub aggregated : ℕ → Flow → Flow
aggregated mtu flow = aggregated_behind mtu 0 flow

abbrev pub all_but_last : Flow → Flow
all_but_last flow = take (length flow - 1) flow

-- before the end: all groups but the last, which the next packet may join
abbrev pub aggregated_so_far : ℕ → Flow → Flow
aggregated_so_far mtu flow = all_but_last (aggregated mtu flow)

-- `aggregate` is the kind with this size
abbrev pub aggregate_setting : (ℕ → Kind) → ℕ → Opt → Option Setting
aggregate_setting aggregate mtu Mtu = Some (record {
  value = pos mtu;
  low = pos 1;
  high = pos MAX_PACKET;
  set = λ value. aggregate (unsigned_abs value);
})
aggregate_setting aggregate mtu Align = None
aggregate_setting aggregate mtu Offset = None
aggregate_setting aggregate mtu Low = None
aggregate_setting aggregate mtu High = None
aggregate_setting aggregate mtu By = None
aggregate_setting aggregate mtu Sync = None

abbrev pub aggregate_meaning : (ℕ → Kind) → ℕ → KindMeaning
aggregate_meaning aggregate mtu = record {
  IsWithin = IsMtu mtu;
  output = aggregated mtu;
  settled = aggregated_so_far mtu;
  tally = λ taken. of_held taken (aggregated mtu taken);
  settled_tally = λ taken. of_held taken (aggregated_so_far mtu taken);
  setting = aggregate_setting aggregate mtu;
  fan_out = fans.One;
  stand_in = no_stand_in;
  written = writes_nothing;
}
