-- What a consumer takes of an output.
use Rattle.std.specs.Prelude.{ℕ, ◌==◌, Bool, ◌&&◌, [], filter, Option, Some, None}
use Rattle.up_base.specs.Transport.{is_ts_packet, packet_identifier}
use Rattle.up_model.specs.Packet.{PlainPacket, Flow}
use Rattle.up_model.specs.declared.fan_out.FanOut.{FanOut}
use Rattle.up_model.specs.declared.fan_out.FanOut.TheVariants as fans

-- a transport stream packet of this PID
abbrev pub has_pid : ℕ → PlainPacket → Bool
has_pid number packet =
    is_ts_packet packet.bytes && (packet_identifier packet.bytes == number)

-- the packets of the PID that is selected
abbrev pub of_pid : Option ℕ → Flow → Flow
of_pid None flow = []
of_pid (Some number) flow = filter (has_pid number) flow

-- the whole output, but of one that is split what is selected
abbrev pub share_by : FanOut → Option ℕ → Flow → Flow
share_by fans.None select flow = flow
share_by fans.One select flow = flow
share_by fans.All select flow = flow
share_by fans.Selected select flow = of_pid select flow
