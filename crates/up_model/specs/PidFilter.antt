-- The kind `pid_filter`: puts out the transport stream packets of some PIDs.
use Rattle.std.specs.Prelude.{ℕ, ◌≤◌, Bool, List, All, if◌then◌else◌}
use Rattle.std.specs.List.{list_any}
use Rattle.up_model.specs.KindMeaning.{KindMeaning, no_options}
use Rattle.up_model.specs.Packet.{PlainPacket}
use Rattle.up_model.specs.Packetwise.{Step, packetwise}
use Rattle.up_model.specs.Shares.{has_pid}
use Rattle.up_model.specs.declared.fan_out.FanOut.TheVariants as fans
use Rattle.up_model.specs.declared.limits.TheConstants.{MAX_PID}
use Rattle.up_model.specs.declared.verdict.Verdict.TheVariants.{Passes, Drops}

-- none is above the greatest PID. How many there are is no part of it: a split without consumers
-- stands for a filter by none
abbrev pub ArePids : List ℕ → Type 0
ArePids pids = All (λ pid. pid ≤ MAX_PID) pids

-- a transport stream packet whose PID is one of these: 188 bytes, the first of them sync_byte
abbrev pub has_pid_of : List ℕ → PlainPacket → Bool
has_pid_of pids packet = list_any (λ pid. has_pid pid packet) pids

-- each packet as it is, or none
abbrev pub pid_filter_step : List ℕ → Step
pid_filter_step pids packet = if has_pid_of pids packet then Passes packet 0 else Drops

abbrev pub pid_filter_meaning : List ℕ → KindMeaning
pid_filter_meaning pids = packetwise (ArePids pids) (pid_filter_step pids) no_options fans.One
