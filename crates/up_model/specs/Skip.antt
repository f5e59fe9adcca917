-- The kind `skip`: takes the first bytes off each packet, and drops a packet that has fewer.
use Rattle.std.specs.Prelude.{ℕ, ◌≤◌, pos, nat_le, length, drop, if◌then◌else◌, Option, Some, None}
use Rattle.std.specs.Int.RustNames.{unsigned_abs}
use Rattle.up_model.specs.KindMeaning.{KindMeaning, Setting}
use Rattle.up_model.specs.Packetwise.{Step, packetwise}
use Rattle.up_model.specs.declared.fan_out.FanOut.TheVariants as fans
use Rattle.up_model.specs.declared.kind.Kind.TheVariants.{Skip}
use Rattle.up_model.specs.declared.limits.TheConstants.{MAX_PACKET}
use Rattle.up_model.specs.declared.opt.Opt.{Opt}
use Rattle.up_model.specs.declared.opt.Opt.TheVariants.{Mtu, Align, Offset, Low, High, By, Sync}
use Rattle.up_model.specs.declared.verdict.Verdict.TheVariants.{Passes, Drops}

abbrev pub skip_step : ℕ → Step
skip_step count packet =
    if nat_le count (length packet.bytes)
    then Passes (record packet { bytes = drop count packet.bytes }) count else Drops

abbrev pub skip_setting : ℕ → Opt → Option Setting
skip_setting count Offset = Some (record {
  value = pos count;
  low = pos 0;
  high = pos MAX_PACKET;
  set = λ value. Skip (unsigned_abs value);
})
skip_setting count Mtu = None
skip_setting count Align = None
skip_setting count Low = None
skip_setting count High = None
skip_setting count By = None
skip_setting count Sync = None

abbrev pub skip_meaning : ℕ → KindMeaning
skip_meaning count = packetwise (count ≤ MAX_PACKET) (skip_step count) (skip_setting count) fans.One
