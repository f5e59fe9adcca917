-- The kind `delay`: moves the dates of each packet.
use Rattle.std.specs.Prelude.{ℕ, ℤ, pos, negsuc, ◌-◌, ◌^◌, ◌+ℤ◌, ◌≤ℤ◌, nat_lt, List, Option, Some, None, option_map, if◌then◌else◌}
use Rattle.std.specs.FinMap.{insert, remove}
use Rattle.up_model.specs.Attrs.{Attrs, unsigned_at}
use Rattle.up_model.specs.Dates.{date_name}
use Rattle.up_model.specs.KindMeaning.{KindMeaning, Setting}
use Rattle.up_model.specs.Packet.{PlainPacket}
use Rattle.up_model.specs.Packetwise.{Step, packetwise}
use Rattle.up_model.specs.Value.{number_bound}
use Rattle.up_model.specs.declared.date_kind.DateKind.TheVariants.{Sys, Prog, Orig}
use Rattle.up_model.specs.declared.fan_out.FanOut.TheVariants as fans
use Rattle.up_model.specs.declared.kind.Kind.TheVariants.{Delay}
use Rattle.up_model.specs.declared.opt.Opt.{Opt}
use Rattle.up_model.specs.declared.opt.Opt.TheVariants.{Mtu, Align, Offset, Low, High, By, Sync}
use Rattle.up_model.specs.declared.value.Value.{Value}
use Rattle.up_model.specs.declared.value.Value.TheVariants.{Void, Flag, Unsigned, Words, Opaque}
use Rattle.up_model.specs.declared.verdict.Verdict.TheVariants.{Passes}

-- by how much dates can be moved, down and up: -2^63 and 2^63 - 1
abbrev pub least_shift : ℤ
least_shift = negsuc (2 ^ 63 - 1)

abbrev pub greatest_shift : ℤ
greatest_shift = pos (2 ^ 63 - 1)

abbrev pub IsShift : ℤ → Type 0
IsShift by = (least_shift ≤ℤ by) × (by ≤ℤ greatest_shift)

-- the sum as a date, where it is a number of 64 bits
abbrev pub dated : ℤ → Option ℕ
dated (pos date) = if nat_lt date number_bound then Some date else None
dated (negsuc below) = None

-- the attributes with this date under the name, or without the name
abbrev pub with_date : List ℕ → Attrs → Option ℕ → Attrs
with_date name attrs None = remove attrs name
with_date name attrs (Some date) = insert attrs name (Unsigned date)

-- the date, moved
abbrev pub moved_date : ℤ → ℕ → Option ℕ
moved_date by date = dated (pos date +ℤ by)

-- the number under the name, moved; what is no number stays
abbrev pub moved_from : ℤ → List ℕ → Attrs → Option ℕ → Attrs
moved_from by name attrs None = attrs
moved_from by name attrs (Some date) = with_date name attrs (moved_date by date)

abbrev pub moved : ℤ → List ℕ → Attrs → Attrs
moved by name attrs = moved_from by name attrs (unsigned_at name attrs)

-- the attributes with the three dates moved
abbrev pub delayed : ℤ → Attrs → Attrs
delayed by attrs =
    moved by (date_name Orig) (moved by (date_name Prog) (moved by (date_name Sys) attrs))

-- what then stands under a date's name, for the law that says it of each: a number becomes the sum, or goes; all else stays
abbrev pub moved_value : ℤ → Option Value → Option Value
moved_value by None = None
moved_value by (Some Void) = Some Void
moved_value by (Some (Flag flag)) = Some (Flag flag)
moved_value by (Some (Unsigned date)) = option_map Unsigned (moved_date by date)
moved_value by (Some (Words text)) = Some (Words text)
moved_value by (Some (Opaque bytes)) = Some (Opaque bytes)

-- the packet with its dates moved
abbrev pub delayed_packet : ℤ → PlainPacket → PlainPacket
delayed_packet by packet = record packet { attrs = delayed by packet.attrs }

-- each packet is put out so
abbrev pub delay_step : ℤ → Step
delay_step by packet = Passes (delayed_packet by packet) 0

abbrev pub delay_setting : ℤ → Opt → Option Setting
delay_setting by By = Some (record {
  value = by;
  low = least_shift;
  high = greatest_shift;
  set = λ value. Delay value;
})
delay_setting by Mtu = None
delay_setting by Align = None
delay_setting by Offset = None
delay_setting by Low = None
delay_setting by High = None
delay_setting by Sync = None

abbrev pub delay_meaning : ℤ → KindMeaning
delay_meaning by = packetwise (IsShift by) (delay_step by) (delay_setting by) fans.One
