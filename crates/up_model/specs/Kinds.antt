-- What each kind of pipe does with a whole flow. `meaning_of` names every kind, and so do the two classes of kinds of which laws speak.
use Rattle.std.specs.Prelude.{ℕ, ℤ, Bool, true, false, List, Option, Some, None, unwrap_or}
use Rattle.up_model.specs.DelAttr.{delattr_meaning}
use Rattle.up_model.specs.Delay.{delay_meaning}
use Rattle.up_model.specs.Ends.{source_meaning, sink_meaning}
use Rattle.up_model.specs.KindMeaning.{KindMeaning, Setting, no_options}
use Rattle.up_model.specs.MatchAttr.{match_attr_meaning}
use Rattle.up_model.specs.Packet.{Flow}
use Rattle.up_model.specs.Packetwise.{packetwise, passes_on, drops}
use Rattle.up_model.specs.SetAttr.{setattr_meaning}
use Rattle.up_model.specs.Shares.{share_by}
use Rattle.up_model.specs.Skip.{skip_meaning}
use Rattle.up_model.specs.Work.{Work}
use Rattle.up_model.specs.declared.fan_out.FanOut.{FanOut}
use Rattle.up_model.specs.declared.fan_out.FanOut.TheVariants as fans
use Rattle.up_model.specs.declared.kind.Kind.{Kind}
use Rattle.up_model.specs.declared.kind.Kind.TheVariants.{Source, Sink, Idem, Null, Dup, Skip, SetAttr, DelAttr, MatchAttr, Delay}
use Rattle.up_model.specs.declared.opt.Opt.{Opt}

abbrev pub meaning_of : Kind → KindMeaning
meaning_of (Source path form limit) = source_meaning path form limit
meaning_of (Sink path form) = sink_meaning path form
meaning_of Idem = packetwise (Unit {0}) passes_on no_options fans.One
meaning_of Null = packetwise (Unit {0}) drops no_options fans.None
meaning_of Dup = packetwise (Unit {0}) passes_on no_options fans.All
meaning_of (Skip bytes) = skip_meaning bytes
meaning_of (SetAttr attr value) = setattr_meaning attr value
meaning_of (DelAttr attr) = delattr_meaning attr
meaning_of (MatchAttr attr low high) = match_attr_meaning attr low high
meaning_of (Delay by) = delay_meaning by

-- it looks at each packet by itself: it puts it out or drops it, and joins, splits and makes up none
abbrev pub is_packetwise : Kind → Bool
is_packetwise (Source path form limit) = false
is_packetwise (Sink path form) = false
is_packetwise Idem = true
is_packetwise Null = true
is_packetwise Dup = true
is_packetwise (Skip bytes) = true
is_packetwise (SetAttr attr value) = true
is_packetwise (DelAttr attr) = true
is_packetwise (MatchAttr attr low high) = true
is_packetwise (Delay by) = true

-- it puts out every packet that it takes, with all of its bytes
abbrev pub keeps_bytes : Kind → Bool
keeps_bytes (Source path form limit) = false
keeps_bytes (Sink path form) = false
keeps_bytes Idem = true
keeps_bytes Null = false
keeps_bytes Dup = true
keeps_bytes (Skip bytes) = false
keeps_bytes (SetAttr attr value) = false
keeps_bytes (DelAttr attr) = true
keeps_bytes (MatchAttr attr low high) = false
keeps_bytes (Delay by) = true

-- its fields are within their bounds
abbrev pub IsWithinBounds : Kind → Type 0
IsWithinBounds kind = (meaning_of kind).IsWithin

-- the function of a kind: what it puts out for what it takes
abbrev pub output_of : Kind → Flow → Flow
output_of kind taken = (meaning_of kind).output taken

-- what it has put out when it has taken this and the flow goes on
abbrev pub settled_output : Kind → Flow → Flow
settled_output kind taken = (meaning_of kind).settled taken

-- the whole work on a flow
abbrev pub work_of : Kind → Flow → Work
work_of kind taken = record { flow = output_of kind taken; tally = (meaning_of kind).tally taken }

-- the work that is done when the flow goes on
abbrev pub settled_work : Kind → Flow → Work
settled_work kind taken =
    record { flow = settled_output kind taken; tally = (meaning_of kind).settled_tally taken }

-- the option of a kind, where the kind has it
abbrev pub setting_of : Kind → Opt → Option Setting
setting_of kind option = (meaning_of kind).setting option

abbrev pub set_by : Kind → ℤ → Option Setting → Kind
set_by kind value None = kind
set_by kind value (Some setting) = setting.set value

-- the kind with the option set to a value within its bounds
abbrev pub with_option : Kind → Opt → ℤ → Kind
with_option kind option value = set_by kind value (setting_of kind option)

-- whom its output feeds
abbrev pub fan_out_of : Kind → FanOut
fan_out_of kind = (meaning_of kind).fan_out

-- what of its output a consumer with this `select` takes
abbrev pub share_of : Kind → Option ℕ → Flow → Flow
share_of kind select flow = share_by (fan_out_of kind) select flow

-- the bytes that a pipe of the kind writes of what it takes: none but a sink's
abbrev pub written_of : Kind → Flow → List ℕ
written_of kind taken = (meaning_of kind).written taken

-- the kind that its module has, by the numbers that its consumers select
abbrev pub module_kind : List ℕ → Kind → Kind
module_kind numbers kind = unwrap_or ((meaning_of kind).stand_in numbers) kind
