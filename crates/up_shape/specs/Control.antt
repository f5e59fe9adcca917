-- What a module answers to a command, by the options of its kind.
use Rattle.std.specs.Prelude.{ℤ, Option, Some, None, Result, Ok, Err, if◌then◌else◌}
use Rattle.up_model.specs.KindMeaning.{Setting, admits}
use Rattle.up_model.specs.Kinds.{setting_of, with_option}
use Rattle.up_model.specs.declared.kind.Kind.{Kind}
use Rattle.up_model.specs.declared.opt.Opt.{Opt}
use Rattle.up_shape.specs.declared.control.Command.{Command}
use Rattle.up_shape.specs.declared.control.Command.TheVariants.{Get, Set}
use Rattle.up_shape.specs.declared.control.ControlRefused.{ControlRefused}
use Rattle.up_shape.specs.declared.control.ControlRefused.TheVariants.{Unhandled, Invalid}
use Rattle.up_shape.specs.declared.control.Reply.{Reply}
use Rattle.up_shape.specs.declared.control.Reply.TheVariants.{Value, Done}

-- the value of an option that the kind has
abbrev pub got : Option Setting → Result Reply ControlRefused
got None = Err Unhandled
got (Some setting) = Ok (Value setting.value)

-- a value that lies within the bounds of an option that the kind has
abbrev pub set_to : ℤ → Option Setting → Result Reply ControlRefused
set_to value None = Err Unhandled
set_to value (Some setting) =
    if admits setting value then Ok Done else Err (Invalid setting.low setting.high)

-- what the command is answered
abbrev pub answer_to : Kind → Command → Result Reply ControlRefused
answer_to kind (Get option) = got (setting_of kind option)
answer_to kind (Set option value) = set_to value (setting_of kind option)

-- the kind where the answer to a value was this
abbrev pub kind_where : Kind → Opt → ℤ → Result Reply ControlRefused → Kind
kind_where kind option value (Ok reply) = with_option kind option value
kind_where kind option value (Err refused) = kind

-- the kind after the command
abbrev pub kind_after : Kind → Command → Kind
kind_after kind (Get option) = kind
kind_after kind (Set option value) =
    kind_where kind option value (answer_to kind (Set option value))

-- the command sets an option
abbrev pub Sets : Command → Type 0
Sets (Get option) = ⊥
Sets (Set option value) = Unit {0}
