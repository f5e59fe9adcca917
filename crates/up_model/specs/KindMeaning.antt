-- What the meaning of a kind of pipe consists of: one record a kind.
use Rattle.std.specs.Prelude.{ℕ, ℤ, int_le, Bool, ◌&&◌, List, [], Option, None}
use Rattle.up_model.specs.Packet.{Flow}
use Rattle.up_model.specs.declared.fan_out.FanOut.{FanOut}
use Rattle.up_model.specs.declared.kind.Kind.{Kind}
use Rattle.up_model.specs.declared.opt.Opt.{Opt}
use Rattle.up_model.specs.declared.tally.Tally.{Tally}

-- an option as it stands: its value, the least and the greatest that it can be set to, and the kind once it is set
pub record Setting : Type 0 where
  pub value : ℤ
  pub low : ℤ
  pub high : ℤ
  pub set : ℤ → Kind

-- the value lies within the bounds of the option
abbrev pub admits : Setting → ℤ → Bool
admits setting value = int_le setting.low value && int_le value setting.high

pub record KindMeaning : Type 1 where
  -- what the fields of every pipe and every module of the kind keep
  pub IsWithin : Type 0
  -- what it puts out for what it takes, and what of that when the flow goes on
  pub output : Flow → Flow
  pub settled : Flow → Flow
  -- its sums at the end of what it takes, and when the flow goes on
  pub tally : Flow → Tally
  pub settled_tally : Flow → Tally
  pub setting : Opt → Option Setting
  -- whom its output feeds, and so what of it each consumer takes
  pub fan_out : FanOut
  -- the kind that its module has in place of its own, by the numbers that its consumers select
  pub stand_in : List ℕ → Option Kind
  -- the bytes that it writes of what it takes
  pub written : Flow → List ℕ

abbrev pub no_options : Opt → Option Setting
no_options option = None

-- its module has its own kind
abbrev pub no_stand_in : List ℕ → Option Kind
no_stand_in numbers = None

-- it is no sink
abbrev pub writes_nothing : Flow → List ℕ
writes_nothing taken = []
