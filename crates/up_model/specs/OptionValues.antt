-- The values of a kind's options, and what setting one of them does.
use Rattle.std.specs.Prelude.{◌≡◌, ◌≢◌, ℤ, Option, Some, option_map}
use Rattle.up_model.specs.Kinds.{IsWithinBounds, setting_of, with_option}
use Rattle.up_model.specs.declared.kind.Kind.{Kind}
use Rattle.up_model.specs.declared.opt.Opt.{Opt}

-- the value of an option, where the kind has it
abbrev pub option_value : Kind → Opt → Option ℤ
option_value kind option = option_map (λ setting. setting.value) (setting_of kind option)

-- the option has this value, every other as before, setting it back gives the old kind, and what was within its bounds still is
pub record IsSet (option : Opt) (value : ℤ) (old new : Kind) : Type 0 where
  pub has : option_value new option ≡ Some value
  pub others : (other : Opt) → other ≢ option → option_value new other ≡ option_value old other
  pub back : (was : ℤ) → option_value old option ≡ Some was → with_option new option was ≡ old
  pub within : IsWithinBounds old → IsWithinBounds new
