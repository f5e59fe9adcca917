-- Why an attribute isn't set: the size of the value comes first, then the number of attributes.
use Rattle.std.specs.Prelude.{◌≡◌, ℕ, not, ◌&&◌, nat_lt, nat_le, List, length, Option, Some, None, Result, Err, IfErr, if◌then◌else◌}
use Rattle.std.specs.FinMap.{contains_key, len}
use Rattle.up_model.specs.Attrs.{Attrs}
use Rattle.up_model.specs.ValueTypes.{value_bytes}
use Rattle.up_model.specs.declared.limits.TheConstants.{MAX_ATTRS, MAX_VALUE}
use Rattle.up_model.specs.declared.value.Value.{Value}
use Rattle.up_dict.specs.declared.set_refused.SetRefused.{SetRefused}
use Rattle.up_dict.specs.declared.set_refused.SetRefused.TheVariants.{TooLong, TooMany, NoMemory}

-- the refusal of a new name where 64 are held
abbrev pub refusal_of_name : Attrs → List ℕ → Option SetRefused
refusal_of_name held name =
    if not (contains_key held name) && nat_le MAX_ATTRS (len held)
    then Some (TooMany (len held)) else None

-- the refusal of a value of more than 4,096 bytes, or else of the name
abbrev pub refusal_of : Attrs → List ℕ → Value → Option SetRefused
refusal_of held name value =
    if nat_lt MAX_VALUE (length (value_bytes value))
    then Some (TooLong (length (value_bytes value))) else refusal_of_name held name

-- where there is a refusal it is the answer, and else only want of memory may refuse
abbrev pub Answers : {T : Type 0} → Option SetRefused → Result T SetRefused → Type 0
Answers (Some refusal) result = result ≡ Err refusal
Answers None result = IfErr result (λ refusal. refusal ≡ NoMemory)
