-- Values of attributes.
use Rattle.std.specs.Prelude.{◌≡◌, ℕ, ◌<◌, ◌≤◌, ◌^◌, true, length, Option, Some, None}
use Rattle.std.specs.Str.{is_utf8}
use Rattle.up_model.specs.declared.limits.TheConstants.{MAX_VALUE}
use Rattle.up_model.specs.declared.value.Value.{Value}
use Rattle.up_model.specs.declared.value.Value.TheVariants.{Void, Flag, Unsigned, Words, Opaque}
use Rattle.up_model.specs.declared.value.ValueView.{ValueView}
use Rattle.up_model.specs.declared.value.ValueView.TheVariants as views

-- the value that is lent
abbrev pub lent : ValueView → Value
lent views.Void = Void
lent (views.Flag flag) = Flag flag
lent (views.Unsigned number) = Unsigned number
lent (views.Words text) = Words text.now
lent (views.Opaque bytes) = Opaque bytes.now

-- numbers have 64 bits: each is below this
abbrev pub number_bound : ℕ
number_bound = 2 ^ 64

-- a number of 64 bits, a text in UTF-8, and text and bytes of at most 4,096 bytes
abbrev pub IsLegalValue : Value → Type 0
IsLegalValue Void = Unit {0}
IsLegalValue (Flag flag) = Unit {0}
IsLegalValue (Unsigned number) = number < number_bound
IsLegalValue (Words text) = (is_utf8 text ≡ true) × (length text ≤ MAX_VALUE)
IsLegalValue (Opaque bytes) = length bytes ≤ MAX_VALUE

-- the number that a value is, where it is one
abbrev pub unsigned_of : Value → Option ℕ
unsigned_of Void = None
unsigned_of (Flag flag) = None
unsigned_of (Unsigned number) = Some number
unsigned_of (Words text) = None
unsigned_of (Opaque bytes) = None
