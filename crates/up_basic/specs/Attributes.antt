-- That an attribute is legal has one proof at most.
use Rattle.std.specs.Prelude.{ℕ, List}
use Rattle.std.specs.Coded.{×_prop, Unit-prop, le_prop, Coded-set, coded_bool}
use Rattle.up_model.specs.SetAttr.{IsAttribute}
use Rattle.up_model.specs.Value.{IsLegalValue}
use Rattle.up_model.specs.declared.value.Value.{Value}
use Rattle.up_model.specs.declared.value.Value.TheVariants.{Void, Flag, Unsigned, Words, Opaque}

legal_value-prop : (value : Value) → IsProp (IsLegalValue value)
legal_value-prop Void = Unit-prop
legal_value-prop (Flag flag) = Unit-prop
legal_value-prop (Unsigned number) = le_prop
legal_value-prop (Words text) = ×_prop (Coded-set coded_bool _ _) le_prop
legal_value-prop (Opaque bytes) = le_prop

pub attribute-prop : (attr : List ℕ) (value : Value) → IsProp (IsAttribute attr value)
attribute-prop attr value = ×_prop (Coded-set coded_bool _ _) (legal_value-prop value)
