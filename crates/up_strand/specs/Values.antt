-- The values that the modules of a strand own.
use Rattle.std.specs.Prelude.{ℕ, List, Option, Some, None, slice_get}
use Rattle.std.specs.Option.{option_map_or}
use Rattle.up_model.specs.declared.kind.Kind.{Kind}
use Rattle.up_model.specs.declared.kind.Kind.TheVariants as kinds
use Rattle.up_model.specs.declared.pipe.Pipe.{Pipe}
use Rattle.up_model.specs.declared.value.Value.{Value}

-- what the module of a kind owns
abbrev pub value_of_kind : Kind → Option Value
value_of_kind (kinds.Source path form limit) = None
value_of_kind (kinds.Sink path form) = None
value_of_kind kinds.Idem = None
value_of_kind kinds.Null = None
value_of_kind kinds.Dup = None
value_of_kind (kinds.Skip bytes) = None
value_of_kind (kinds.SetAttr attr value) = Some value
value_of_kind (kinds.DelAttr attr) = None
value_of_kind (kinds.MatchAttr attr low high) = None
value_of_kind (kinds.Delay by) = None

-- what the module of the pipe at a place owns
abbrev pub value_at : List Pipe → ℕ → Option Value
value_at pipes place =
    option_map_or (λ pipe. value_of_kind pipe.kind) (slice_get pipes place) None
