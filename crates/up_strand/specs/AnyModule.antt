-- The module of some kind: what it is, and what it stands for.
use Rattle.std.specs.Prelude.{Bool, true, false}
use Rattle.up_model.specs.Kinds.{IsWithinBounds}
use Rattle.up_model.specs.Packet.{Flow}
use Rattle.up_model.specs.declared.kind.Kind.{Kind}
use Rattle.up_model.specs.declared.kind.Kind.TheVariants as kinds
use Rattle.up_shape.specs.Packetwise.{step_of, StandsFor}
use Rattle.up_strand.specs.declared.any_module.AnyModule.{AnyModule}
use Rattle.up_strand.specs.declared.any_module.AnyModule.TheVariants.{Idem, Null, Dup, Skip, SetAttr, DelAttr, MatchAttr, Delay}

-- its kind, with its options
abbrev pub any_kind : AnyModule → Kind
any_kind (Idem m) = kinds.Idem
any_kind (Null m) = kinds.Null
any_kind (Dup m) = kinds.Dup
any_kind (Skip m) = kinds.Skip (step_of m).bytes
any_kind (SetAttr m) = kinds.SetAttr (step_of m).attr (step_of m).value
any_kind (DelAttr m) = kinds.DelAttr (step_of m).attr
any_kind (MatchAttr m) = kinds.MatchAttr (step_of m).attr (step_of m).low (step_of m).high
any_kind (Delay m) = kinds.Delay (step_of m).by

-- it was fed this flow
abbrev pub AnyStands : AnyModule → Flow → Type 0
AnyStands (Idem m) flow = StandsFor m flow
AnyStands (Null m) flow = StandsFor m flow
AnyStands (Dup m) flow = StandsFor m flow
AnyStands (Skip m) flow = StandsFor m flow
AnyStands (SetAttr m) flow = StandsFor m flow
AnyStands (DelAttr m) flow = StandsFor m flow
AnyStands (MatchAttr m) flow = StandsFor m flow
AnyStands (Delay m) flow = StandsFor m flow

-- a kind of pipes that have a module: all but those at the ends of a graph
abbrev pub has_module : Kind → Bool
has_module (kinds.Source path form limit) = false
has_module (kinds.Sink path form) = false
has_module kinds.Idem = true
has_module kinds.Null = true
has_module kinds.Dup = true
has_module (kinds.Skip bytes) = true
has_module (kinds.SetAttr attr value) = true
has_module (kinds.DelAttr attr) = true
has_module (kinds.MatchAttr attr low high) = true
has_module (kinds.Delay by) = true

-- its options are within their bounds
pub any_within : (m : AnyModule) → IsWithinBounds (any_kind m)
any_within (Idem m) = tt
any_within (Null m) = tt
any_within (Dup m) = tt
any_within (Skip m) = (step_of m).bounded
any_within (SetAttr m) = (step_of m).legal
any_within (DelAttr m) = tt
any_within (MatchAttr m) = (step_of m).bounded
any_within (Delay m) = (step_of m).bounded
