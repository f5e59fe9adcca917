-- The two kinds that pass on each packet as it is.
use Rattle.std.specs.Prelude.{◌≡◌, Bool, true, false, refl}
use Rattle.up_model.specs.Kinds.{IsWithinBounds, settled_work, work_of}
use Rattle.up_model.specs.Packet.{Flow}
use Rattle.up_model.specs.Packetwise.{passes_on, work_by}
use Rattle.up_model.specs.declared.kind.Kind.{Kind}
use Rattle.up_model.specs.declared.kind.Kind.TheVariants.{Idem, Dup}

-- `dup`, or else `idem`
abbrev pub passing_kind : Bool → Kind
passing_kind true = Dup
passing_kind false = Idem

-- both keep the laws of a packetwise kind
pub within_bounds : (dup : Bool) → IsWithinBounds (passing_kind dup)
within_bounds true = tt
within_bounds false = tt

pub settles : (dup : Bool) (taken : Flow)
    → settled_work (passing_kind dup) taken ≡ work_by passes_on taken
settles true taken = refl
settles false taken = refl

pub owes_nothing : (dup : Bool) (taken : Flow)
    → work_of (passing_kind dup) taken ≡ work_by passes_on taken
owes_nothing true taken = refl
owes_nothing false taken = refl
