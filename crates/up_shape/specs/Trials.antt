-- What comes of a module that is tried with packets of some bytes.
use Rattle.std.specs.Prelude.{◌≡◌, ℕ, ℤ, List, map, fold}
use Rattle.std.specs.Borrow.{Bor}
use Rattle.std.specs.Global.{Vec}
use Rattle.up_model.specs.Kinds.{work_of}
use Rattle.up_model.specs.Packet.{Flow, plain}
use Rattle.up_model.specs.Tallies.{stopped}
use Rattle.up_model.specs.declared.kind.Kind.{Kind}
use Rattle.up_model.specs.declared.opt.Opt.{Opt}
use Rattle.up_shape.specs.Control.{kind_after}
use Rattle.up_shape.specs.declared.control.Command.TheVariants.{Set}
use Rattle.up_shape.specs.declared.trial.Came.{Came}

-- the kind with these options set, one after the other
abbrev pub kind_with : List (Opt × ℤ) → Kind → Kind
kind_with options kind = fold (λ kind set. kind_after kind (Set set.0 set.1)) kind options

-- packets of these bytes, without attributes
abbrev pub plain_flow : List (List ℕ) → Flow
plain_flow flow = map plain flow

-- the bytes of each slice
abbrev pub all_bytes : List (Bor (List ℕ)) → List (List ℕ)
all_bytes slices = map (λ slice. slice.now) slices

-- the bytes of each vector
abbrev pub copies : Vec (Vec ℕ) → List (List ℕ)
copies vectors = map (λ vector. vector.items) vectors.items

-- what came is the work of the kind on packets of these bytes
pub record IsWorkOf (kind : Kind) (taken : List (List ℕ)) (came : Came) : Type 0 where
  pub put : copies came.put ≡ map (λ packet. packet.bytes) (work_of kind (plain_flow taken)).flow
  pub sums : came.sums ≡ stopped (work_of kind (plain_flow taken)).tally
