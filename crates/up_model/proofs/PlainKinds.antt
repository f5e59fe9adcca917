-- In every kind that is built today a consumer takes the whole output: one row a kind.
use Rattle.std.proofs.Common.{◌≡◌, ℕ, Option, refl}
use Rattle.up_model.specs.Kinds.{share_of}
use Rattle.up_model.specs.Packet.{Flow}
use Rattle.up_model.specs.declared.kind.Kind.{Kind}
use Rattle.up_model.specs.declared.kind.Kind.TheVariants.{Source, Sink, Idem, Null, Dup, Skip, SetAttr, DelAttr, MatchAttr, Delay}

pub shares_all : (kind : Kind) (select : Option ℕ) (flow : Flow) → share_of kind select flow ≡ flow
shares_all (Source path form limit) select flow = refl
shares_all (Sink path form) select flow = refl
shares_all Idem select flow = refl
shares_all Null select flow = refl
shares_all Dup select flow = refl
shares_all (Skip bytes) select flow = refl
shares_all (SetAttr attr value) select flow = refl
shares_all (DelAttr attr) select flow = refl
shares_all (MatchAttr attr low high) select flow = refl
shares_all (Delay by) select flow = refl
