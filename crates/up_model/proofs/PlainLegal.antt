-- The slow meaning makes legal packets of legal ones.
use Rattle.std.proofs.Common.{◌≡◌, All, Result, Ok, Err, sym, subst}
use Rattle.std.specs.Prelude.{IfOk}
use Rattle.up_model.proofs.EveryKind.{lawful}
use Rattle.up_model.specs.Kinds.{IsWithinBounds, output_of}
use Rattle.up_model.specs.Packet.{Flow, IsLegal}
use Rattle.up_model.specs.declared.kind.Kind.{Kind}

-- what a kind puts out for legal packets is legal
pub put_legal : {E : Type 0} (result : Result Flow E) (kind : Kind) (flow : Flow) → IsWithinBounds kind → All IsLegal flow
    → IfOk result (λ put. put ≡ output_of kind flow) → IfOk result (All IsLegal)
put_legal (Ok put) kind flow within legal is = subst (λ (flow : Flow). All IsLegal flow) (sym is) (((lawful kind).flows within).legal flow legal)
put_legal (Err refused) kind flow within legal is = tt
