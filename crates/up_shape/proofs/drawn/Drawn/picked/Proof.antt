-- A count has no bytes, so that any number may be said of it.
use Rattle.std.proofs.Common.{[], ◌∷◌, refl}
use Rattle.std.proofs.raw_atomic.Walks.{proved}
use mir.Val.{vstruct, vnil}
use contract.Running.{tables}
use types.Kit.{‵, raw, ◌$◌, ◌∵◌, !, qed, done, drop, join, use0, suffices}
use types.Run.{enter, no_more, and_then, returns}
use types.Part.{agg}
use types.ByLocal.{alloc_all, pass_all, free_all, look_at, get, sets}
use denote.Shadow.{makes_shadow}
use denote.Steps.{nothing}
use denote.Triple.Walked.{Stays, walk_of, says, ends_at}
use Rattle.up_shape.specs.contracts.drawn.Drawn.picked as f
use Rattle.up_shape.proofs.Counts.{stored, of_number, owned_by}
use Rattle.up_shape.proofs.drawn.Drawn.picked.Statement.{statement}
use Rattle.up_shape.proofs.drawn.Drawn.picked.Code as code

abbrev stayed : Stays f.ended.signature.params f.ended.kept
stayed = tt

pub picked_spec : {M : Type 1} → statement M
picked_spec 𝓤 𝓛 𝓜 𝓡 wired =
    let c = f.clauses 𝓛 𝓜.mem 𝓡.returns in
    let W = walk_of 𝓛 f.ended stayed c in
    let 𝓣 = tables 𝓤 𝓛.H 𝓜 𝓡 𝓡.env in
    proved 𝓛 f.ended stayed c 𝓜 𝓡 tt
    f.Key.name code.function (code.unfolded 𝓤 𝓛.H 𝓜 𝓡 wired)
    (λ κs. tt) (λ κs. tt) (λ κs qs bounds a number are.
    let y : W.Ghost = ((κs, qs, bounds, a, tt), number) in
    qed 𝓛 (raw (W.pre y) ∷ []) ∵ drop ! $
    enter ! _ _ _ _ _ $ alloc_all ! (λ l. pass_all ! refl tt $
    sets ! (agg ! (no_more !)) refl (tt, tt) $
    sets ! (agg ! (and_then ! (get ! refl) (no_more !))) refl (tt, (tt, tt)) $
    returns ! (look_at ! 0 refl) $ free_all ! refl $
    use0 𝓛 (‵ (owned_by number)) (makes_shadow 𝓛 (owned_by number) ((λ vss. (tt, ((λ uss. (tt, tt)), tt))), tt)
    (((vstruct vnil ∷ [], tt), (refl, ((tt, (refl, tt)), tt))), tt)) $
    suffices ! _ (ends_at 𝓛 f.ended stayed c y stored (of_number number) tt tt) $
    says ! refl $ nothing ! $ join ! $ nothing ! $ join ! $ done !))
