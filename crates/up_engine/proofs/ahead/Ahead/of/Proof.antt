-- A count has no bytes, so that any numbers may be said of it: those that the caller's proof has at hand.
use Rattle.std.proofs.Common.{ℕ, [], ◌∷◌, refl}
use Rattle.std.proofs.raw_atomic.Walks.{proved}
use mir.MapTy.{inst_fn}
use mir.Syntax.{named, a_type, dcons, dnil}
use mir.Val.{vstruct, vnil}
use contract.BorrowLft.{◌⊑◌}
use contract.Fact.{fact}
use types.Kit.{‵, raw, ◌⊛◌, ◌$◌, ◌∵◌, !, qed, done, move, keep, split, join, fjoin, use0, suffices}
use types.Run.{enter, no_more, and_then, returns}
use types.Part.{agg}
use types.ByLocal.{alloc_all, pass_all, free_all, look_at, get, sets}
use denote.Builtin.{RefOf}
use denote.Exit.{yes}
use denote.Param.{param, bounded}
use denote.Ref.{shr_vals, shr_Tells}
use denote.RattleType.{owns}
use denote.Shadow.{makes_shadow}
use denote.Signature.{plain, types_at}
use denote.Steps.{nothing, heard}
use denote.Triple.Entry.{alive}
use denote.Triple.Walked.{Stays, walk_of, says, ends_at, stay_dropped, Goes-dropped}
use Rattle.up_engine.specs.contracts.ahead.Ahead.of as f
use Rattle.up_engine.proofs.Counts.{stored, of_numbers, owned_by}
use Rattle.up_engine.proofs.ahead.Ahead.of.Statement.{statement}
use Rattle.up_engine.proofs.ahead.Ahead.of.Code as code

pub of_spec : {M : Type 1} → statement M
of_spec 𝓤 𝓛 𝓜 𝓡 wired T L HasEnd dict met =
    let args = bounded (a_type ∷ []) (T, tt) (dcons dict dnil) in
    let En = f.ended T HasEnd dict in
    let c = f.clauses T HasEnd dict 𝓛 𝓜.mem 𝓡.returns in
    let stayed : Stays En.signature.params En.kept =
    (stay_dropped (RefOf (0 ∷ []) tt (plain (λ _. param 0 T)) (λ _. tt)) yes, tt) in
    proved 𝓛 En stayed c 𝓜 𝓡
    (Goes-dropped 𝓛 2 (RefOf (0 ∷ []) tt (plain (λ _. param 0 T)) (λ _. tt)) yes (λ κs x f. refl), tt)
    (f.Key.name args) (inst_fn args code.function) (code.unfolded 𝓤 𝓛.H 𝓜 𝓡 wired (T, tt) dict)
    (λ κs. (shr_vals, tt)) (λ κs. (shr_Tells (named 0) κs.0 (param 0 T), tt))
    (λ κs qs bounds a _ are.
    let W = walk_of 𝓛 En stayed c in
    let y : W.Ghost = ((κs, qs, bounds, a, (shr_vals a.0, tt)), tt) in
    let HasNumbers : Type 0 = (reads : ℕ) × (turns : ℕ) × HasEnd.ends_within a.0.now reads turns in
    let owned = owns (types_at En.signature.params κs) a (shr_vals a.0, tt) in
    qed 𝓛 ((raw (alive 𝓛 En.signature κs qs) ⊛ ‵ owned) ∷ raw (fact 𝓤 (κs.1.0 ⊑ T.lives)) ∷ raw (fact 𝓤 HasNumbers) ∷ []) ∵
    move ! (2 ∷ []) $ heard ! _ (λ numbers. split ! $ keep ! (0 ∷ []) $
    let reads = numbers.0 in
    let turns = numbers.1 in
    enter ! _ _ _ _ _ $ alloc_all ! (λ l. pass_all ! refl ((tt, tt), tt) $
    sets ! (agg ! (no_more !)) refl (tt, tt) $
    sets ! (agg ! (and_then ! (get ! refl) (no_more !))) refl (tt, (tt, tt)) $
    returns ! (look_at ! 0 refl) $ free_all ! refl $
    use0 𝓛 (‵ (owned_by reads turns)) (makes_shadow 𝓛 (owned_by reads turns) ((λ vss. (tt, ((λ uss. (tt, tt)), tt))), tt)
    (((vstruct vnil ∷ [], tt), (refl, ((tt, (refl, tt)), tt))), tt)) $
    suffices ! _ (ends_at 𝓛 En stayed c y stored (of_numbers reads turns) (tt, tt) (tt, tt)) $
    says ! numbers.2 $ nothing ! $ nothing ! $ fjoin ! $ join ! $ move ! (1 ∷ 0 ∷ []) $ join ! $ done !)))
