use Rattle.std.proofs.Common.{◌++◌, [], ◌∷◌, ap, sym, ◌∙◌, arith}
use Rattle.upipe_bench.proofs.Chains.{next_pipe}
use Rattle.upipe_bench.specs.Chains.{is_inner}
use Rattle.upipe_bench.proofs.chain.chain_of.Goals as goal

pub loop-place-preserved : goal.loop-place-preserved
loop-place-preserved c =
    c.in_ok-add_pipe.ensures
    ∙ ap (λ these. these ++ is_inner c.args.idems c.loop-place.place ∷ []) c.loop-place.invariant
    ∙ sym (next_pipe c.args.idems c.loop-place.place (omega arith))
