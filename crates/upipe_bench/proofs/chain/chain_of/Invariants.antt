use Rattle.std.proofs.Common.{◌≡◌, take}
use Rattle.upipe_bench.specs.Chains.{are_idems, chain}
use Rattle.upipe_bench.proofs.chain.chain_of.Given as goal

abbrev pub invariant-loop-place : goal.invariant-loop-place
invariant-loop-place l = are_idems l.pipes ≡ take l.place (chain l.idems)
