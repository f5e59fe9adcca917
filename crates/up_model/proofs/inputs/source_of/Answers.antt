use Rattle.std.proofs.Common.{rules, ◌≡◌, ◌∙◌, sym, ◌-◌, ◌+◌, ◌<◌, false, true, length, suc, None, Some, slice_get, arith}
use Rattle.up_model.proofs.Places.{reached-nowhere, reached-here, reached-end, reached-on}
use Rattle.up_model.specs.Inputs.{ends_at_source}
use Rattle.up_model.proofs.inputs.source_of.Goals as goal

pub returns-in_err-pipe : goal.returns-in_err-pipe
returns-in_err-pipe c =
    let pipes = c.args.pipes.now in
    let left = length pipes - c.loop-step._step in
    let place = c.loop-step.place in
    let gone : slice_get pipes place ≡ None = search rules in
    let nowhere = reached-nowhere ends_at_source pipes place left gone in
    let answer : c.from_residual.result ≡ None = search rules in
    rw answer (sym nowhere ∙ c.loop-step.invariant)

pub returns-then-is_source : goal.returns-then-is_source
returns-then-is_source c =
    let pipes = c.args.pipes.now in
    let place = c.loop-step.place in
    let left = length pipes - c.loop-step._step in
    let pipe = c.in_ok-pipe.pipe.now in
    let there : slice_get pipes place ≡ Some pipe = search rules in
    let more : 0 < left = omega arith in
    let passing : ends_at_source pipes place pipe ≡ true = search rules in
    sym (reached-here ends_at_source pipes place pipe there left passing more) ∙ c.loop-step.invariant

pub returns-in_err-pipe-2 : goal.returns-in_err-pipe-2
returns-in_err-pipe-2 c =
    let pipes = c.args.pipes.now in
    let place = c.loop-step.place in
    let left = length pipes - c.loop-step._step in
    let pipe = c.in_ok-pipe.pipe.now in
    let there : slice_get pipes place ≡ Some pipe = search rules in
    let failing : ends_at_source pipes place pipe ≡ false = search rules in
    let end : pipe.input ≡ None = c.in_err-pipe-2.was in
    let answer : c.from_residual-in_err-pipe-2.result ≡ None = search rules in
    rw answer (sym (reached-end ends_at_source pipes place pipe there left failing end) ∙ c.loop-step.invariant)

pub loop-step-preserved : goal.loop-step-preserved
loop-step-preserved c =
    let pipes = c.args.pipes.now in
    let place = c.loop-step.place in
    let pipe = c.in_ok-pipe.pipe.now in
    let there : slice_get pipes place ≡ Some pipe = search rules in
    let failing : ends_at_source pipes place pipe ≡ false = search rules in
    let left = length pipes - (c.loop-step._step + 1) in
    let one_more : length pipes - c.loop-step._step ≡ suc left = omega arith in
    let input : pipe.input ≡ Some c.from-place.result = search rules in
    sym (reached-on ends_at_source pipes place pipe there left c.from-place.result failing input)
    ∙ (rw one_more at c.loop-step.invariant)

pub returns : goal.returns
returns c =
    let pipes = c.args.pipes.now in
    let over : length pipes - c.loop-step._step ≡ 0 = omega arith in
    rw over at c.loop-step.invariant
