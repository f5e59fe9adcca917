use Rattle.std.proofs.Common.{rules, ◌≡◌, [], ℤ, pos, add-one}
use Rattle.std.specs.Prelude.{get_or}
use Rattle.std.proofs.Math.Seq.{drop-cons}
use Rattle.up_model.specs.declared.opt.Opt.{Opt}
use Rattle.up_model.specs.declared.opt.Opt.TheVariants.{Mtu}
use Rattle.up_shape.specs.Control.{kind_after}
use Rattle.up_shape.specs.declared.control.Command.TheVariants.{Set}
use Rattle.up_shape.proofs.trial.set_all.Goals as goal

pub loop-option-preserved : goal.loop-option-preserved
loop-option-preserved g c =
    let set : Opt × ℤ = get_or c.args.options.now c.loop-option.option-index (Mtu, pos 0) in
    let kind : g.M.Module.kind c.control.new.self ≡ kind_after (g.M.Module.kind c.loop-option.m) (Set set.0 set.1) = search rules in
    let first = drop-cons c.args.options.now c.loop-option.option-index (Mtu, pos 0) c.loop-option-test.true in
    let as_before = rw first at c.loop-option.invariant.1 in
    ((c.control.ensures.stands []).0 c.loop-option.invariant.0, rw (kind, add-one) as_before)
