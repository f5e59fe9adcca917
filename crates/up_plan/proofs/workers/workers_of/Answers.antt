use Rattle.std.proofs.Common.{◌≡◌, sym, rules, ◌++◌, [], ◌∷◌, map}
use Rattle.std.specs.List.{filter}
use Rattle.up_model.specs.WellFormed as formed
use Rattle.up_model.specs.Inputs.{passes_at}
use Rattle.up_plan.specs.Plan.{plan_worker}
use Rattle.up_plan.proofs.Places.{map-filter-more}
use Rattle.up_plan.proofs.workers.workers_of.Goals as goal

pub loop-place-preserved : goal.loop-place-preserved
loop-place-preserved c =
    let pipes = c.args.pipes.now in
    let f = plan_worker pipes in
    let test = passes_at formed.is_first_of_worker pipes in
    let place = c.loop-place.place in
    let added : c.add_worker.new.workers ≡ c.loop-place.workers ++ map f (filter test (place ∷ [])) = search rules in
    rw (added, c.loop-place.invariant) (sym (map-filter-more f test place))
