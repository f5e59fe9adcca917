use Rattle.std.proofs.Common.{◌≤◌, ◌+◌, length, arith, rules}
use Rattle.up_dict.proofs.ReadBack.{first_reads, first_within}
use Rattle.up_dict.proofs.first.first_name.Goals as goal

pub bounds-run-0 : goal.bounds-run-0
bounds-run-0 c = omega (arith, first_within c.args.run.now c.requires)

pub slice_bounds-result-end : goal.slice_bounds-result-end
slice_bounds-result-end c =
    let within : 1 + c.from.result ≤ length c.args.run.now = omega (arith, c.from.ensures, first_within c.args.run.now c.requires) in
    search rules

pub returns-clause-is_name : goal.returns-clause-is_name
returns-clause-is_name c =
    rw (c.from.ensures, (first_reads c.args.run.now c.requires).name) c.requires.legal.0
