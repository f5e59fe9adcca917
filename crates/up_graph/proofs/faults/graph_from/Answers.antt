use Rattle.std.proofs.Common.{sym}
use Rattle.up_graph.proofs.Told.{fault_within}
use Rattle.up_model.specs.declared.graph_fault.GraphFault.TheVariants.{SameName}
use Rattle.up_graph.proofs.faults.graph_from.Goals as goal

pub number_of-requires : goal.number_of-requires
number_of-requires c =
    let is = rw c.in-Some-SameName.field-0-is at c.in-Some-SameName.ensures in
    fault_within 256 c.args.pipes (SameName c.in-Some-SameName.place) (sym is) c.requires.pipes

pub refusal_of-requires : goal.refusal_of-requires
refusal_of-requires c = fault_within 256 c.args.pipes c.in-Some.fault (sym c.in-Some.ensures) c.requires.pipes
