use Rattle.std.proofs.Common.{length, ap, refl, None, ◌∙◌}
use Rattle.std.specs.Option.{option_map_or}
use Rattle.up_strand.proofs.Found.{ready_same}
use Rattle.up_strand.proofs.strand.Strand.look_for_output.Goals as goal

pub returns-clause-ready : goal.returns-clause-ready
returns-clause-ready g c =
    let old = c.args.self.now in
    let count = length old.tree.nodes.items in
    c.ready_from-self.ensures.first
    ∙ ap (λ found. option_map_or (λ i. i) found count)
    (ready_same (record old { last = None }) (record old { last = None; ready = c.ready_from-self.result }) c.requires.kept c.requires.kept refl refl refl)
