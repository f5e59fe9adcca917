use Rattle.std.proofs.Common.{◌≤◌, length, rules, sym, refl, ◌∙◌}
use Rattle.up_strand.proofs.Found.{want_none}
use Rattle.up_strand.proofs.strand.Strand.wants.Goals as goal

pub returns-in-Some-default : goal.returns-in-Some-default
returns-in-Some-default g c =
    let strand = c.args.self.now in
    let past : length strand.tree.nodes.items ≤ strand.ready = search rules in
    sym (want_none strand c.requires.stands.1.sent.ready past ∙ rw c.in-Some-default.is-0 refl)

pub returns-in-None-FromSource : goal.returns-in-None-FromSource
returns-in-None-FromSource g c =
    let strand = c.args.self.now in
    let past : length strand.tree.nodes.items ≤ strand.ready = search rules in
    sym (want_none strand c.requires.stands.1.sent.ready past ∙ rw (c.in-None-FromSource.is-0, c.in-None-FromSource.is-1) refl)

pub returns-in-None-FromFrames : goal.returns-in-None-FromFrames
returns-in-None-FromFrames g c =
    let strand = c.args.self.now in
    let past : length strand.tree.nodes.items ≤ strand.ready = search rules in
    sym (want_none strand c.requires.stands.1.sent.ready past ∙ rw (c.in-None-FromFrames.is-0, c.in-None-FromFrames.is-1) refl)

pub returns-in-None-FromLane : goal.returns-in-None-FromLane
returns-in-None-FromLane g c =
    let strand = c.args.self.now in
    let past : length strand.tree.nodes.items ≤ strand.ready = search rules in
    sym (want_none strand c.requires.stands.1.sent.ready past ∙ rw (c.in-None-FromLane.is-0, c.in-None-FromLane.is-1) refl)
