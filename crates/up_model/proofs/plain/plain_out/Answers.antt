use Rattle.std.proofs.Common.{subst, w64}
use Rattle.std.proofs.lemmas.Int.{to_z-of_z}
use Rattle.up_model.proofs.Delay.{shift_fits}
use Rattle.up_model.proofs.PlainLegal.{put_legal}
use Rattle.up_model.proofs.WellFormed.{is_pipe}
use Rattle.up_model.specs.Kinds.{IsWithinBounds}
use Rattle.up_model.specs.declared.kind.Kind.TheVariants.{Idem, Null, Dup, Skip, SetAttr, DelAttr, MatchAttr, Delay}
use Rattle.up_model.proofs.plain.plain_out.Goals as goal

pub returns-in-Idem-clause-legal : goal.returns-in-Idem-clause-legal
returns-in-Idem-clause-legal c = put_legal c.passed.result Idem c.args.flow.now tt c.requires.legal c.passed.ensures

pub returns-in-Null-clause-legal : goal.returns-in-Null-clause-legal
returns-in-Null-clause-legal c = put_legal c.passed-in-Null.result Null c.args.flow.now tt c.requires.legal c.passed-in-Null.ensures

pub returns-in-Dup-clause-legal : goal.returns-in-Dup-clause-legal
returns-in-Dup-clause-legal c = put_legal c.passed-in-Dup.result Dup c.args.flow.now tt c.requires.legal c.passed-in-Dup.ensures

pub returns-in-Skip-clause-legal : goal.returns-in-Skip-clause-legal
returns-in-Skip-clause-legal c =
    let within = (is_pipe c.args.graph.now.pipes c.requires.well_formed c.args.pipe c.at.result.now c.at.ensures).kind in
    let skip = subst IsWithinBounds c.in-Skip.is within in
    put_legal c.passed-in-Skip.result (Skip c.in-Skip.bytes) c.args.flow.now skip c.requires.legal c.passed-in-Skip.ensures

pub returns-in_ok-copy-in-SetAttr-clause-legal : goal.returns-in_ok-copy-in-SetAttr-clause-legal
returns-in_ok-copy-in-SetAttr-clause-legal c =
    let within = (is_pipe c.args.graph.now.pipes c.requires.well_formed c.args.pipe c.at.result.now c.at.ensures).kind in
    let set = subst IsWithinBounds c.in-SetAttr.is within in
    let put = rw c.in_ok-copy-in-SetAttr.ensures at c.passed-in-SetAttr.ensures in
    put_legal c.passed-in-SetAttr.result (SetAttr c.in-SetAttr.attr c.in-SetAttr.value) c.args.flow.now set c.requires.legal put

pub returns-in-DelAttr-clause-legal : goal.returns-in-DelAttr-clause-legal
returns-in-DelAttr-clause-legal c = put_legal c.passed-in-DelAttr.result (DelAttr c.in-DelAttr.attr) c.args.flow.now tt c.requires.legal c.passed-in-DelAttr.ensures

pub returns-in-MatchAttr-clause-legal : goal.returns-in-MatchAttr-clause-legal
returns-in-MatchAttr-clause-legal c =
    let within = (is_pipe c.args.graph.now.pipes c.requires.well_formed c.args.pipe c.at.result.now c.at.ensures).kind in
    let bounds = subst IsWithinBounds c.in-MatchAttr.is within in
    put_legal c.passed-in-MatchAttr.result (MatchAttr c.in-MatchAttr.attr c.in-MatchAttr.low c.in-MatchAttr.high) c.args.flow.now bounds c.requires.legal c.passed-in-MatchAttr.ensures

pub returns-in-Delay-clause-legal : goal.returns-in-Delay-clause-legal
returns-in-Delay-clause-legal c =
    let within = (is_pipe c.args.graph.now.pipes c.requires.well_formed c.args.pipe c.at.result.now c.at.ensures).kind in
    let shift = subst IsWithinBounds c.in-Delay.is within in
    put_legal c.passed-in-Delay.result (Delay c.in-Delay.by) c.args.flow.now shift c.requires.legal (rw (to_z-of_z w64 c.in-Delay.by (shift_fits c.in-Delay.by shift)) at c.passed-in-Delay.ensures)
