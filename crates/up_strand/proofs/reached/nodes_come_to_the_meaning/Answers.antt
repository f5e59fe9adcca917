use Rattle.std.proofs.Common.{true, false, refl}
use Rattle.up_strand.proofs.Reaching.{reached, whole_as_done}
use Rattle.up_strand.proofs.reached.nodes_come_to_the_meaning.Goals as goal

pub returns-clause-settled : goal.returns-clause-settled
returns-clause-settled g c pipes places given nodes past tree stand of settled unfinished are_fed =
    reached g.P.LocalPacket.plain g.K.Sink.state false pipes places given nodes past tree.0 tree.1 stand of settled
    (λ i d within. (unfinished i d within).long)
    (λ i d within inner. rw (unfinished i d within).part refl)
    are_fed

pub returns-clause-whole : goal.returns-clause-whole
returns-clause-whole g c pipes places given nodes past tree stand of settled done are_fed =
    reached g.P.LocalPacket.plain g.K.Sink.state true pipes places given nodes past tree.0 tree.1 stand of settled
    (λ i d within. (done i d within).long)
    (λ i d within inner.
    let is = done i d within in
    whole_as_done g.P.LocalPacket.plain g.K.Sink.state (past.seats i) _ _ (past.fed i) inner is.ended is.whole (stand.node i d within).part)
    are_fed
