use Rattle.up_model.specs.Meaning.{so_far, wholly}
use Rattle.up_strand.proofs.Reaching.{reached_in_part, settled_first, settled_sums_first, whole_first, whole_sums_first}
use Rattle.up_strand.proofs.reached.nodes_come_to_a_first_part.Goals as goal

pub returns-clause-so_far : goal.returns-clause-so_far
returns-clause-so_far g c pipes places given nodes past tree stand of none_whole are_fed =
    reached_in_part g.P.LocalPacket.plain g.K.Sink.state so_far pipes places given nodes past tree.0 tree.1 stand of
    (λ i d within kind taken bounds first. rw (none_whole i d within) (settled_first (places i) kind (past.fed i) taken bounds first))
    are_fed
    (λ i d within kind taken bounds first. rw (none_whole i d within) (settled_sums_first (places i) kind (past.fed i) taken bounds first))

pub returns-clause-whole : goal.returns-clause-whole
returns-clause-whole g c pipes places given nodes past tree stand of are_fed =
    reached_in_part g.P.LocalPacket.plain g.K.Sink.state wholly pipes places given nodes past tree.0 tree.1 stand of
    (λ i d within kind taken bounds first. whole_first (places i) _ kind (past.fed i) taken bounds first)
    are_fed
    (λ i d within kind taken bounds first. whole_sums_first (places i) _ kind (past.fed i) taken bounds first)
