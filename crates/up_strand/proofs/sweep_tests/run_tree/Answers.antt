use Rattle.std.proofs.Common.{Some, None, ap, refl}
use Rattle.up_outside.specs.Memory.MemSink.{sink_state}
use Rattle.up_shape.specs.VecPackets.{plain_of}
use Rattle.up_strand.proofs.SevenNodes.{is_swept, stands_for_nothing, sink_seat, head_seat, new_sink, new_head}
use Rattle.up_strand.specs.AnyModule.{any_kind, any_within}
use Rattle.up_strand.proofs.sweep_tests.run_tree.Goals as goal

pub feed-requires-clause-swept : goal.feed-requires-clause-swept
feed-requires-clause-swept g c =
    is_swept _ _ _ _ _ _ _ (ap (λ n. n.input) c.new.ensures.made) (ap (λ n. n.input) c.new-2.ensures.made) (ap (λ n. n.input) c.new-3.ensures.made)
    (ap (λ n. n.input) c.new-4.ensures.made) (ap (λ n. n.input) c.new-5.ensures.made) (ap (λ n. n.input) c.new-6.ensures.made) (ap (λ n. n.input) c.new-7.ensures.made)
    (ap (λ n. n.takers) c.new.ensures.made) (ap (λ n. n.takers) c.new-2.ensures.made) (ap (λ n. n.takers) c.new-3.ensures.made)
    (ap (λ n. n.takers) c.new-4.ensures.made) (ap (λ n. n.takers) c.new-5.ensures.made) (ap (λ n. n.takers) c.new-6.ensures.made) (ap (λ n. n.takers) c.new-7.ensures.made)

pub feed-requires-clause-stand : goal.feed-requires-clause-stand
feed-requires-clause-stand g c =
    let start = sink_state c.expect-one.result in
    let dup = c.expect-dup.result in
    let skip = c.expect-skip.result in
    let dup_fed = rw c.expect-dup.ensures at c.of.ensures.fed_nothing in
    let skip_fed = rw c.expect-skip.ensures at c.of-2.ensures.fed_nothing in
    stands_for_nothing _ _ _ _ _ _ _ (ap (λ n. n.input) c.new.ensures.made) (ap (λ n. n.input) c.new-2.ensures.made) (ap (λ n. n.input) c.new-3.ensures.made)
    (ap (λ n. n.input) c.new-4.ensures.made) (ap (λ n. n.input) c.new-5.ensures.made) (ap (λ n. n.input) c.new-6.ensures.made) (ap (λ n. n.input) c.new-7.ensures.made)
    (ap (λ n. n.takers) c.new.ensures.made) (ap (λ n. n.takers) c.new-2.ensures.made) (ap (λ n. n.takers) c.new-3.ensures.made)
    (ap (λ n. n.takers) c.new-4.ensures.made) (ap (λ n. n.takers) c.new-5.ensures.made) (ap (λ n. n.takers) c.new-6.ensures.made) (ap (λ n. n.takers) c.new-7.ensures.made)
    plain_of sink_state (sink_seat (sink_state c.expect-three.result)) (head_seat start) (sink_seat (sink_state c.expect-one.result))
    (record { kind = Some (any_kind dup); start = start }) (record { kind = Some (any_kind skip); start = start })
    (sink_seat (sink_state c.expect-two.result)) (record { kind = None; start = start })
    (new_sink plain_of sink_state c.new.result c.expect-three.result (rw c.raw_sink.ensures at c.new.ensures.stands)) (new_head plain_of sink_state start c.new-2.result c.new-2.ensures.stands) (new_sink plain_of sink_state c.new-3.result c.expect-one.result (rw c.raw_sink-2.ensures at c.new-3.ensures.stands))
    (c.new-4.ensures.stands _ (any_within dup) (refl, λ _. dup_fed)) (c.new-5.ensures.stands _ (any_within skip) (refl, λ _. skip_fed))
    (new_sink plain_of sink_state c.new-6.result c.expect-two.result (rw c.raw_sink-3.ensures at c.new-6.ensures.stands)) (c.new-7.ensures.stands _ tt refl)
