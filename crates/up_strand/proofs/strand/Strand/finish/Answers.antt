use Rattle.std.proofs.Common.{◌≡◌, ◌++◌, false, length, take, drop, sym, ap, ◌∙◌, arith, refl}
use Rattle.std.proofs.Math.Seq.{take-append_seam}
use Rattle.up_shape.proofs.StoreSteps.{Stays-refl, Stays-trans}
use Rattle.up_shape.specs.Stores.{Stays}
use Rattle.up_strand.proofs.GivenUp.{sinks_are, none_left, fits_left, outcomes_are, tallies_are, most_is, count_is, as_many_sinks, written_is}
use Rattle.up_strand.specs.Closing.{AreTold, AreWithoutSinks}
use Rattle.up_strand.specs.StrandCalls.{is_done}
use Rattle.up_strand.specs.Strands.{want_of}
use Rattle.up_strand.specs.declared.closing.Ending.{Ending}
use Rattle.up_strand.specs.declared.want.Want.{Want}
use Rattle.up_strand.specs.declared.want.Want.TheVariants.{Read, Input, Output, Done}
use Rattle.up_strand.proofs.strand.Strand.finish.Goals as goal
use Rattle.up_strand.proofs.strand.Strand.finish.Goals.{in-Done, in_default, in-Some, in_default-kept}

not_done : (want : Want) → (want ≡ Done → ⊥) → is_done want ≡ false
not_done Read other = refl
not_done Input other = refl
not_done (Output lane) other = refl
not_done Done other = absurd (other refl)

pub tell_all-requires-clause-rooms : goal.tell_all-requires-clause-rooms
tell_all-requires-clause-rooms g c =
    let strand = c.args.self in
    let h = c.requires.stands.0 in
    let stands = c.requires.stands.1 in
    let rooms = stands.rooms in
    let sinks = sinks_are g.P.LocalPacket.plain g.S.Source.state g.K.Sink.state strand h stands in
    let catches = stands.built.catches in
    rw (c.deref.ensures.value, c.deref_mut.ensures.value) (record {
      outcomes = omega (arith, catches, ap (λ r. r.room) rooms.outcomes);
      tallies = omega (arith, catches, ap (λ r. r.room) rooms.tallies);
      sinks = omega (arith, sinks, ap (λ r. r.room) rooms.sinks);
    })

pub give_up_nodes-requires-clause-none : goal.give_up_nodes-requires-clause-none
give_up_nodes-requires-clause-none g c =
    let strand = c.args.self in
    let news = c.tell_all.new.nodes in
    let olds = strand.tree.nodes.items in
    let len : strand.tree.nodes.len ≡ length news = sym c.deref_mut.ensures.len ∙ sym c.tell_all.auto.nodes in
    let whole : take strand.tree.nodes.len (news ++ drop (length news) olds) ≡ news =
    ap (λ n. take n (news ++ drop (length news) olds)) len ∙ take-append_seam news (drop (length news) olds) in
    let left : AreWithoutSinks (length strand.caught.items) olds news = rw (c.deref.ensures.value, c.deref_mut.ensures.value) at c.tell_all.ensures.left in
    let same : length news ≡ length olds = c.tell_all.auto.nodes ∙ ap length c.deref_mut.ensures.value in
    rw whole (none_left g.P.LocalPacket.plain g.S.Source.state g.K.Sink.state strand c.requires.stands.0 c.requires.stands.1 news same left)

pub give_up_nodes-requires-clause-family : goal.give_up_nodes-requires-clause-family
give_up_nodes-requires-clause-family g c =
    let strand = c.args.self in
    let news = c.tell_all.new.nodes in
    let olds = strand.tree.nodes.items in
    let packet = g.P.LocalPacket in
    let state = g.P.Store.Stash.state in
    let len : strand.tree.nodes.len ≡ length news = sym c.deref_mut.ensures.len ∙ sym c.tell_all.auto.nodes in
    let whole : take strand.tree.nodes.len (news ++ drop (length news) olds) ≡ news =
    ap (λ n. take n (news ++ drop (length news) olds)) len ∙ take-append_seam news (drop (length news) olds) in
    let left : AreWithoutSinks (length strand.caught.items) olds news = rw (c.deref.ensures.value, c.deref_mut.ensures.value) at c.tell_all.ensures.left in
    let same : length news ≡ length olds = c.tell_all.auto.nodes ∙ ap length c.deref_mut.ensures.value in
    let family : (state c.match-kept.s).family ≡ (state c.args.s.now).family = elim c.match-kept.branch [
      | in-Some w ↦ rw w.s-is w.give_up.ensures.store.same
      | in_default-kept w ↦ rw w.s-is refl
    ] in
    rw (whole, family) (fits_left packet.fits (state c.args.s.now).family (length strand.caught.items) olds news same left c.requires.family.nodes)

pub returns-clause-finished : goal.returns-clause-finished
returns-clause-finished g c h stands =
    let strand = c.args.self in
    let plain = g.P.LocalPacket.plain in
    let reads = g.S.Source.state in
    let writes = g.K.Sink.state in
    let done : c.match-matches.matches ≡ is_done (want_of strand) = elim c.match-matches.branch [
      | in-Done w ↦ w.matches-is ∙ sym (ap is_done (sym c.wants.ensures ∙ w.in-Done.is))
      | in_default w ↦ w.matches-is ∙ sym (ap is_done (sym c.wants.ensures) ∙ not_done c.wants.result w.in_default.not-Done)
    ] in
    let ending : Ending = record { done = c.match-matches.matches; short = strand.tree.short; ended = strand.ended } in
    let told = c.tell_all.new.told in
    let are : AreTold ending strand.caught.items strand.tree.nodes.items told = rw (c.deref.ensures.value, c.deref_mut.ensures.value) at c.tell_all.ensures.told in
    record {
      outcomes = rw (c.into_list-2.ensures, sym done) (outcomes_are plain reads writes strand h stands ending told refl refl are);
      tallies = λ long. c.into_list-3.ensures ∙ tallies_are plain reads writes strand h stands ending told refl refl are long;
      most = rw c.into_list-3.ensures (most_is plain reads writes strand h stands ending told refl refl are);
      count = ap length c.into_list-3.ensures ∙ count_is plain reads writes strand h stands ending told refl refl are;
      source = c.source_of.ensures h stands.intake;
      sinks = ap length c.into_list.ensures ∙ as_many_sinks plain reads writes strand h stands ending told refl refl are;
      written = rw c.into_list.ensures (written_is plain reads writes strand h stands ending told refl refl are);
    }

pub returns-clause-store : goal.returns-clause-store
returns-clause-store g c =
    let state = g.P.Store.Stash.state in
    let kept : Stays (state c.args.s.now) (state c.match-kept.s) = elim c.match-kept.branch [
      | in-Some w ↦ rw w.s-is w.give_up.ensures.store
      | in_default-kept w ↦ rw w.s-is (Stays-refl (state c.args.s.now))
    ] in
    Stays-trans (state c.args.s.now) (state c.match-kept.s) (state c.give_up_nodes.new.s) kept c.give_up_nodes.ensures.store
