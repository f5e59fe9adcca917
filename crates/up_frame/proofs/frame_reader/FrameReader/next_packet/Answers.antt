use Rattle.std.proofs.Common.{rules, ◌≡◌, List, ℕ, slice_range, Ok, refl, sym, ap, ◌∙◌}
use Rattle.std.proofs.lemmas.Result.{err_from_is_err_and}
use Rattle.up_frame.proofs.FoundFrames.{legal_found}
use Rattle.up_frame.proofs.GivenFrames.{one_given, one_waits, all_given, left_within}
use Rattle.up_frame.specs.Readers.{frames_held}
use Rattle.up_model.proofs.FrameFields.{found}
use Rattle.up_model.specs.FrameFronts.{packet_at}
use Rattle.up_model.specs.declared.plain_packet.PlainPacket.{PlainPacket}
use Rattle.up_frame.proofs.frame_reader.FrameReader.next_packet.Goals as goal

pub returns-in-Err-clause-given : goal.returns-in-Err-clause-given
returns-in-Err-clause-given g c bytes given stands =
    let old = c.args.self.now in
    let text_is : c.deref.result.now ≡ old.held.items = search rules in (
      stands,
      all_given old bytes given c.in-Err.field-0
          (ap (λ (t : List ℕ). packet_at (slice_range t old.given old.start)) (sym text_is) ∙ c.in-Err.ensures.front) stands,
    )

pub returns-in_err-packet-clause-given : goal.returns-in_err-packet-clause-given
returns-in_err-packet-clause-given g c bytes given stands =
    let p = err_from_is_err_and c.from_residual.result c.from_residual.ensures.1 in
    let old = c.args.self.now in
    let text_is : c.deref.result.now ≡ old.held.items = search rules in rw p.1 (
      stands,
      (
        _,
        one_waits old bytes c.in-Ok.found.1.now given _
            (ap (λ (t : List ℕ). packet_at (slice_range t old.given old.start)) (sym text_is) ∙ c.in-Ok.ensures.front.1) stands,
      ),
    )

pub overflow_sub-self : goal.overflow_sub-self
overflow_sub-self g c =
    let old = c.args.self.now in
    let text_is : c.deref.result.now ≡ old.held.items = search rules in
    left_within old _ c.in-Ok.found.1.now
    (ap (λ (t : List ℕ). packet_at (slice_range t old.given old.start)) (sym text_is) ∙ c.in-Ok.ensures.front.1)

pub returns-clause-given : goal.returns-clause-given
returns-clause-given g c bytes given stands =
    let old = c.args.self.now in
    let text_is : c.deref.result.now ≡ old.held.items = search rules in
    let are = c.in-Ok.ensures.front.0 in
    let read : packet_at (frames_held old) ≡ Ok (g.P.LocalPacket.plain c.in_ok-packet.packet, c.in-Ok.found.1.now) =
    ap (λ (t : List ℕ). packet_at (slice_range t old.given old.start)) (sym text_is) ∙ c.in-Ok.ensures.front.1
    ∙ ap (λ (p : PlainPacket). found (p, c.in-Ok.found.1.now)) (sym (c.in_ok-packet.ensures.plain are.list are.behind are.read)) in
    one_given old _ bytes c.in-Ok.found.1.now given (g.P.LocalPacket.plain c.in_ok-packet.packet) read refl refl refl refl refl refl stands

pub returns-clause-legal : goal.returns-clause-legal
returns-clause-legal g c =
    let are = c.in-Ok.ensures.front.0 in
    legal_found _ c.in-Ok.found.1.now c.in-Ok.found.1.now (g.P.LocalPacket.plain c.in_ok-packet.packet) c.in-Ok.ensures.whole
    (c.in-Ok.ensures.front.1 ∙ ap (λ (p : PlainPacket). found (p, c.in-Ok.found.1.now)) (sym (c.in_ok-packet.ensures.plain are.list are.behind are.read)))
