use Rattle.std.proofs.Common.{◌≡◌, Some, None, Ok, ap, arith, refl, sym, subst, ◌∙◌}
use Rattle.up_frame.specs.Readers.{plain_answer}
use Rattle.up_outside.specs.Counts.{CountsOnce}
use Rattle.up_strand.proofs.FrameSteps.{gave_none, gave_packet, no_faults, none_read, shown_end, shown_no_fault}
use Rattle.up_strand.proofs.frame_source.FrameSource.next.Goals as goal

pub returns-in-Ok-Some-clause-gave : goal.returns-in-Ok-Some-clause-gave
returns-in-Ok-Some-clause-gave g c =
    let gave : c.next_packet.result ≡ Ok (Some c.in-Ok-Some.p) = cc in
    record {
      taken = _;
      took = none_read (g.S.Source.state c.args.self.now.source);
      piece = omega arith;
      faults = no_faults (g.S.Source.state c.args.self.now.source).faults;
      limit = refl;
      are = λ read put stood. (
        refl,
        record {
          reader = gave_packet c.args.self.now.reader c.next_packet.new.self _ (g.P.LocalPacket.plain c.in-Ok-Some.p)
              (ap (plain_answer g.P.LocalPacket.plain) gave) c.next_packet.ensures.given _ put stood.reader;
          known = stood.known;
          rest = stood.rest;
          few = stood.few;
          in_limit = stood.in_limit;
        },
      );
    }

pub returns-in-Some-clause-gave : goal.returns-in-Some-clause-gave
returns-in-Some-clause-gave g c =
    let none : c.next_packet.result ≡ Ok None = cc in
    let some = c.requires.stands in
    let fault = shown_no_fault g.row.P.Denot c.args.self.now.limit some.0 c.in-Some.outcome (sym some.1.1.known ∙ c.in-Some.is) in
    record {
      taken = _;
      took = none_read (g.S.Source.state c.args.self.now.source);
      piece = omega arith;
      faults = subst (λ fault. CountsOnce fault (g.S.Source.state c.args.self.now.source).faults (g.S.Source.state c.args.self.now.source).faults) (sym fault) (no_faults (g.S.Source.state c.args.self.now.source).faults);
      limit = refl;
      are = λ read put stood.
          let gave = gave_none c.args.self.now.reader c.next_packet.new.self _ (ap (plain_answer g.P.LocalPacket.plain) none) c.next_packet.ensures.given _ put stood.reader in
          let end = shown_end c.args.self.now.limit _ read put c.in-Some.outcome (sym stood.known ∙ c.in-Some.is) gave.1 in
          (refl, end.0, end.1);
    }

pub returns-in-None-clause-gave : goal.returns-in-None-clause-gave
returns-in-None-clause-gave g c =
    let none : c.next_packet.result ≡ Ok None = cc in
    let on = c.read_on.ensures.gave in
    record {
      taken = on.taken;
      took = on.took;
      piece = on.piece;
      faults = on.faults;
      limit = on.limit;
      are = λ read put stood.
          let gave = gave_none c.args.self.now.reader c.next_packet.new.self _ (ap (plain_answer g.P.LocalPacket.plain) none) c.next_packet.ensures.given _ put stood.reader in
          on.are read put (record { reader = gave.0; known = stood.known; rest = stood.rest; few = stood.few; in_limit = stood.in_limit }, gave.1);
    }
