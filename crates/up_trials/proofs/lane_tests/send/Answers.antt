use Rattle.up_outside.specs.Memory.MemSink.{sink_state}
use Rattle.up_outside.specs.Memory.MemSource.{source_state}
use Rattle.up_strand.specs.StrandCalls.{gave_out, IsLegalItem, ItemFits}
use Rattle.up_strand.specs.Strands.{StandsFor}
use Rattle.up_trials.proofs.Trials.{added_are}
use Rattle.up_trials.proofs.lane_tests.send.Goals as goal

pub keep_out-requires : goal.keep_out-requires
keep_out-requires g c =
    let lane = c.requires.want.0 in
    let was = c.requires.work.stands in
    let went = c.next_out.ensures.gave was.0 lane c.requires.want.1 was.1 in
    record {
      came = record {
        h = was.0;
        lane = lane;
        given = c.next_out.ensures.back lane c.requires.want.1;
        stands = rw c.in-Err.ensures.back went.stands;
        not_over = went.not_over;
      };
    }

pub returns-in-Ok-clause-work : goal.returns-in-Ok-clause-work
returns-in-Ok-clause-work g c =
    let was = c.requires.work.stands in
    record {
      stands = (_, (c.next_out.ensures.gave was.0 c.requires.want.0 c.requires.want.1 was.1).stands);
      holds = (c.next_out.ensures.family _ c.requires.work.holds).0;
    }

pub returns-in-Ok-clause-items : goal.returns-in-Ok-clause-items
returns-in-Ok-clause-items g c =
    let own = (g.P.Store.Stash.state c.args.s.now).family in
    record {
      legal = added_are (IsLegalItem g.P.LocalPacket.plain) _ _ c.next_out.result c.in-Ok.ensures.added c.requires.items.legal c.next_out.ensures.legal;
      suit = added_are (ItemFits g.P.LocalPacket.fits own) _ _ c.next_out.result c.in-Ok.ensures.added c.requires.items.suit
          (c.next_out.ensures.family own c.requires.work.holds).1;
    }

pub returns-in-Err-clause-work : goal.returns-in-Err-clause-work
returns-in-Err-clause-work g c =
    let plain = g.P.LocalPacket.plain in
    let lane = c.requires.want.0 in
    let was = c.requires.work.stands in
    let went = c.next_out.ensures.gave was.0 lane c.requires.want.1 was.1 in
    let stands : StandsFor plain source_state sink_state c.next_out.new.self (gave_out plain was.0 lane c.in-Err.field-0.item) =
    rw c.in-Err.ensures.back went.stands in
    let own = c.next_out.ensures.family _ c.requires.work.holds in
    record {
      stands = (_, c.keep_out.ensures.back was.0 lane (c.next_out.ensures.back lane c.requires.want.1) stands went.not_over);
      holds = c.keep_out.ensures.family _ own.0 (rw c.in-Err.ensures.back own.1);
    }
