use Rattle.std.proofs.Common.{◌≡◌, rules}
use Rattle.up_strand.specs.Strands.{want_of}
use Rattle.up_strand.specs.declared.want.Want.TheVariants as wants
use Rattle.up_trials.proofs.Trials.{all_fit}
use Rattle.up_trials.proofs.strand_tests.take_back.Goals as goal

pub keep_out-requires : goal.keep_out-requires
keep_out-requires g c =
    let want : want_of c.args.strand.now ≡ wants.Output c.args.lane = search rules in
    let was = c.requires.stands in
    let went = c.next_out-item.ensures.gave was.0 c.args.lane want was.1 in
    record {
      came = record {
        h = was.0;
        lane = c.args.lane;
        given = c.next_out-item.ensures.back c.args.lane want;
        stands = went.stands;
        not_over = went.not_over;
      };
    }

pub returns : goal.returns
returns g c =
    let want : want_of c.args.strand.now ≡ wants.Output c.args.lane = search rules in
    let was = c.requires.stands in
    let went = c.next_out-item.ensures.gave was.0 c.args.lane want was.1 in
    record {
      stands = (_, c.keep_out.ensures.back was.0 c.args.lane (c.next_out-item.ensures.back c.args.lane want) went.stands went.not_over);
      holds = all_fit _ _;
    }

pub next_out-item-requires-clause-want : goal.next_out-item-requires-clause-want
next_out-item-requires-clause-want g c =
    let want : want_of c.args.strand.now ≡ wants.Output c.args.lane = search rules in
    (c.args.lane, want)
