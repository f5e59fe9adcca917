use Rattle.std.proofs.Common.{rules, refl, subst, sym, ◌∙◌}
use Rattle.std.specs.Io.KnownBytes.{Consumes}
use Rattle.std.proofs.KnownBytes.{Consumes-trans}
use Rattle.up_outside.proofs.Told.{summed_on}
use Rattle.up_strand.proofs.Rooms.{filled_more}
use Rattle.up_strand.proofs.fill.fill.Goals as goal

pub loop-count-preserved : goal.loop-count-preserved
loop-count-preserved g c =
    let state = g.S.Source.state in
    let so_far = c.loop-count.invariant in
    let step = c.in-Ok.ensures in
    record {
      within = search rules;
      took = record {
        bytes_of = subst (Consumes (state c.args.source.now).left (state c.read.new.self).left)
            (sym (filled_more c.loop-count.count c.in-Ok.more _ c.loop-count.room c.read.new.room so_far.within step.bound.0))
            (Consumes-trans _ _ _ _ _ so_far.took.bytes_of step.reads.bytes.0);
        sum = summed_on _ _ _ c.loop-count.count c.in-Ok.more so_far.took.sum step.reads.sum;
        place = step.reads.place ∙ so_far.took.place;
      };
      faults = step.reads.faults.stays refl ∙ so_far.faults;
    }
