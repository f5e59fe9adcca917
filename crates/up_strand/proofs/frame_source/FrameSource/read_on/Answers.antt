use Rattle.std.proofs.Common.{◌≡◌, ℕ, List, [], Ok, false, ◌<◌, ◌≤◌, ◌++◌, arith, length, refl, rules, sym, ap, subst, ◌∙◌, take}
use Rattle.std.proofs.lemmas.List.{length-take-le, with_items_is}
use Rattle.up_model.specs.FrameStreams.{whole_frames}
use Rattle.up_model.specs.Outcomes.{outcome_at_end}
use Rattle.up_model.specs.declared.form.SourceForm.TheVariants.{Framed}
use Rattle.up_outside.specs.Counts.{CountsOnce}
use Rattle.up_strand.proofs.FrameSteps.{all_within, end_no_fault, end_of_frames, none_shown}
use Rattle.up_strand.specs.Frames.{FramesStand}
use Rattle.up_strand.specs.Reads.{WereRead}
use Rattle.up_strand.specs.declared.frame_source.TheConstants.{MAX_PIECE}
use Rattle.up_strand.proofs.frame_source.FrameSource.read_on.Goals as goal

pub returns-in-Ok-eq0-clause-gave : goal.returns-in-Ok-eq0-clause-gave
returns-in-Ok-eq0-clause-gave g c =
    let some = c.requires.stands in
    let none : c.in-Ok-eq0.field-0 ≡ 0 = cc in
    let fault = end_no_fault g.row.P.Denot _ c.outcome_at_end.result (c.outcome_at_end.ensures _ some.1.0 some.1.1.reader) in
    record {
      taken = [];
      took = subst (λ (n : ℕ). WereRead (g.S.Source.state c.args.self.now.source) (g.S.Source.state c.read_once.new.source) (take n c.read_once.new.room) n)
          none c.in-Ok-eq0.ensures.read.took;
      piece = omega arith;
      faults = subst (λ fault. CountsOnce fault (g.S.Source.state c.args.self.now.source).faults (g.S.Source.state c.read_once.new.source).faults) (sym fault) c.in-Ok-eq0.ensures.read.faults;
      limit = refl;
      are = λ read put gave.
          let stood = gave.0 in
          let all = all_within c.args.self.now read put stood c.requires.unshown in
          let end = end_of_frames c.args.self.now.limit _ read put c.outcome_at_end.result
          (c.outcome_at_end.ensures _ put stood.reader ∙ ap (outcome_at_end Framed) all)
          (none_shown c.args.self.now read put stood c.requires.unshown) (c.in-Ok-eq0.ensures.read.end (ap Ok none)) (gave.1 ∙ ap whole_frames all) in
          (refl, end.0, end.1);
    }

pub returns-in-Ok-take_in-clause-gave : goal.returns-in-Ok-take_in-clause-gave
returns-in-Ok-take_in-clause-gave g c =
    let few = c.in-Ok.ensures.few in
    let room : length c.read_once.new.room ≡ c.make_room.new.piece.len = search rules in
    let filled = with_items_is c.make_room.new.piece c.read_once.new.room room in
    let enough : c.in-Ok.count ≤ length c.read_once.new.room = search rules in
    let long = length-take-le c.in-Ok.count c.read_once.new.room enough in
    let small : length (take c.in-Ok.count c.read_once.new.room) ≤ MAX_PIECE = search rules in
    let some : 0 < length (take c.in-Ok.count c.read_once.new.room) = search rules in
    record {
      taken = take c.in-Ok.count c.read_once.new.room;
      took = subst (WereRead (g.S.Source.state c.args.self.now.source) (g.S.Source.state c.take_in.new.self.source) (take c.in-Ok.count c.read_once.new.room)) (sym long)
          (subst (λ source. WereRead (g.S.Source.state c.args.self.now.source) (g.S.Source.state source) (take c.in-Ok.count c.read_once.new.room) c.in-Ok.count)
          (sym c.take_in.ensures.source) c.in-Ok.ensures.read.took);
      piece = small;
      faults = subst (λ source. CountsOnce false (g.S.Source.state c.args.self.now.source).faults (g.S.Source.state source).faults)
          (sym c.take_in.ensures.source) c.in-Ok.ensures.read.faults;
      limit = c.take_in.ensures.limit;
      are = λ read put gave. (
        some,
        subst (λ (room : List ℕ). FramesStand c.take_in.new.self (read ++ take c.in-Ok.count room) put) filled
            (c.in-Ok-take_in.ensures.took read put
            (record { reader = gave.0.reader; known = gave.0.known; rest = gave.0.rest; few = gave.0.few; in_limit = gave.0.in_limit })),
        gave.1 ∙ ap (λ limit. whole_frames (take limit read)) (sym c.take_in.ensures.limit),
      );
    }
