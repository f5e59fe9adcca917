use Rattle.std.proofs.Common.{rules, ◌≡◌, ◌+◌, ◌-◌, length, drop, refl, arith}
use Rattle.std.proofs.lemmas.List.{length-drop}
use Rattle.up_frame.proofs.GivenFrames.{found_behind, judged_open, judged_broken}
use Rattle.up_model.specs.declared.frame_layout.NotWhole.TheVariants.{Broken, Unfinished}
use Rattle.up_frame.proofs.frame_reader.FrameReader.judge.Goals as goal

pub returns-in-Unfinished-clause-judged : goal.returns-in-Unfinished-clause-judged
returns-in-Unfinished-clause-judged c bytes given awaits =
    let old = c.args.self.now in
    let size = c.rest_start-size.result.0 in
    let text_is : c.deref.result.now ≡ old.held.items = search rules in
    judged_open old _ bytes given size c.requires.whole refl refl refl refl
    (found_behind old c.deref.result.now bytes given size c.rest_start-size.result.1 Unfinished c.rest_start-size.new.judged text_is c.in-Unfinished.is
    c.rest_start-size.ensures.rest c.rest_start-size.ensures.frames awaits) awaits

pub returns-in-Broken-clause-judged : goal.returns-in-Broken-clause-judged
returns-in-Broken-clause-judged c bytes given awaits =
    let old = c.args.self.now in
    let size = c.rest_start-size.result.0 in
    let text_is : c.deref.result.now ≡ old.held.items = search rules in
    let size_is : c.len.result ≡ length old.held.items = search rules in
    let offset : length bytes - length (drop (old.start + size) old.held.items) ≡ old.fed - (c.len.result - (old.start + size)) =
    omega (arith, size_is, awaits.count, length-drop (old.start + size) old.held.items) in
    judged_broken old _ bytes given size _ c.rest_start-size.new.judged refl c.truncate.ensures.items refl refl refl offset
    (found_behind old c.deref.result.now bytes given size c.rest_start-size.result.1 Broken c.rest_start-size.new.judged text_is c.in-Broken.is
    c.rest_start-size.ensures.rest c.rest_start-size.ensures.frames awaits) awaits
