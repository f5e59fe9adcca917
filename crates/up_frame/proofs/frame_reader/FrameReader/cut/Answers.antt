use Rattle.std.proofs.Common.{Some, subst, sym}
use Rattle.up_frame.specs.Readers.{Keeps, behind_frames}
use Rattle.up_model.proofs.FrameRests.{cut_broken}
use Rattle.up_frame.proofs.frame_reader.FrameReader.cut.Goals as goal

pub returns-in-Some : goal.returns-in-Some
returns-in-Some c bytes given stands =
    let reader = c.args.self.now in
    let keeps : Keeps (Some c.in-Some.offset) reader.judged (behind_frames reader) bytes =
    subst (λ broken. Keeps broken reader.judged (behind_frames reader) bytes) c.in-Some.is stands.keeps in
    sym (cut_broken bytes c.in-Some.offset keeps.0)
