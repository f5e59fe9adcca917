use Rattle.std.proofs.Common.{rules, ◌≡◌, drop, length, ap, ◌∙◌, arith}
use Rattle.std.proofs.lemmas.List.{length-drop}
use Rattle.up_frame.proofs.GivenFrames.{none_waits, rest_alone}
use Rattle.up_frame.proofs.frame_reader.FrameReader.compact.Goals as goal
use Rattle.up_frame.proofs.frame_reader.FrameReader.compact.Goals.{then-given-eq0-via-then-given-eq0, then-given-eq0-via-else-given-eq0+then-given-len, then-given-self, else-given-self}

pub returns-then-given-eq0-clause-held : goal.returns-then-given-eq0-clause-held
returns-then-given-eq0-clause-held c bytes stands =
    let old = c.args.self.now in
    let waits = none_waits old bytes stands in
    let first : old.given ≡ 0 = elim c.then-given-eq0.branch [
      | then-given-eq0-via-then-given-eq0 w ↦ omega (arith, w.if-given-eq0.true)
      | then-given-eq0-via-else-given-eq0+then-given-len w ↦ elim w.if-given-self.branch [
        | then-given-self one ↦ absurd (omega (arith, one.if-given-self.true, waits))
        | else-given-self one ↦ absurd (search rules)
      ]
    ] in
    omega (arith, rest_alone old bytes (length old.held.items) (omega (arith, first)) stands)

pub returns-clause-held : goal.returns-clause-held
returns-clause-held c bytes stands =
    let old = c.args.self.now in
    let items : c.drop.new.self.0.items ≡ drop old.given old.held.items = search rules in
    let left = ap length items ∙ length-drop old.given old.held.items in
    omega (arith, rest_alone old bytes _ left stands)
