use Rattle.std.proofs.Common.{◌≡◌, take}
use Rattle.up_report.specs.Lines.{escaped}
use Rattle.up_report.proofs.line.escaped.Given as goal

abbrev pub invariant-loop-byte : goal.invariant-loop-byte
invariant-loop-byte l = l.text ≡ escaped (take l.byte-index l.field)
