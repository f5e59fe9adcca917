-- A tree for the worked examples: two sources, of which one feeds a `dup` with two consumers, and a sink that stands before
-- its input.
use Rattle.std.proofs.Common.{List, ℕ, zero, suc, [], ◌∷◌, Some, None, map}
use Rattle.std.specs.Prelude.{codes}
use Rattle.up_model.proofs.ExampleChain.{pipe, raw_source}
use Rattle.up_model.specs.Packet.{Flow, plain}
use Rattle.up_model.specs.declared.form.SinkForm.TheVariants as sink_forms
use Rattle.up_model.specs.declared.kind.Kind.TheVariants.{Sink, Dup, Skip}
use Rattle.up_model.specs.declared.pipe.Pipe.{Pipe}

abbrev pub archive : Pipe
archive = pipe (codes "archive") (Some 4) (Sink (codes "all") sink_forms.Raw)

abbrev pub tails : Pipe
tails = pipe (codes "tails") (Some 5) (Sink (codes "tails") sink_forms.Raw)

abbrev pub other : Pipe
other = pipe (codes "other") (Some 2) (Sink (codes "other") sink_forms.Raw)

-- places 0 to 6
abbrev pub tree : List Pipe
tree =
    archive ∷ pipe (codes "capture") None (raw_source 4 100) ∷ pipe (codes "second") None (raw_source 4 100) ∷ other
    ∷ pipe (codes "both") (Some 1) Dup ∷ pipe (codes "cut") (Some 4) (Skip 3) ∷ tails ∷ []

-- the source at place 1 gives three packets, that at place 2 one
abbrev pub given : ℕ → Flow
given zero = []
given (suc zero) = map plain (codes "abcd" ∷ codes "efgh" ∷ codes "ij" ∷ [])
given (suc (suc place)) = plain (codes "xy") ∷ []
