-- A chain of three pipes, for the worked examples.
use Rattle.std.proofs.Common.{List, ℕ, zero, suc, [], ◌∷◌, Option, Some, None, false}
use Rattle.std.specs.Prelude.{codes}
use Rattle.up_model.specs.Packet.{Flow, plain}
use Rattle.up_model.specs.declared.form.SinkForm.TheVariants as sink_forms
use Rattle.up_model.specs.declared.form.SourceForm.TheVariants as source_forms
use Rattle.up_model.specs.declared.kind.Kind.{Kind}
use Rattle.up_model.specs.declared.kind.Kind.TheVariants.{Source, Sink, Idem}
use Rattle.up_model.specs.declared.pipe.Pipe.{Pipe}

-- a pipe on the worker `main`
abbrev pub pipe : List ℕ → Option ℕ → Kind → Pipe
pipe name input kind = record {
  name = name;
  worker = codes "main";
  input = input;
  select = None;
  queue = 64;
  caught = record { drop = false; cut = false; sync = false; lost = false };
  kind = kind;
}

abbrev pub raw_source : ℕ → ℕ → Kind
raw_source block limit = Source (codes "in") (source_forms.Raw block) limit

-- a sink with this input
abbrev pub raw_sink : Option ℕ → Pipe
raw_sink input = pipe (codes "archive") input (Sink (codes "out") sink_forms.Raw)

-- source, idem, sink
abbrev pub three_pipes : List Pipe
three_pipes = pipe (codes "capture") None (raw_source 4096 100) ∷ pipe (codes "pass") (Some 0) Idem ∷ raw_sink (Some 1) ∷ []

-- the source at place 0 gives one packet, `abc`
abbrev pub given : ℕ → Flow
given zero = plain (codes "abc") ∷ []
given (suc place) = []
