-- A chain: a raw source, any number of `idem` pipes, and a raw sink, each but the first fed by the pipe before it.
use Rattle.std.specs.Prelude.{◌≡◌, ℕ, ◌+◌, ◌<◌, ◌≤◌, List, length, slice_get, Some}
use Rattle.up_model.specs.declared.form.SinkForm.TheVariants as sink_forms
use Rattle.up_model.specs.declared.form.SourceForm.TheVariants as source_forms
use Rattle.up_model.specs.declared.kind.Kind.{Kind}
use Rattle.up_model.specs.declared.kind.Kind.TheVariants.{Source, Sink, Idem}
use Rattle.up_model.specs.declared.limits.TheConstants.{MAX_LIMIT}
use Rattle.up_model.specs.declared.pipe.Pipe.{Pipe}

-- it reads blocks of at least one byte, up to a limit of at most 2^40 bytes; a pipe of any other kind is no source
abbrev pub IsRawSource : Kind → Type 0
IsRawSource (Source path (source_forms.Raw block) limit) = (0 < block) × (limit ≤ MAX_LIMIT)
IsRawSource kind = ⊥

-- a pipe of any other kind is no sink
abbrev pub IsRawSink : Kind → Type 0
IsRawSink (Sink path sink_forms.Raw) = Unit {0}
IsRawSink kind = ⊥

pub record IsChain (pipes : List Pipe) : Type 0 where
  pub two : 2 ≤ length pipes
  pub source : (pipe : Pipe) → slice_get pipes 0 ≡ Some pipe → IsRawSource pipe.kind
  pub between : (place : ℕ) (pipe : Pipe) → 0 < place → place + 1 < length pipes
      → slice_get pipes place ≡ Some pipe → pipe.kind ≡ Idem
  pub sink : (place : ℕ) (pipe : Pipe) → place + 1 ≡ length pipes
      → slice_get pipes place ≡ Some pipe → IsRawSink pipe.kind
  pub input : (place : ℕ) (pipe : Pipe) → slice_get pipes (place + 1) ≡ Some pipe
      → pipe.input ≡ Some place
