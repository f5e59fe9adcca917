-- The kinds at the ends of a graph, `source` and `sink`. As a kind neither puts anything out for what it takes: what a source
-- puts out is what it carried.
use Rattle.std.specs.Prelude.{◌≡◌, ℕ, ◌≤◌, Bool, true, false, ◌&&◌, not, nat_le, ◌==◌, [], List, length, Option, Some, None}
use Rattle.std.specs.List.{list_any}
use Rattle.std.specs.Str.{bytes_eq, is_utf8}
use Rattle.up_model.specs.FrameSpelling.{frames_of}
use Rattle.up_model.specs.KindMeaning.{KindMeaning, no_options, no_stand_in, writes_nothing}
use Rattle.up_model.specs.Packet.{Flow, joined}
use Rattle.up_model.specs.Tallies.{of_taken}
use Rattle.up_model.specs.declared.fan_out.FanOut.{FanOut}
use Rattle.up_model.specs.declared.fan_out.FanOut.TheVariants as fans
use Rattle.up_model.specs.declared.form.SinkForm.{SinkForm}
use Rattle.up_model.specs.declared.form.SinkForm.TheVariants as sink_forms
use Rattle.up_model.specs.declared.form.SourceForm.{SourceForm}
use Rattle.up_model.specs.declared.form.SourceForm.TheVariants as source_forms
use Rattle.up_model.specs.declared.kind.Kind.{Kind}
use Rattle.up_model.specs.declared.kind.Kind.TheVariants.{Source, Sink}
use Rattle.up_model.specs.declared.limits.TheConstants.{MAX_BLOCK, MAX_LIMIT, MAX_PATH}

-- a text of 1 to 4,096 bytes, none of them zero
abbrev pub is_path : List ℕ → Bool
is_path path =
    nat_le 1 (length path)
    && (nat_le (length path) MAX_PATH && not (list_any (λ byte. byte == 0) path))

abbrev pub IsPath : List ℕ → Type 0
IsPath path = (is_utf8 path ≡ true) × (is_path path ≡ true)

-- blocks have at least one byte
abbrev pub IsSourceForm : SourceForm → Type 0
IsSourceForm (source_forms.Raw block) = (1 ≤ block) × (block ≤ MAX_BLOCK)
IsSourceForm source_forms.Framed = Unit {0}

abbrev pub IsSinkForm : SinkForm → Type 0
IsSinkForm sink_forms.Raw = Unit {0}
IsSinkForm sink_forms.Framed = Unit {0}

-- the bytes that a sink of the form writes of what it takes
abbrev pub written_by : SinkForm → Flow → List ℕ
written_by sink_forms.Raw taken = joined taken
written_by sink_forms.Framed taken = frames_of taken

-- a kind at an end of a graph, by what its fields keep, whom it feeds, and the bytes that it writes
abbrev pub end_meaning : Type 0 → FanOut → (Flow → List ℕ) → KindMeaning
end_meaning IsWithin fan_out written = record {
  IsWithin = IsWithin;
  output = λ taken. [];
  settled = λ taken. [];
  tally = of_taken;
  settled_tally = of_taken;
  setting = no_options;
  fan_out = fan_out;
  stand_in = no_stand_in;
  written = written;
}

abbrev pub source_meaning : List ℕ → SourceForm → ℕ → KindMeaning
source_meaning path form limit =
    end_meaning (IsPath path × IsSourceForm form × (limit ≤ MAX_LIMIT)) fans.One writes_nothing

abbrev pub sink_meaning : List ℕ → SinkForm → KindMeaning
sink_meaning path form = end_meaning (IsPath path × IsSinkForm form) fans.None (written_by form)

abbrev pub is_source : Kind → Bool
is_source (Source path form limit) = true
is_source kind = false

abbrev pub is_sink : Kind → Bool
is_sink (Sink path form) = true
is_sink kind = false

-- a source of frames
abbrev pub reads_frames : Kind → Bool
reads_frames (Source path (source_forms.Raw block) limit) = false
reads_frames (Source path source_forms.Framed limit) = true
reads_frames kind = false

-- neither a source nor a sink
abbrev pub is_between : Kind → Bool
is_between kind = not (is_source kind) && not (is_sink kind)

-- the path that a source reads or a sink writes
abbrev pub path_of : Kind → Option (List ℕ)
path_of (Source path form limit) = Some path
path_of (Sink path form) = Some path
path_of kind = None

abbrev pub is_one_path : Option (List ℕ) → Option (List ℕ) → Bool
is_one_path (Some path) (Some other) = bytes_eq path other
is_one_path (Some path) None = false
is_one_path None other = false

-- the two have one path, and aren't both sources, which may share one
abbrev pub clash_on_path : Kind → Kind → Bool
clash_on_path a b = not (is_source a && is_source b) && is_one_path (path_of a) (path_of b)
