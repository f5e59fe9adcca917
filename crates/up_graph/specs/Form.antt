-- What may stand at `form`, and the form of a source.
use Rattle.std.specs.Prelude.{ℕ, List, codes, Option, Some, None, option_map, Ok, Err, if◌then◌else◌}
use Rattle.std.specs.Str.{bytes_eq}
use Rattle.toml.specs.Data.{Data, string, Members}
use Rattle.up_graph.specs.Field.{Field, field_map, both, Rule, given}
use Rattle.up_graph.specs.Values.{number_or}
use Rattle.up_graph.specs.declared.form.Form.{Form}
use Rattle.up_graph.specs.declared.form.Form.TheVariants.{Raw, Framed}
use Rattle.up_model.specs.declared.form.SinkForm.{SinkForm}
use Rattle.up_model.specs.declared.form.SinkForm.TheVariants as sink_forms
use Rattle.up_model.specs.declared.form.SourceForm.{SourceForm}
use Rattle.up_model.specs.declared.form.SourceForm.TheVariants as source_forms
use Rattle.up_model.specs.declared.limits.TheConstants.{DEFAULT_BLOCK, MAX_BLOCK}

-- the form that a word names
abbrev pub form_of : List ℕ → Option Form
form_of word =
    if bytes_eq word (codes "raw") then Some Raw
    else if bytes_eq word (codes "framed") then Some Framed
    else None

-- the word of a form, which is raw where none stands
abbrev pub form_in : Option Data → Option Form
form_in None = Some Raw
form_in (Some (string word)) = form_of word
form_in (Some value) = None

abbrev pub form : Rule Form
form = record { name = codes "form"; value = form_in }

-- the form of a sink
abbrev pub sink_form : Form → SinkForm
sink_form Raw = sink_forms.Raw
sink_form Framed = sink_forms.Framed

-- bytes that are cut into blocks
abbrev pub in_blocks : Option Data → Option SourceForm
in_blocks found = option_map source_forms.Raw (number_or (Some DEFAULT_BLOCK) 1 MAX_BLOCK found)

-- frames, of which no block is cut
abbrev pub in_frames : Option Data → Option SourceForm
in_frames None = Some source_forms.Framed
in_frames (Some value) = None

-- beside a wrong `form`, which is wrong itself, no block is right
abbrev pub in_none : Option Data → Option SourceForm
in_none None = Some (source_forms.Raw DEFAULT_BLOCK)
in_none (Some value) = None

abbrev pub form_with : Field Form → Option Data → Option SourceForm
form_with (Ok Raw) found = in_blocks found
form_with (Ok Framed) found = in_frames found
form_with (Err key) found = in_none found

abbrev pub block : Field Form → Rule SourceForm
block beside = record { name = codes "block"; value = form_with beside }

-- the form of a source, of its `form` and its `block`
abbrev pub source_form : Members → Field SourceForm
source_form table =
    field_map (λ found. found.1)
    (both (given form table) (given (block (given form table)) table))
