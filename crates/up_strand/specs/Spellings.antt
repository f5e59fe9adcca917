-- What a sink writes of the packets that it takes, by how it spells them.
use Rattle.std.specs.Prelude.{◌≡◌}
use Rattle.up_model.specs.declared.form.SinkForm.{SinkForm}
use Rattle.up_model.specs.declared.form.SinkForm.TheVariants as sink_forms
use Rattle.up_model.specs.declared.kind.Kind.{Kind}
use Rattle.up_model.specs.declared.kind.Kind.TheVariants as kinds
use Rattle.up_strand.specs.declared.spelling.Spelling.{Spelling}
use Rattle.up_strand.specs.declared.spelling.Spelling.TheVariants.{Raw, Framed}

-- the form of a sink that spells so, whatever stands in its room
abbrev pub form_of : Spelling → SinkForm
form_of Raw = sink_forms.Raw
form_of (Framed frame) = sink_forms.Framed

-- it is a sink of the form; a pipe of any other kind is no sink
abbrev pub IsSinkOf : SinkForm → Kind → Type 0
IsSinkOf form (kinds.Sink path own) = own ≡ form
IsSinkOf form kind = ⊥
