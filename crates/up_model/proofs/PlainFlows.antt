-- What the pipe at a place puts out, one step unrolled.
use Rattle.std.proofs.Common.{◌≡◌, ℕ, zero, suc, ◌<◌, ◌-◌, List, [], true, false, Option, Some, None, slice_get, refl, sym, ap, ◌∙◌, arith}
use Rattle.std.proofs.lemmas.Bool.{false≢true}
use Rattle.std.specs.Option.{option_map_or}
use Rattle.std.specs.Prelude.{unwrap_or}
use Rattle.up_model.proofs.FedSources.{fed_source, unfed}
use Rattle.up_model.proofs.PlainKinds.{shares_all}
use Rattle.up_model.specs.Ends.{is_source, is_sink}
use Rattle.up_model.specs.Kinds.{output_of, module_kind}
use Rattle.up_model.specs.Meaning.{wholly, to_sources, done_by, selected, shared, taken_by, taken_from, taken_at, work_at, flow_within}
use Rattle.up_model.specs.Outcomes.{source_flow, source_flows, bytes_at}
use Rattle.up_model.specs.Packet.{Flow}
use Rattle.up_model.specs.declared.kind.Kind.{Kind}
use Rattle.up_model.specs.declared.kind.Kind.TheVariants.{Source, Sink}
use Rattle.up_model.specs.declared.pipe.Pipe.{Pipe}

module _ (place : ℕ) (kind : Kind) (numbers : List ℕ) (taken : Flow) where
  source_puts : is_source kind ≡ true → (done_by wholly place (module_kind numbers kind) taken).flow ≡ taken
  source_puts is = by_kind kind is
    where
      by_kind : (kind : Kind) → is_source kind ≡ true → (done_by wholly place (module_kind numbers kind) taken).flow ≡ taken
      by_kind (Source path form limit) is = refl
      by_kind kind is = absurd (false≢true is)

  sink_puts : is_sink kind ≡ true → (done_by wholly place (module_kind numbers kind) taken).flow ≡ []
  sink_puts is = by_kind kind is
    where
      by_kind : (kind : Kind) → is_sink kind ≡ true → (done_by wholly place (module_kind numbers kind) taken).flow ≡ []
      by_kind (Sink path form) is = refl
      by_kind kind is = absurd (false≢true is)

  other_puts : is_source kind ≡ false → (done_by wholly place (module_kind numbers kind) taken).flow ≡ output_of (module_kind numbers kind) taken
  other_puts is = by_kind kind is
    where
      by_kind : (kind : Kind) → is_source kind ≡ false
          → (done_by wholly place (module_kind numbers kind) taken).flow ≡ output_of (module_kind numbers kind) taken
      by_kind (Source path form limit) is = absurd (cc)
      by_kind kind is = refl

-- of what nobody puts out, all is nothing
share_all : (input : Option Pipe) (select : Option ℕ) (flow : Flow) → (input ≡ None → flow ≡ []) → shared input select flow ≡ flow
share_all None select flow nobody = sym (nobody refl)
share_all (Some input) select flow nobody = shares_all input.kind select flow

module _ (pipes : List Pipe) (given : ℕ → Flow) where
  -- what the pipes put out in so many steps
  abbrev put_within : ℕ → ℕ → Flow
  put_within steps = flow_within wholly pipes (to_sources pipes given) steps

  nowhere : (steps place : ℕ) → slice_get pipes place ≡ None → put_within steps place ≡ []
  nowhere zero place none = refl
  nowhere (suc steps) place none = ap (λ pipe. (work_at wholly pipes (to_sources pipes given) (put_within steps) place pipe).flow) none

  unrolled : (steps place : ℕ) (pipe : Pipe) → slice_get pipes place ≡ Some pipe
      → put_within (suc steps) place
      ≡ (done_by wholly place (module_kind (selected pipes place) pipe.kind) (taken_at wholly pipes (to_sources pipes given) (put_within steps) place pipe)).flow
  unrolled steps place pipe there = ap (λ pipe. (work_at wholly pipes (to_sources pipes given) (put_within steps) place pipe).flow) there

  -- a pipe takes all that its input puts out
  pub takes_all : (steps input : ℕ) (pipe : Pipe) → pipe.input ≡ Some input → put_within steps input ≡ taken_by pipes (put_within steps) pipe
  takes_all steps input pipe from =
      let flows = put_within steps in
      sym (ap (taken_from pipes flows pipe.select) from ∙ share_all (slice_get pipes input) pipe.select (flows input) (nowhere steps input))

  -- one without an input takes nothing
  pub takes_nothing : (steps : ℕ) (pipe : Pipe) → pipe.input ≡ None → [] ≡ taken_by pipes (put_within steps) pipe
  takes_nothing steps pipe from = sym (ap (taken_from pipes (put_within steps) pipe.select) from)

  module _ (steps place : ℕ) (pipe : Pipe) (some : 0 < steps) (there : slice_get pipes place ≡ Some pipe) where
    one_step : put_within steps place
        ≡ (done_by wholly place (module_kind (selected pipes place) pipe.kind) (taken_at wholly pipes (to_sources pipes given) (put_within (steps - 1)) place pipe)).flow
    one_step =
        let one_less : steps ≡ suc (steps - 1) = omega arith in
        ap (λ steps. put_within steps place) one_less ∙ unrolled (steps - 1) place pipe there

    -- a source puts out what it is given
    pub source_puts_packets : is_source pipe.kind ≡ true → put_within steps place ≡ given place
    source_puts_packets is =
        one_step ∙ source_puts place pipe.kind (selected pipes place) _ is
        ∙ ap (λ fed. unwrap_or fed (taken_by pipes (put_within (steps - 1)) pipe)) (fed_source pipes given place pipe there is)

    -- a sink nothing
    pub sink_flow : is_sink pipe.kind ≡ true → put_within steps place ≡ []
    sink_flow is = one_step ∙ sink_puts place pipe.kind (selected pipes place) _ is

    -- any other pipe what its module makes of what it takes
    pub other_flow : (taken : Flow) → is_source pipe.kind ≡ false → taken ≡ taken_by pipes (put_within (steps - 1)) pipe
        → put_within steps place ≡ output_of (module_kind (selected pipes place) pipe.kind) taken
    other_flow taken is takes =
        one_step
        ∙ other_puts place pipe.kind (selected pipes place) _ is
        ∙ ap (λ fed. output_of (module_kind (selected pipes place) pipe.kind) (unwrap_or fed (taken_by pipes (put_within (steps - 1)) pipe)))
        (unfed pipes given place pipe there is)
        ∙ ap (output_of (module_kind (selected pipes place) pipe.kind)) (sym takes)

-- a source is given the packets of its bytes
pub given_source : (pipes : List Pipe) (given : List (List ℕ)) (place : ℕ) (pipe : Pipe) (bytes : List ℕ) → slice_get pipes place ≡ Some pipe
    → slice_get given place ≡ Some bytes → source_flows pipes (bytes_at given) place ≡ source_flow pipe.kind bytes
given_source pipes given place pipe bytes there are =
    ap (λ found. option_map_or (λ (pipe : Pipe). source_flow pipe.kind (bytes_at given place)) found []) there
    ∙ ap (λ found. source_flow pipe.kind (unwrap_or found [])) are
