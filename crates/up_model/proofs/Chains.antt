-- A chain passes on what its source puts out.
use Rattle.std.proofs.Common.{◌≡◌, ℕ, zero, suc, ◌+◌, ◌<◌, List, length, Option, Some, slice_get, true, refl, ap, ◌∙◌, add-one, arith}
use Rattle.std.specs.Prelude.{unwrap_or}
use Rattle.up_model.proofs.FedSources.{fed_source, unfed}
use Rattle.up_model.proofs.Packetwise.{passed-on}
use Rattle.up_model.proofs.WellFormed.{there}
use Rattle.up_model.specs.Chain.{IsChain, IsRawSource, IsRawSink}
use Rattle.up_model.specs.Ends.{is_source}
use Rattle.up_model.specs.Kinds.{module_kind, share_of, written_of}
use Rattle.up_model.specs.Meaning.{wholly, to_sources, done_by, taken_at, selected, shared, taken_by, work_at, flow_within, flow_at, input_of, sink_bytes}
use Rattle.up_model.specs.Packet.{Flow, joined}
use Rattle.up_model.specs.declared.form.SinkForm.TheVariants.{Raw}
use Rattle.up_model.specs.declared.kind.Kind.{Kind}
use Rattle.up_model.specs.declared.kind.Kind.TheVariants.{Source, Sink, Idem}
use Rattle.up_model.specs.declared.pipe.Pipe.{Pipe}

source_puts : (place : ℕ) (kind : Kind) (numbers : List ℕ) (fed : Flow) → IsRawSource kind
    → (done_by wholly place (module_kind numbers kind) fed).flow ≡ fed
source_puts place (Source path form limit) numbers fed is = refl
source_puts place kind numbers fed is = absurd is

raw_is_source : (kind : Kind) → IsRawSource kind → is_source kind ≡ true
raw_is_source (Source path form limit) is = refl
raw_is_source kind is = absurd is

source_shares : (kind : Kind) (select : Option ℕ) (flow : Flow) → IsRawSource kind → share_of kind select flow ≡ flow
source_shares (Source path form limit) select flow is = refl
source_shares kind select flow is = absurd is

sink_writes : (kind : Kind) (taken : Flow) → IsRawSink kind → written_of kind taken ≡ joined taken
sink_writes (Sink path Raw) taken is = refl
sink_writes kind taken is = absurd is

module _ (pipes : List Pipe) (chain : IsChain pipes) where
  -- the pipe after a place takes the whole flow that is put out there
  takes_all : (place : ℕ) (select : Option ℕ) (flow : Flow) → place + 1 < length pipes → shared (slice_get pipes place) select flow ≡ flow
  takes_all zero select flow within =
      let first = there pipes 0 (omega arith) in
      rw first.1 (source_shares first.0.kind select flow (chain.source first.0 first.1))
  takes_all (suc place) select flow within =
      let next = there pipes (suc place) (omega arith) in
      let kind : next.0.kind ≡ Idem = chain.between (suc place) next.0 (omega arith) within next.1 in
      rw (next.1, kind) refl

  -- what the pipe at a place puts out
  at_place : (given flows : ℕ → Flow) (place : ℕ) (pipe : Pipe) → slice_get pipes place ≡ Some pipe
      → (work_at wholly pipes (to_sources pipes given) flows place (slice_get pipes place)).flow
      ≡ (done_by wholly place (module_kind (selected pipes place) pipe.kind) (taken_at wholly pipes (to_sources pipes given) flows place pipe)).flow
  at_place given flows place pipe is = ap (λ pipe. (work_at wholly pipes (to_sources pipes given) flows place pipe).flow) is

  -- each pipe of a chain but its sink puts out the source's flow
  chain_flow : (given : ℕ → Flow) (place steps : ℕ) → place + 1 < length pipes → place < steps
      → flow_within wholly pipes (to_sources pipes given) steps place ≡ given 0
  chain_flow given place zero within enough = absurd (omega arith)
  chain_flow given zero (suc steps) within enough =
      let first = there pipes 0 (omega arith) in
      let raw = chain.source first.0 first.1 in
      let flows = flow_within wholly pipes (to_sources pipes given) steps in
      at_place given flows 0 first.0 first.1
      ∙ source_puts 0 first.0.kind (selected pipes 0) _ raw
      ∙ ap (λ fed. unwrap_or fed (taken_by pipes flows first.0)) (fed_source pipes given 0 first.0 first.1 (raw_is_source first.0.kind raw))
  chain_flow given (suc place) (suc steps) within enough =
      let next = there pipes (suc place) (omega arith) in
      let kind : next.0.kind ≡ Idem = chain.between (suc place) next.0 (omega arith) within next.1 in
      let input : next.0.input ≡ Some place = chain.input place next.0 (rw add-one next.1) in
      let flows = flow_within wholly pipes (to_sources pipes given) steps in
      at_place given flows (suc place) next.0 next.1
      ∙ ap (λ fed. (done_by wholly (suc place) (module_kind (selected pipes (suc place)) next.0.kind) (unwrap_or fed (taken_by pipes flows next.0))).flow)
      (unfed pipes given (suc place) next.0 next.1 (ap is_source kind))
      ∙ rw (kind, input, passed-on, takes_all place next.0.select (flows place) (omega arith)) (chain_flow given place steps (omega arith) (omega arith))

pub sink_bytes-chain : (pipes : List Pipe) (given : ℕ → Flow) (place : ℕ) (sink : Pipe) → IsChain pipes → place + 1 ≡ length pipes
    → slice_get pipes place ≡ Some sink → sink_bytes pipes given sink ≡ joined (given 0)
sink_bytes-chain pipes given zero sink chain last at = absurd (omega (arith, chain.two))
sink_bytes-chain pipes given (suc before) sink chain last at =
    let input : sink.input ≡ Some before = chain.input before sink (rw add-one at) in
    let flows = flow_at pipes given in
    sink_writes sink.kind (input_of pipes given sink) (chain.sink (suc before) sink last at)
    ∙ rw (input, takes_all pipes chain before sink.select (flows before) (omega arith))
    (ap joined (chain_flow pipes chain given before (length pipes) (omega arith) (omega arith)))
