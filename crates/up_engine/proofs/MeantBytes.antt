-- What the graph means of a sink is said by what its own source carries.
use Rattle.std.proofs.Common.{◌≡◌, ℕ, ◌==◌, List, [], false, Option, Some, slice_get, refl, sym, ap, ◌∙◌, subst, inl, inr, append-nil, if◌then◌else◌}
use Rattle.std.proofs.lemmas.Bool.Decides.{eqb_tells}
use Rattle.up_base.specs.Lists.{IsPrefix}
use Rattle.up_engine.proofs.CutAtHeads.{pipe_takes}
use Rattle.up_engine.proofs.FirstParts.{whole_or_so_far}
use Rattle.up_engine.proofs.OwnSources.{source_of_input, takes_from}
use Rattle.up_model.proofs.FedSources.{fed_alike_at, fed_reached, unfed_both}
use Rattle.up_model.proofs.GraphFlows.{so_far-wholly}
use Rattle.up_model.proofs.GrownBytes.{sink_bytes_grow}
use Rattle.up_model.proofs.Ways.{same_flow}
use Rattle.up_model.proofs.WellFormed.{are_bounded, is_pipe}
use Rattle.up_model.specs.Ends.{is_source}
use Rattle.up_model.specs.Inputs.{source_of}
use Rattle.up_model.specs.Kinds.{written_of}
use Rattle.up_model.specs.Meaning.{Doing, bytes_by, flow_by, input_by, settled_bytes, shared, sink_bytes, so_far, taken_by, taken_from, to_sources, wholly}
use Rattle.up_model.specs.Packet.{Flow}
use Rattle.up_model.specs.WellFormed.{IsWellFormed}
use Rattle.up_model.specs.declared.outcome.Outcome.{Outcome}
use Rattle.up_model.specs.declared.outcome.Outcome.TheVariants.{Whole}
use Rattle.up_model.specs.declared.pipe.Pipe.{Pipe}
use Rattle.up_strand.specs.History.{doing}

-- what one source carries, and nothing of all others
abbrev alone : ℕ → Flow → ℕ → Flow
alone source flow place = if place == source then flow else []

alone_is : (source : ℕ) (flow : Flow) → alone source flow source ≡ flow
alone_is source flow = elim (eqb_tells source source) [ inl same ↦ rw same.0 refl | inr other ↦ absurd (other.1 refl) ]

alone_first : (source : ℕ) (flow : Flow) (given : ℕ → Flow) → IsPrefix flow (given source) → (place : ℕ) → IsPrefix (alone source flow place) (given place)
alone_first source flow given first place = elim (eqb_tells place source) [
  | inl same ↦ rw same.0 (subst (λ (at : ℕ). IsPrefix flow (given at)) (sym same.1) first)
  | inr other ↦ rw other.0 (given place, refl)
]

module _ (pipes : List Pipe) (well : IsWellFormed pipes) (place source : ℕ) (pipe : Pipe) (there : slice_get pipes place ≡ Some pipe)
    (none : is_source pipe.kind ≡ false) (of : source_of pipes place ≡ Some source) where
  -- what a pipe takes is the same wherever its source carries the same
  pub taken_same : (does : Doing) (given other : ℕ → Flow) → other source ≡ given source
      → taken_by pipes (flow_by does pipes (to_sources pipes other)) pipe ≡ taken_by pipes (flow_by does pipes (to_sources pipes given)) pipe
  taken_same does given other same =
      let input = takes_from pipes well place pipe there none in
      let further : source_of pipes input.0 ≡ Some source = sym (source_of_input pipes well place input.0 pipe there none input.1) ∙ of in
      ap (taken_from pipes (flow_by does pipes (to_sources pipes other)) pipe.select) input.1
      ∙ ap (shared (slice_get pipes input.0) pipe.select)
      (same_flow pipes does (to_sources pipes given) (to_sources pipes other) (unfed_both pipes given other) input.0 source (fed_reached pipes given input.0 ∙ further) (fed_alike_at pipes given other source same))
      ∙ sym (ap (taken_from pipes (flow_by does pipes (to_sources pipes given)) pipe.select) input.1)

  pub input_same : (does : Doing) (given other : ℕ → Flow) → other source ≡ given source
      → input_by does pipes (to_sources pipes other) place pipe ≡ input_by does pipes (to_sources pipes given) place pipe
  input_same does given other same =
      pipe_takes does pipes other place pipe there none ∙ taken_same does given other same ∙ sym (pipe_takes does pipes given place pipe there none)

  -- the bytes that are meant, as the whole graph has them
  meant_bytes : (does : Doing) (given other : ℕ → Flow) → other source ≡ given source
      → bytes_by does pipes (to_sources pipes other) place pipe ≡ written_of pipe.kind (taken_by pipes (flow_by does pipes (to_sources pipes given)) pipe)
  meant_bytes does given other same = ap (written_of pipe.kind) (pipe_takes does pipes other place pipe there none ∙ taken_same does given other same)

  pub whole_bytes : (given other : ℕ → Flow) → other source ≡ given source → bytes_by wholly pipes (to_sources pipes other) place pipe ≡ sink_bytes pipes given pipe
  whole_bytes given other same = meant_bytes wholly given other same

  pub part_bytes : (given other : ℕ → Flow) → other source ≡ given source → bytes_by so_far pipes (to_sources pipes other) place pipe ≡ settled_bytes pipes given pipe
  part_bytes given other same = meant_bytes so_far given other same

  -- what is settled of the first of what a source carries comes first of all that it means
  settled_first : (given more : ℕ → Flow) → IsPrefix (given source) (more source) → IsPrefix (settled_bytes pipes given pipe) (sink_bytes pipes more pipe)
  settled_first given more first =
      subst (λ (bytes : List ℕ). IsPrefix bytes (sink_bytes pipes more pipe)) (ap (written_of pipe.kind) (taken_same so_far given (alone source (given source)) (alone_is source (given source))))
      (sink_bytes_grow pipes so_far wholly so_far-wholly (are_bounded pipes well) (alone source (given source)) more (alone_first source (given source) more first) pipe (is_pipe pipes well place pipe there).kind)

  -- so does what is meant of it where the flow ended so, which is all where it came to its whole end
  pub meant_first : (ended : Option Outcome) (given more : ℕ → Flow) → IsPrefix (given source) (more source) → (ended ≡ Some Whole → given source ≡ more source)
      → IsPrefix (bytes_by (doing ended) pipes (to_sources pipes given) place pipe) (sink_bytes pipes more pipe)
  meant_first ended given more first all = elim (whole_or_so_far ended) [
    | inl whole ↦ subst (λ (does : Doing). IsPrefix (bytes_by does pipes (to_sources pipes given) place pipe) (sink_bytes pipes more pipe)) (sym (ap doing whole))
        (subst (λ (bytes : List ℕ). IsPrefix bytes (sink_bytes pipes more pipe)) (sym (whole_bytes more given (all whole))) ([], sym (append-nil (sink_bytes pipes more pipe))))
    | inr part ↦ subst (λ (does : Doing). IsPrefix (bytes_by does pipes (to_sources pipes given) place pipe) (sink_bytes pipes more pipe)) (sym part)
        (subst (λ (bytes : List ℕ). IsPrefix bytes (sink_bytes pipes more pipe)) (sym (part_bytes given given refl)) (settled_first given more first))
  ]
