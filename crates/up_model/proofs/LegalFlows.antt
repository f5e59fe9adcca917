-- In a well-formed graph legal packets stay legal.
use Rattle.std.specs.Prelude.{unwrap_or}
use Rattle.std.proofs.Common.{◌≡◌, ℕ, zero, suc, List, [], ◌∷◌, ◌++◌, All, Option, Some, None, slice_get, refl, sym, length, subst, append-nil}
use Rattle.std.proofs.lemmas.List.Elements.{All-nil, All-cons, All-head, All-tail}
use Rattle.up_model.proofs.EveryKind.{lawful}
use Rattle.up_model.proofs.GraphFlows.{AreBounded}
use Rattle.up_model.proofs.Shares.{share_legal}
use Rattle.up_model.specs.Kinds.{fan_out_of, IsWithinBounds, output_of, settled_output, module_kind}
use Rattle.up_model.specs.Meaning.{Doing, Feeding, wholly, so_far, selected, done_by, shared, taken_from, taken_by, work_at, flow_within, flow_by}
use Rattle.up_model.specs.Packet.{Flow, IsLegal}
use Rattle.up_model.specs.declared.kind.Kind.{Kind}
use Rattle.up_model.specs.declared.kind.Kind.TheVariants.{Source}
use Rattle.up_model.specs.declared.pipe.Pipe.{Pipe}

-- legal packets give legal ones
abbrev pub KeepsLegalFlows : Doing → Type 0
KeepsLegalFlows does = (place : ℕ) (kind : Kind) (taken : Flow) → IsWithinBounds kind → All IsLegal taken → All IsLegal (does place kind taken).flow

done_is_legal : (does : Doing) → KeepsLegalFlows does → (place : ℕ) (kind : Kind) (taken : Flow) → IsWithinBounds kind → All IsLegal taken
    → All IsLegal (done_by does place kind taken).flow
done_is_legal does keeps place (Source path form limit) taken within takes = takes
done_is_legal does keeps place kind taken within takes = keeps place kind taken within takes

fed_is_legal : (fed : Option Flow) (taken : Flow) → ((flow : Flow) → fed ≡ Some flow → All IsLegal flow) → All IsLegal taken → All IsLegal (unwrap_or fed taken)
fed_is_legal None taken legal takes = takes
fed_is_legal (Some flow) taken legal takes = legal flow refl

share_is_legal : (input : Option Pipe) (select : Option ℕ) (flow : Flow) → All IsLegal flow → All IsLegal (shared input select flow)
share_is_legal None select flow legal = All-nil IsLegal
share_is_legal (Some input) select flow legal = share_legal (fan_out_of input.kind) select flow legal

module _ (pipes : List Pipe) where
  taken_is_legal : (flows : ℕ → Flow) (select input : Option ℕ) → ((place : ℕ) → All IsLegal (flows place)) → All IsLegal (taken_from pipes flows select input)
  taken_is_legal flows select None legal = All-nil IsLegal
  taken_is_legal flows select (Some input) legal = share_is_legal (slice_get pipes input) select (flows input) (legal input)

  module _ (does : Doing) (keeps : KeepsLegalFlows does) (bounded : AreBounded pipes) (fed : Feeding)
      (legal : (place : ℕ) (flow : Flow) → fed place ≡ Some flow → All IsLegal flow) where
    at_is_legal : (place : ℕ) (flows : ℕ → Flow) (pipe : Option Pipe) → slice_get pipes place ≡ pipe → ((place : ℕ) → All IsLegal (flows place))
        → All IsLegal (work_at does pipes fed flows place pipe).flow
    at_is_legal place flows None is all = All-nil IsLegal
    at_is_legal place flows (Some pipe) is all =
        done_is_legal does keeps place (module_kind (selected pipes place) pipe.kind) _ (bounded place pipe is)
        (fed_is_legal (fed place) _ (legal place) (taken_is_legal flows pipe.select pipe.input all))

    flow_is_legal : (steps place : ℕ) → All IsLegal (flow_within does pipes fed steps place)
    flow_is_legal zero place = All-nil IsLegal
    flow_is_legal (suc steps) place = at_is_legal place _ (slice_get pipes place) refl (flow_is_legal steps)

    pub flows_are_legal : (place : ℕ) → All IsLegal (flow_by does pipes fed place)
    flows_are_legal place = flow_is_legal (length pipes) place

    pub inputs_are_legal : (pipe : Pipe) → All IsLegal (taken_by pipes (flow_by does pipes fed) pipe)
    inputs_are_legal pipe = taken_is_legal (flow_by does pipes fed) pipe.select pipe.input flows_are_legal

pub wholly_keeps : KeepsLegalFlows wholly
wholly_keeps place kind taken within legal = ((lawful kind).flows within).legal taken legal

front_is_legal : (front rest : Flow) → All IsLegal (front ++ rest) → All IsLegal front
front_is_legal [] rest legal = All-nil IsLegal
front_is_legal (packet ∷ front) rest legal =
    All-cons IsLegal packet front (All-head IsLegal packet (front ++ rest) legal) (front_is_legal front rest (All-tail IsLegal packet (front ++ rest) legal))

pub so_far_keeps : KeepsLegalFlows so_far
so_far_keeps place kind taken within legal =
    let later = ((lawful kind).flows within).whole taken [] in
    let all : All IsLegal (output_of kind (taken ++ [])) = subst (λ (f : Flow). All IsLegal (output_of kind f)) (sym (append-nil taken)) (((lawful kind).flows within).legal taken legal) in
    front_is_legal (settled_output kind taken) later.0 (subst (All IsLegal) later.1 all)
