-- What the pipes of a graph put out grows with what its sources give, and with the end of their flows.
use Rattle.std.specs.Prelude.{unwrap_or}
use Rattle.std.proofs.Common.{◌≡◌, ℕ, zero, suc, List, [], Option, Some, None, slice_get, refl, sym, subst}
use Rattle.up_base.specs.Lists.{IsPrefix}
use Rattle.up_model.proofs.EveryKind.{lawful}
use Rattle.up_model.proofs.Shares.{share_longer}
use Rattle.up_model.specs.Kinds.{fan_out_of, IsWithinBounds, output_of, settled_output, share_of, module_kind, written_of}
use Rattle.up_model.specs.Meaning.{Doing, Feeding, IsFedMore, wholly, so_far, selected, done_by, shared, taken_from, work_at, flow_within}
use Rattle.up_model.specs.Packet.{Flow}
use Rattle.up_model.specs.declared.kind.Kind.{Kind}
use Rattle.up_model.specs.declared.kind.Kind.TheVariants.{Source}
use Rattle.up_model.specs.declared.pipe.Pipe.{Pipe}

-- what the one puts out for a flow is a prefix of what the other puts out for a longer one
abbrev pub GrowsTo : Doing → Doing → Type 0
GrowsTo less more = (place : ℕ) (kind : Kind) (a b : Flow) → IsWithinBounds kind → IsPrefix a b → IsPrefix (less place kind a).flow (more place kind b).flow

-- the kind that each pipe's module has is within its bounds
abbrev pub AreBounded : List Pipe → Type 0
AreBounded pipes = (place : ℕ) (pipe : Pipe) → slice_get pipes place ≡ Some pipe → IsWithinBounds (module_kind (selected pipes place) pipe.kind)

put_grows : (less more : Doing) → GrowsTo less more → (place : ℕ) (kind : Kind) (a b : Flow) → IsWithinBounds kind → IsPrefix a b
    → IsPrefix (done_by less place kind a).flow (done_by more place kind b).flow
put_grows less more grows place (Source path form limit) a b within takes = takes
put_grows less more grows place kind a b within takes = grows place kind a b within takes

-- the same pipes are fed, and each at least as much
abbrev pub FeedsMore : Feeding → Feeding → Type 0
FeedsMore fed fed' = (place : ℕ) → IsFedMore (fed place) (fed' place)

fed_grows : (fed fed' : Option Flow) (a b : Flow) → IsFedMore fed fed' → IsPrefix a b → IsPrefix (unwrap_or fed a) (unwrap_or fed' b)
fed_grows None None a b more takes = takes
fed_grows None (Some flow) a b more takes = absurd more
fed_grows (Some flow) None a b more takes = absurd more
fed_grows (Some flow) (Some flow') a b more takes = more

share_grows : (input : Option Pipe) (select : Option ℕ) (a b : Flow) → IsPrefix a b → IsPrefix (shared input select a) (shared input select b)
share_grows None select a b longer = ([], refl)
share_grows (Some input) select a b longer =
    subst (λ (f : Flow). IsPrefix (share_of input.kind select a) (share_of input.kind select f)) (sym longer.1)
    (share_longer (fan_out_of input.kind) select a longer.0)

module _ (pipes : List Pipe) where
  pub taken_grows : (flows flows' : ℕ → Flow) (select input : Option ℕ) → ((place : ℕ) → IsPrefix (flows place) (flows' place))
      → IsPrefix (taken_from pipes flows select input) (taken_from pipes flows' select input)
  taken_grows flows flows' select None longer = ([], refl)
  taken_grows flows flows' select (Some input) longer = share_grows (slice_get pipes input) select _ _ (longer input)

  module _ (less more : Doing) (grows : GrowsTo less more) (bounded : AreBounded pipes)
      (fed fed' : Feeding) (feeds : FeedsMore fed fed') where
    at_grows : (place : ℕ) (flows flows' : ℕ → Flow) (pipe : Option Pipe) → slice_get pipes place ≡ pipe
        → ((place : ℕ) → IsPrefix (flows place) (flows' place))
        → IsPrefix (work_at less pipes fed flows place pipe).flow (work_at more pipes fed' flows' place pipe).flow
    at_grows place flows flows' None is longer = ([], refl)
    at_grows place flows flows' (Some pipe) is longer =
        put_grows less more grows place (module_kind (selected pipes place) pipe.kind) _ _ (bounded place pipe is)
        (fed_grows (fed place) (fed' place) _ _ (feeds place) (taken_grows flows flows' pipe.select pipe.input longer))

    -- whatever is fed longer comes out longer, by induction along inputs
    pub flows_grow : (steps place : ℕ) → IsPrefix (flow_within less pipes fed steps place) (flow_within more pipes fed' steps place)
    flows_grow zero place = ([], refl)
    flows_grow (suc steps) place = at_grows place _ _ (slice_get pipes place) refl (flows_grow steps)

-- what a sink writes goes on with what it takes
pub written_grows : (kind : Kind) (a b : Flow) → IsWithinBounds kind → IsPrefix a b → IsPrefix (written_of kind a) (written_of kind b)
written_grows kind a b within longer =
    subst (λ (f : Flow). IsPrefix (written_of kind a) (written_of kind f)) (sym longer.1) (((lawful kind).flows within).writes_on a longer.0)

-- so what is settled grows as more is given
pub so_far-grows : GrowsTo so_far so_far
so_far-grows place kind a b within longer =
    subst (λ (f : Flow). IsPrefix (settled_output kind a) (settled_output kind f)) (sym longer.1) (((lawful kind).flows within).longer a longer.0)

-- and it is a prefix of what comes of the whole flow
pub so_far-wholly : GrowsTo so_far wholly
so_far-wholly place kind a b within longer =
    subst (λ (f : Flow). IsPrefix (settled_output kind a) (output_of kind f)) (sym longer.1) (((lawful kind).flows within).whole a longer.0)
