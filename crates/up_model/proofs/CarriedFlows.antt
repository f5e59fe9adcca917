-- What the sources of a well-formed graph carried.
use Rattle.std.proofs.Common.{◌≡◌, ℕ, List, [], ◌++◌, All, Option, Some, None, slice_get, refl}
use Rattle.std.specs.Option.{option_map_or}
use Rattle.std.proofs.lemmas.List.Elements.{All-nil}
use Rattle.up_base.specs.Lists.{IsPrefix}
use Rattle.up_model.proofs.Carried.{AreGiven, carried_is_first, carried_are_legal}
use Rattle.up_model.proofs.WellFormed.{is_pipe}
use Rattle.up_model.specs.Outcomes.{carried_as, carried_flows, source_flows}
use Rattle.up_model.specs.Packet.{IsLegal}
use Rattle.up_model.specs.WellFormed.{IsWellFormed}
use Rattle.up_model.specs.declared.outcome.Outcome.{Outcome}
use Rattle.up_model.specs.declared.outcome.Outcome.TheVariants.{Whole}
use Rattle.up_model.specs.declared.pipe.Pipe.{Pipe}

module _ (pipes : List Pipe) (well : IsWellFormed pipes) (ends : ℕ → Outcome) (bytes : ℕ → List ℕ) where
  first_at : (more : ℕ → List ℕ) → ((source : ℕ) → ends source ≡ Whole → more source ≡ []) → (place : ℕ) (pipe : Option Pipe) → slice_get pipes place ≡ pipe
      → IsPrefix (option_map_or (λ (p : Pipe). carried_as (ends place) p.kind (bytes place)) pipe [])
      (option_map_or (λ (p : Pipe). carried_as Whole p.kind (bytes place ++ more place)) pipe [])
  first_at more whole place None is = ([], refl)
  first_at more whole place (Some pipe) is =
      carried_is_first (ends place) pipe.kind (bytes place) (more place) (is_pipe pipes well place pipe is).kind (whole place)

  pub carried_flows_first : (more : ℕ → List ℕ) → ((source : ℕ) → ends source ≡ Whole → more source ≡ []) → (place : ℕ)
      → IsPrefix (carried_flows pipes ends bytes place) (source_flows pipes (λ source. bytes source ++ more source) place)
  carried_flows_first more whole place = first_at more whole place (slice_get pipes place) refl

  -- what the sources of frames are given are bytes
  abbrev AreGivenAt : ℕ → Type 0
  AreGivenAt place = (pipe : Pipe) → slice_get pipes place ≡ Some pipe → AreGiven pipe.kind (bytes place)

  legal_at : (place : ℕ) (pipe : Option Pipe) → slice_get pipes place ≡ pipe → AreGivenAt place
      → All IsLegal (option_map_or (λ (p : Pipe). carried_as (ends place) p.kind (bytes place)) pipe [])
  legal_at place None is below = All-nil IsLegal
  legal_at place (Some pipe) is below =
      carried_are_legal (ends place) pipe.kind (bytes place) (is_pipe pipes well place pipe is).kind (below pipe is)

  pub carried_flows_are_legal : (place : ℕ) → AreGivenAt place → All IsLegal (carried_flows pipes ends bytes place)
  carried_flows_are_legal place below = legal_at place (slice_get pipes place) refl below
