-- A graph is fed at its sources.
use Rattle.std.proofs.Common.{◌≡◌, ℕ, zero, suc, Bool, true, false, cond, List, All, Option, Some, None, slice_get, length, refl, sym, ap, ◌∙◌, subst}
use Rattle.std.specs.Prelude.{option_and_then}
use Rattle.std.specs.Option.{is_some, option_map_or}
use Rattle.up_base.specs.Lists.{IsPrefix}
use Rattle.up_model.specs.Ends.{is_source}
use Rattle.up_model.specs.Inputs.{passes_at, reached_within, reached, ends_at_source, source_of}
use Rattle.up_model.specs.Meaning.{is_fed_by, IsFedMore, to_sources}
use Rattle.up_model.specs.Packet.{Flow, IsLegal}
use Rattle.up_model.specs.declared.pipe.Pipe.{Pipe}

more_if : (b : Bool) (flow more : Flow) → IsPrefix flow more → IsFedMore (cond b (Some flow) None) (cond b (Some more) None)
more_if true flow more longer = longer
more_if false flow more longer = tt

some_if : (b : Bool) (flow : Flow) → is_some (cond b (Some flow) None) ≡ b
some_if true flow = refl
some_if false flow = refl

legal_if : (b : Bool) (flow fed : Flow) → cond b (Some flow) None ≡ Some fed → All IsLegal flow → All IsLegal fed
legal_if true flow fed is legal = subst (λ (f : Flow). All IsLegal f) (same flow fed is) legal
  where
    same : (a b : Flow) → Some a ≡ Some b → a ≡ b
    same a b is = cc
legal_if false flow fed is legal = absurd (cc)

on_input : (a b : ℕ → Option ℕ) (input : Option ℕ) → ((place : ℕ) → a place ≡ b place) → option_and_then a input ≡ option_and_then b input
on_input a b None same = refl
on_input a b (Some place) same = same place

module _ (pipes : List Pipe) where
  pub sources_more : (given more : ℕ → Flow) → ((source : ℕ) → IsPrefix (given source) (more source)) → (place : ℕ)
      → IsFedMore (to_sources pipes given place) (to_sources pipes more place)
  sources_more given more longer place = more_if (passes_at ends_at_source pipes place) (given place) (more place) (longer place)

  pub sources_legal : (given : ℕ → Flow) → ((source : ℕ) → All IsLegal (given source)) → (place : ℕ) (flow : Flow)
      → to_sources pipes given place ≡ Some flow → All IsLegal flow
  sources_legal given legal place flow is = legal_if (passes_at ends_at_source pipes place) (given place) flow is (legal place)

  pub some_source : (given : ℕ → Flow) (place : ℕ) → is_some (to_sources pipes given place) ≡ passes_at ends_at_source pipes place
  some_source given place = some_if (passes_at ends_at_source pipes place) (given place)

  pub fed_source : (given : ℕ → Flow) (place : ℕ) (pipe : Pipe) → slice_get pipes place ≡ Some pipe → is_source pipe.kind ≡ true → to_sources pipes given place ≡ Some (given place)
  fed_source given place pipe at is =
      let passes : passes_at ends_at_source pipes place ≡ true = ap (λ (p : Option Pipe). option_map_or (λ (pipe : Pipe). is_source pipe.kind) p false) at ∙ is in
      ap (λ b. cond b (Some (given place)) None) passes

  pub unfed : (given : ℕ → Flow) (place : ℕ) (pipe : Pipe) → slice_get pipes place ≡ Some pipe → is_source pipe.kind ≡ false → to_sources pipes given place ≡ None
  unfed given place pipe at is =
      let fails : passes_at ends_at_source pipes place ≡ false = ap (λ (p : Option Pipe). option_map_or (λ (pipe : Pipe). is_source pipe.kind) p false) at ∙ is in
      ap (λ b. cond b (Some (given place)) None) fails

  -- whoever isn't fed of the one isn't of the other, and what carries the same is fed the same
  pub unfed_both : (given other : ℕ → Flow) (place : ℕ) → is_some (to_sources pipes given place) ≡ false → to_sources pipes other place ≡ to_sources pipes given place
  unfed_both given other place none =
      let fails : passes_at ends_at_source pipes place ≡ false = sym (some_source given place) ∙ none in
      ap (λ b. cond b (Some (other place)) None) fails ∙ sym (ap (λ b. cond b (Some (given place)) None) fails)

  pub fed_alike_at : (given other : ℕ → Flow) (place : ℕ) → other place ≡ given place → to_sources pipes other place ≡ to_sources pipes given place
  fed_alike_at given other place same = ap (λ flow. cond (passes_at ends_at_source pipes place) (Some flow) None) same

  module _ (given : ℕ → Flow) where
    at_pipe : (steps place : ℕ) (pipe : Option Pipe) → slice_get pipes place ≡ pipe
        → ((p : ℕ) → reached_within steps (is_fed_by (to_sources pipes given)) pipes p ≡ reached_within steps ends_at_source pipes p)
        → option_and_then (λ (p : Pipe). cond (is_some (to_sources pipes given place)) (Some place) (option_and_then (reached_within steps (is_fed_by (to_sources pipes given)) pipes) p.input)) pipe
        ≡ option_and_then (λ (p : Pipe). cond (is_source p.kind) (Some place) (option_and_then (reached_within steps ends_at_source pipes) p.input)) pipe
    at_pipe steps place None at same = refl
    at_pipe steps place (Some pipe) at same =
        let source : is_some (to_sources pipes given place) ≡ is_source pipe.kind =
        some_source given place ∙ ap (λ (p : Option Pipe). option_map_or (λ (pipe : Pipe). is_source pipe.kind) p false) at in
        ap (λ b. cond b (Some place) (option_and_then (reached_within steps (is_fed_by (to_sources pipes given)) pipes) pipe.input)) source
        ∙ ap (cond (is_source pipe.kind) (Some place)) (on_input _ _ pipe.input same)

    fed_within : (steps place : ℕ) → reached_within steps (is_fed_by (to_sources pipes given)) pipes place ≡ reached_within steps ends_at_source pipes place
    fed_within zero place = refl
    fed_within (suc steps) place = at_pipe steps place (slice_get pipes place) refl (fed_within steps)

    -- what is fed is reached where the source is
    pub fed_reached : (place : ℕ) → reached (is_fed_by (to_sources pipes given)) pipes place ≡ source_of pipes place
    fed_reached place = fed_within (length pipes) place
