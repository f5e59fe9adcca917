-- Worked examples of how sources of frames end and what they then carried, computed.
use Rattle.std.proofs.Common.{◌≡◌, ℕ, List, [], ◌∷◌, ◌++◌, Some, None, refl, sym, ap}
use Rattle.std.specs.Prelude.{codes}
use Rattle.up_model.proofs.FrameExamples.{ab, bare, two_bytes}
use Rattle.up_model.specs.Ends.{written_by}
use Rattle.up_model.specs.FrameFronts.{packet_at, content_at, attributes_at}
use Rattle.up_model.specs.Outcomes.{shown_of, outcome_of, carried_flow}
use Rattle.up_model.specs.Packet.{plain, count_with_bytes}
use Rattle.up_model.specs.declared.form.SinkForm.TheVariants as sink_forms
use Rattle.up_model.specs.declared.form.SourceForm.TheVariants.{Framed}
use Rattle.up_model.specs.declared.kind.Kind.{Kind}
use Rattle.up_model.specs.declared.kind.Kind.TheVariants.{Source}
use Rattle.up_model.specs.declared.outcome.Outcome.TheVariants.{Whole, BadFrame, TooLong}

abbrev frames : ℕ → Kind
frames limit = Source (codes "in") Framed limit

-- a frame and the first four bytes of another
abbrev cut : List ℕ
cut = ab ++ 0x46 ∷ 1 ∷ 0 ∷ 0 ∷ []

-- a frame and a byte that begins none
abbrev broken : List ℕ
broken = ab ++ 0x47 ∷ []

-- a whole frame
pub whole : (outcome_of (frames 10) ab ≡ Whole) × (shown_of (frames 10) ab ≡ None)
unfolding packet_at content_at attributes_at
whole = (refl, refl)

-- what isn't whole at the end is told by the place where it begins, and isn't shown before
pub unfinished : (outcome_of (frames 100) cut ≡ BadFrame 10) × (shown_of (frames 100) cut ≡ None)
unfolding packet_at content_at attributes_at
unfinished = (refl, refl)

-- where the limit cuts it, a byte past the limit is told
pub limited : (outcome_of (frames 13) cut ≡ TooLong 13) × (shown_of (frames 13) cut ≡ Some (TooLong 13))
unfolding packet_at content_at attributes_at
limited = (refl, refl)

-- a broken frame within the limit comes first, and one past it isn't seen
pub broken_first : (shown_of (frames 11) (broken ++ ab) ≡ Some (BadFrame 10)) × (shown_of (frames 10) (broken ++ ab) ≡ Some (TooLong 10))
unfolding packet_at content_at attributes_at
broken_first = (refl, refl)

-- in each case the whole frame was carried
abbrev carries_ab : ℕ → List ℕ → Type 0
carries_ab limit bytes = carried_flow (frames limit) bytes ≡ plain (codes "ab") ∷ []

pub carried : carries_ab 10 ab × carries_ab 100 cut × carries_ab 13 cut × carries_ab 11 broken
unfolding packet_at content_at attributes_at
carried =
    let same = ap (λ packet. packet ∷ []) (sym (bare (codes "ab"))) in
    (same, same, same, same)

-- a sink of frames spells them again
pub spelled : written_by sink_forms.Framed (plain (codes "ab") ∷ []) ≡ ab
spelled = ap (λ frame. frame ++ []) two_bytes

-- of these packets one has bytes
pub with_bytes : count_with_bytes (plain (codes "ab") ∷ plain [] ∷ []) ≡ 1
with_bytes = refl
