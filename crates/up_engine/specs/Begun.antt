-- A net while its strands are made, from the first on, and while they are given up, from the last
-- on.
use Rattle.std.specs.Prelude.{◌≡◌, ◌<◌, ◌≤◌, ℕ, List, [], ◌∷◌, ◌++◌, length, map, slice_get, slice_index_or, Bool, false, Some}
use Rattle.std.specs.List.{Contains}
use Rattle.up_engine.specs.Making.{IsBack, source_told}
use Rattle.up_engine.specs.Nets.{head_at}
use Rattle.up_engine.specs.Objects.{object_at}
use Rattle.up_engine.specs.Parts.{HasNone, KeepsOthers, sinks_at}
use Rattle.up_engine.specs.declared.finishing.Told.{Told}
use Rattle.up_engine.specs.declared.net.Net.{Net}
use Rattle.up_engine.specs.declared.object.Object.{Object}
use Rattle.up_engine.specs.declared.results.Results.{Results}
use Rattle.up_model.specs.Plans.{heads, strand_of}
use Rattle.up_model.specs.declared.outcome.Outcome.{Outcome}
use Rattle.up_model.specs.declared.pipe.Pipe.{Pipe}
use Rattle.up_model.specs.declared.plain_packet.PlainPacket.{PlainPacket}
use Rattle.up_model.specs.declared.tally.Tally.{Tally}
use Rattle.up_outside.specs.States.{SourceState, SinkState}
use Rattle.up_strand.specs.History.{History, sums_at, told_at, told_at_last}
use Rattle.up_strand.specs.StrandCalls.{begun, is_done, sinks_told}
use Rattle.up_strand.specs.Strands.{StandsFor, StrandFits, want_of}
use Rattle.up_strand.specs.declared.strand.Strand.{Strand}

-- the places of the strand of a number
abbrev pub places_at : List Pipe → ℕ → List ℕ
places_at pipes i = strand_of pipes (head_at pipes i)

module _ {S K : Type 0} (reads : S → SourceState) (writes : K → SinkState)
    (pipes : List Pipe) where
  -- the strand of a head did nothing yet, and has what stands in the table for it
  abbrev pub beginning : List (Object S K) → ℕ → History
  beginning table head =
      begun pipes head (source_told reads writes pipes (object_at table head))
      (sinks_told writes pipes head (sinks_at table (strand_of pipes head)))

  -- the objects of the strands from this number on are back, and those of the others aren't there
  pub record AreBackFrom (count : ℕ) (past : ℕ → History) (table : List (Object S K))
      : Type 0 where
    pub size : length table ≡ length pipes
    pub none : (i : ℕ) → i < count → HasNone (places_at pipes i) table
    pub back : (i place : ℕ) (pipe : Pipe) → count ≤ i → i < length (heads pipes)
        → Contains (places_at pipes i) place → slice_get pipes place ≡ Some pipe
        → IsBack reads writes pipes (past (head_at pipes i)) place pipe (object_at table place)

-- the objects of so many strands were taken out, and those of the others are as they were
pub record AreTakenOf {S K : Type 0} (pipes : List Pipe) (count : ℕ)
    (before after : List (Object S K)) : Type 0 where
  pub size : length after ≡ length before
  pub none : (i : ℕ) → i < count → HasNone (places_at pipes i) after
  pub same : (i place : ℕ) → count ≤ i → i < length (heads pipes)
      → Contains (places_at pipes i) place → object_at after place ≡ object_at before place

-- every object is the same
pub record HasSameObjects {S K : Type 0} (before after : List (Object S K)) : Type 0 where
  pub size : length after ≡ length before
  pub same : (place : ℕ) → object_at after place ≡ object_at before place

-- it is told of the strand's pipes how each ended and what it counted, where the strand was done or
-- not
pub record IsToldOf (done : Bool) (h : History) (told : Told) : Type 0 where
  pub outcomes : told.outcomes
      ≡ map (λ place. told_at_last done (told_at h place)) (strand_of h.pipes h.head)
  pub tallies : h.short ≡ false → told.tallies ≡ map (sums_at h) (strand_of h.pipes h.head)
  pub count : length told.tallies ≡ length (strand_of h.pipes h.head)

module _ {P S K : Type 0} (plain : P → PlainPacket) (reads : S → SourceState)
    (writes : K → SinkState) (pipes : List Pipe) where
  -- they are the strands of the first heads, and did this
  pub record StrandsStand (strands : List (Strand P S K)) (past : ℕ → History) : Type 0 where
    pub few : length strands ≤ length (heads pipes)
    pub stand : (i : ℕ) (d : Strand P S K) → i < length strands
        → StandsFor plain reads writes (slice_index_or strands i d) (past (head_at pipes i))
    pub graphs : (i : ℕ) → i < length strands → (past (head_at pipes i)).pipes ≡ pipes
    pub places : (i : ℕ) → i < length strands
        → (past (head_at pipes i)).head ≡ head_at pipes i

  -- the next strand was made, with what was open for it
  pub record AddsStrand (old new : Net P S K) (before after : List (Object S K)) : Type 0 where
    pub strand : Strand P S K
    pub added : new.strands.items ≡ old.strands.items ++ strand ∷ []
    pub begins : StandsFor plain reads writes strand
        (beginning reads writes pipes before (head_at pipes (length old.strands.items)))
    pub none : HasNone (places_at pipes (length old.strands.items)) after
    pub others : KeepsOthers (places_at pipes (length old.strands.items)) before after

  -- the last strand is given up, its objects are back, and what it did is told
  pub record EndsLast (old new : List (Strand P S K)) (before after : List (Object S K))
      (told : Told) : Type 0 where
    pub strand : Strand P S K
    pub last : old ≡ new ++ strand ∷ []
    pub back : (past : ℕ → History) → StrandsStand old past
        → AreBackFrom reads writes pipes (length old) past before
        → StrandsStand new past × AreBackFrom reads writes pipes (length new) past after
    pub within : length new < length (heads pipes)
    pub told_of : (past : ℕ → History) → StrandsStand old past
        → IsToldOf (is_done (want_of strand)) (past (head_at pipes (length new))) told

-- all that they hold is of the family
abbrev pub StrandsFit : {P S K F : Type 0} → List (Strand P S K) → (P → F → Type 0) → F → Type 0
StrandsFit strands fits family = (i : ℕ) (d : Strand _ _ _) → i < length strands
    → StrandFits (slice_index_or strands i d) fits family

-- how the pipes of the strands from this number on ended and what they counted
pub record AreToldFrom (pipes : List Pipe) (count : ℕ) (past : ℕ → History) (results : Results)
    : Type 0 where
  pub outcome_count : length results.outcomes.items ≡ length pipes
  pub tally_count : length results.tallies.items ≡ length pipes
  pub outcomes : (i place : ℕ) (d : Outcome) → count ≤ i → i < length (heads pipes)
      → Contains (places_at pipes i) place
      → slice_index_or results.outcomes.items place d ≡ told_at (past (head_at pipes i)) place
  pub tallies : (i place : ℕ) (d : Tally) → count ≤ i → i < length (heads pipes)
      → Contains (places_at pipes i) place → (past (head_at pipes i)).short ≡ false
      → slice_index_or results.tallies.items place d ≡ sums_at (past (head_at pipes i)) place
