-- What lies at the paths of a graph once all is closed, by what was opened there and what was carried in between.
use Rattle.std.specs.Io.KnownBytes.{Appends}
use Rattle.std.proofs.Common.{◌≡◌, ℕ, ◌+◌, List, [], take, drop, true, false, Option, Some, None, IfSome, slice_get, refl, sym, ap, ◌∙◌, arith}
use Rattle.std.specs.FinMap.{get}
use Rattle.up_engine.proofs.LeftOpen.{LeftOpen}
use Rattle.up_engine.proofs.OtherPaths.{keeps_behind, keeps_but_more, keeps_others, sink_passes}
use Rattle.up_engine.proofs.PathObjects.{HasOpened, sink_pipe, source_pipe}
use Rattle.up_engine.specs.Entries.{KeepsOtherPaths, KeepsPathsBut, KeepsPathsOf, path_places}
use Rattle.up_engine.specs.Objects.{Closes, IsFresh, IsStored, Opens, object_at}
use Rattle.up_engine.specs.Runs.{held_bytes}
use Rattle.up_engine.specs.declared.object.Object.{Object}
use Rattle.up_engine.specs.declared.object.Object.TheVariants as objects
use Rattle.up_engine.specs.declared.opening.Opening.{Opening}
use Rattle.up_model.specs.Ends.{is_sink, is_source, path_of}
use Rattle.up_model.specs.Inputs.{passes_at}
use Rattle.up_model.specs.Plans.{ends_at_sink}
use Rattle.up_model.specs.WellFormed.{IsWellFormed}
use Rattle.up_model.specs.declared.kind.Kind.{Kind}
use Rattle.up_model.specs.declared.kind.Kind.TheVariants.{Source}
use Rattle.up_model.specs.declared.outcome.Outcome.{Outcome}
use Rattle.up_model.specs.declared.pipe.Pipe.{Pipe}
use Rattle.up_outside.proofs.Told.{Then-map, Then-trans, always}
use Rattle.up_outside.specs.Held.{Held}
use Rattle.up_outside.specs.States.{DepotState, SourceState, SinkState}
use Rattle.up_outside.specs.Told.{Then}

-- what is so of a told value is so in other words
pub told_more : {X : Type 0} (P Q : X → Type 0) (a : Option X) → ((x : X) → P x → Q x) → IfSome a P → IfSome a Q
told_more P Q None more is = tt
told_more P Q (Some x) more is = more x is

-- what an empty sink was given is all that it has
all_written : (a b : Option (List ℕ)) (put : List ℕ) → a ≡ Some [] → Appends a b put → b ≡ Some put
all_written a None put empty appended = absurd (rw empty at appended)
all_written a (Some written) put empty appended = ap Some (rw empty at appended)

source_path : (kind : Kind) → is_source kind ≡ true → (path : List ℕ) × (path_of kind ≡ Some path)
source_path (Source path form limit) is = (path, refl)
source_path kind is = absurd (cc)

module _ {S K : Type 0} (reads : S → SourceState) (writes : K → SinkState) where
  -- what a fresh sink was given lies at its path
  pub given_lies : (before after : Held) (kind : Kind) (object object' : Object S K) (old new : K) (put path : List ℕ) → object ≡ objects.Sink old
      → object' ≡ objects.Sink new → IsFresh reads writes before kind object → IsStored reads writes after kind object'
      → Appends (writes old).written (writes new).written put → path_of kind ≡ Some path → get after path ≡ Some put
  given_lies before after kind object object' old new put path is is_now fresh stored appended of =
      let empty : (writes old).written ≡ Some [] = rw is at fresh in
      let lies : IsStored reads writes after kind (objects.Sink new) = rw is_now at stored in
      let all : (writes new).written ≡ Some put = all_written (writes old).written (writes new).written put empty appended in
      (rw all at lies) path of

module _ {S K : Type 0} (reads : S → SourceState) (writes : K → SinkState) (pipes : List Pipe) (old mid new : DepotState) (opening : Opening)
    (opened left closed : List (Object S K)) (ends ends_closed : List Outcome)
    (opens : Opens reads writes pipes old mid opened opening)
    (stands : LeftOpen reads writes pipes opens.count opened left)
    (closes : Closes reads writes pipes opens.count mid new left closed ends ends_closed) where
  -- a refused close is of a sink that was opened
  pub refused_sink : (place : ℕ) → closes.refused place ≡ true → (has : HasOpened pipes opens.count place) × (is_sink has.pipe.kind ≡ true)
  refused_sink place is =
      let sink = closes.refused_sinks place is in
      sink_pipe reads writes pipes opens.count left stands.there place sink.0 sink.1

  pub refused_passes : (place : ℕ) → closes.refused place ≡ true → passes_at ends_at_sink pipes place ≡ true
  refused_passes place is = let has = refused_sink place is in sink_passes pipes place has.0.pipe has.0.there has.1

  -- every path that is no sink's has what it had, and so has each that no open was asked for
  kept_closed : Then (KeepsPathsBut pipes (take (opens.count + 1) (path_places pipes))) old.held new.held
  kept_closed =
      Then-trans (KeepsPathsBut pipes (take (opens.count + 1) (path_places pipes))) (KeepsPathsBut pipes (take opens.count (path_places pipes)))
      (KeepsPathsBut pipes (take (opens.count + 1) (path_places pipes))) old.held mid.held new.held
      (λ x y z one two path free. keeps_but_more pipes opens.count (opens.count + 1) (omega arith) y z two path free ∙ one path free) opens.others closes.others

  pub others_closed : Then (KeepsOtherPaths pipes) old.held new.held
  others_closed =
      Then-map (λ _. Unit {0}) (KeepsPathsBut pipes (take (opens.count + 1) (path_places pipes))) (KeepsOtherPaths pipes) old.held new.held
      (λ x y _ kept. keeps_others pipes (take (opens.count + 1) (path_places pipes)) x y kept) (always old.held) kept_closed

  pub untouched_closed : IsWellFormed pipes → Then (KeepsPathsOf pipes (drop (opens.count + 1) (path_places pipes))) old.held new.held
  untouched_closed well =
      Then-map (λ _. Unit {0}) (KeepsPathsBut pipes (take (opens.count + 1) (path_places pipes)))
      (KeepsPathsOf pipes (drop (opens.count + 1) (path_places pipes))) old.held new.held
      (λ x y _ kept. keeps_behind pipes well (opens.count + 1) x y kept) (always old.held) kept_closed

  -- what was opened was fresh, and what was closed is stored
  abbrev pub AllFresh : Held → Type 0
  AllFresh held = (place : ℕ) (pipe : Pipe) → slice_get pipes place ≡ Some pipe → IsFresh reads writes held pipe.kind (object_at opened place)

  abbrev pub AllStored : Held → Type 0
  AllStored held = (place : ℕ) (pipe : Pipe) → slice_get pipes place ≡ Some pipe → closes.refused place ≡ false
      → IsStored reads writes held pipe.kind (object_at left place)

  pub stored_closed : Then (λ before after. AllFresh before × AllStored after) old.held new.held
  stored_closed =
      Then-trans (λ before now. AllFresh before) (λ now after. AllStored after) (λ before after. AllFresh before × AllStored after) old.held mid.held new.held
      (λ x y z fresh stored. (fresh, stored))
      (Then-map AllFresh (KeepsPathsBut pipes (take (opens.count + 1) (path_places pipes))) (λ before now. AllFresh before) old.held mid.held (λ x y fresh kept. fresh) opens.fresh.bytes opens.others)
      closes.stored

  -- what was left of a source is what lay at its path
  pub left_held : (held : Held) → AllFresh held → (source : ℕ) (s : S) → object_at opened source ≡ objects.Source s
      → (reads s).left ≡ Some (held_bytes held pipes source)
  left_held held fresh source s is =
      let has = source_pipe reads writes pipes opens.count opened opens.there source s is in
      let of = source_path has.0.pipe.kind has.1 in
      let lies : IsFresh reads writes held has.0.pipe.kind (objects.Source s) = rw is at (fresh source has.0.pipe has.0.there) in
      let at = lies of.0 of.1 in
      let same : held_bytes held pipes source ≡ at.bytes = rw (has.0.there, of.1, at.at_path) refl in
      at.told ∙ ap Some (sym same)
