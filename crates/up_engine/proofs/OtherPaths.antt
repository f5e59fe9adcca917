-- The paths that calls of a depot leave alone.
use Rattle.std.proofs.Common.{◌≡◌, ℕ, ◌+◌, ◌<◌, ◌≤◌, List, length, take, drop, get_or, true, false, Option, Some, None, IfSome, slice_get, refl, sym, ap, ◌∙◌, arith}
use Rattle.std.proofs.lemmas.Bool.{true≢false}
use Rattle.std.proofs.lemmas.List.{get_or-drop, get_or-take, get_or_default, length-drop, length-take}
use Rattle.std.proofs.lemmas.Option.{same_Some}
use Rattle.std.specs.List.{Contains}
use Rattle.up_engine.proofs.PathPlaces.{path_places_apart}
use Rattle.up_engine.specs.Entries.{IsNoSinkPath, KeepsOtherPaths, KeepsPathsBut, KeepsPathsOf, path_places}
use Rattle.up_engine.specs.Objects.{IsFresh, IsOfKind, KeepsButSink}
use Rattle.up_engine.specs.declared.object.Object.{Object}
use Rattle.up_engine.specs.declared.object.Object.TheVariants as objects
use Rattle.up_engine.specs.Parts.{AreApart}
use Rattle.up_model.proofs.WellFormed.{paths_differ}
use Rattle.up_model.specs.Ends.{is_sink, is_source, path_of}
use Rattle.up_model.specs.Inputs.{passes_at}
use Rattle.up_model.specs.Plans.{ends_at_sink}
use Rattle.up_model.specs.WellFormed.{IsWellFormed}
use Rattle.up_model.specs.declared.kind.Kind.{Kind}
use Rattle.up_model.specs.declared.kind.Kind.TheVariants.{Source}
use Rattle.up_model.specs.declared.pipe.Pipe.{Pipe}
use Rattle.up_outside.specs.Held.{Held}
use Rattle.up_outside.specs.States.{SourceState, SinkState}
use Rattle.up_outside.specs.Told.{Then}

pub sink_no_source : (kind : Kind) → is_sink kind ≡ true → is_source kind ≡ false
sink_no_source (Source path form limit) sink = absurd (cc)
sink_no_source kind sink = refl

pub sink_passes : (pipes : List Pipe) (place : ℕ) (pipe : Pipe) → slice_get pipes place ≡ Some pipe → is_sink pipe.kind ≡ true
    → passes_at ends_at_sink pipes place ≡ true
sink_passes pipes place pipe there sink = rw there sink

-- what is so of the value that was told, by what is so of the one that came of it
pub told_back : {X : Type 0} (P Q : X → Type 0) (R : X → X → Type 0) (a b : Option X) → ((x y : X) → R x y → P y → Q x)
    → Then R a b → IfSome b P → IfSome a Q
told_back P Q R None b back change is = tt
told_back P Q R (Some x) None back change is = absurd change
told_back P Q R (Some x) (Some y) back change is = back x y change is

-- what is among the first of a list is among more of them, and isn't among the others
among_more : (xs : List ℕ) (n m x : ℕ) → n ≤ m → Contains (take n xs) x → Contains (take m xs) x
among_more xs n m x more there =
    let i = there.0 in
    let within = there.1 in
    let long = length-take n xs in
    let longer = length-take m xs in
    (i, omega (arith, within, long, longer, more), get_or-take m xs i x (omega (arith, within, long, more)) ∙ sym (get_or-take n xs i x (omega (arith, within, long))) ∙ there.2)

not_behind : (xs : List ℕ) (n x y : ℕ) → AreApart xs → Contains (take n xs) x → Contains (drop n xs) y → x ≡ y → ⊥
not_behind xs n x y apart first behind same =
    let i = first.0 in
    let j = behind.0 in
    let within = first.1 in
    let long = length-take n xs in
    let less : i < n = omega (arith, within, long) in
    let inside : i < length xs = omega (arith, within, long) in
    let later = behind.1 in
    let rest = length-drop n xs in
    let inside_later : n + j < length xs = omega (arith, later, rest) in
    let one : get_or xs i 0 ≡ x = get_or_default xs i 0 x inside ∙ sym (get_or-take n xs i x less) ∙ first.2 in
    let other : get_or xs (n + j) 0 ≡ y = get_or_default xs (n + j) 0 y inside_later ∙ sym (get_or-drop n xs j y) ∙ behind.2 in
    let no : i ≡ n + j = apart i (n + j) inside inside_later (one ∙ same ∙ sym other) in
    omega (arith, less, no)

module _ (pipes : List Pipe) where
  -- what is left alone but for some sinks' paths is so but for more, and but for all
  pub keeps_but_more : (n m : ℕ) → n ≤ m → (x y : Held) → KeepsPathsBut pipes (take n (path_places pipes)) x y
      → KeepsPathsBut pipes (take m (path_places pipes)) x y
  keeps_but_more n m more x y kept path free =
      kept path (λ place pipe among. free place pipe (among_more (path_places pipes) n m place more among))

  pub keeps_others : (some : List ℕ) (x y : Held) → KeepsPathsBut pipes some x y → KeepsOtherPaths pipes x y
  keeps_others some x y kept path free = kept path (λ place pipe among. free place pipe)

  -- no other pipe has the path of a sink, so the paths behind the first so many are left alone
  pub keeps_behind : IsWellFormed pipes → (n : ℕ) (x y : Held) → KeepsPathsBut pipes (take n (path_places pipes)) x y
      → KeepsPathsOf pipes (drop n (path_places pipes)) x y
  keeps_behind well n x y kept place pipe path behind there of =
      kept path (λ other sink first there_sink passes of_sink.
      let is = rw there_sink at passes in
      not_behind (path_places pipes) n other place (path_places_apart pipes) first behind
      (paths_differ pipes well other place sink pipe path there_sink there of_sink of (sink_no_source sink.kind is)))

module _ (pipes : List Pipe) (place : ℕ) (pipe : Pipe) (there : slice_get pipes place ≡ Some pipe) where
  -- what one pipe's call leaves alone, after what those before it did
  pub keeps_next : (count : ℕ) → count < length (path_places pipes) → get_or (path_places pipes) count 0 ≡ place → (x y z : Held)
      → KeepsPathsBut pipes (take count (path_places pipes)) x y → KeepsButSink pipe.kind y z → KeepsPathsBut pipes (take (count + 1) (path_places pipes)) x z
  keeps_next count within next x y z kept keeps path free =
      let long = length-take (count + 1) (path_places pipes) in
      let among : Contains (take (count + 1) (path_places pipes)) place = (
        count,
        omega (arith, within, long),
        get_or-take (count + 1) (path_places pipes) count place (omega arith) ∙ get_or_default (path_places pipes) count place 0 within ∙ next,
      ) in
      keeps path (λ sink. free place pipe among there (sink_passes pipes place pipe there sink))
      ∙ keeps_but_more pipes count (count + 1) (omega arith) x y kept path free

  module _ (well : IsWellFormed pipes) where
    -- no sink has the path of a source
    source_path_free : (path : List ℕ) → is_source pipe.kind ≡ true → path_of pipe.kind ≡ Some path → IsNoSinkPath pipes path
    source_path_free path source of other sink there_sink passes of_sink =
        let is = rw there_sink at passes in
        let same = paths_differ pipes well other place sink pipe path there_sink there of_sink of (sink_no_source sink.kind is) in
        let one : sink ≡ pipe = same_Some sink pipe (sym there_sink ∙ ap (slice_get pipes) same ∙ there) in
        true≢false (sym source ∙ ap (λ (p : Pipe). is_source p.kind) (sym one) ∙ sink_no_source sink.kind is)

    module _ {S K : Type 0} (reads : S → SourceState) (writes : K → SinkState) where
      -- what was just opened is as fresh before what other sinks' opens did
      pub fresh_before : (before after : Held) (object : Object S K) → IsOfKind pipe.kind object → KeepsOtherPaths pipes before after
          → IsFresh reads writes after pipe.kind object → IsFresh reads writes before pipe.kind object
      fresh_before before after objects.None side kept fresh = tt
      fresh_before before after (objects.Source s) side kept fresh = λ path of.
          let opens = fresh path of in
          record { bytes = opens.bytes; at_path = sym (kept path (source_path_free path side of)) ∙ opens.at_path; told = opens.told }
      fresh_before before after (objects.Sink k) side kept fresh = fresh
