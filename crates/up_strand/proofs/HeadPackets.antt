-- A source that goes on put out packets that its bytes hold whatever comes behind them, and no more than bytes.
use Rattle.std.proofs.Common.{◌≡◌, ℕ, ◌+◌, ◌≤◌, List, [], ◌++◌, length, take, drop, true, Option, Some, None, slice_get, refl, sym, ap, ◌∙◌, subst, append-nil, append_assoc, arith, length-append}
use Rattle.std.proofs.lemmas.List.{take-append-drop}
use Rattle.std.proofs.lemmas.Option.{same_Some}
use Rattle.up_base.specs.Lists.{IsPrefix}
use Rattle.up_model.proofs.Carried.{few_carried, few_settled}
use Rattle.up_model.proofs.FrameMoreBytes.{frames_first}
use Rattle.up_model.proofs.WellFormed.{is_pipe}
use Rattle.up_model.specs.Ends.{is_source}
use Rattle.up_model.specs.FrameStreams.{whole_frames}
use Rattle.up_model.specs.Kinds.{IsWithinBounds}
use Rattle.up_model.specs.Outcomes.{settled_source_flow}
use Rattle.up_model.specs.WellFormed.{IsWellFormed}
use Rattle.up_model.specs.declared.form.SourceForm.{SourceForm}
use Rattle.up_model.specs.declared.form.SourceForm.TheVariants.{Raw, Framed}
use Rattle.up_model.specs.declared.kind.Kind.{Kind}
use Rattle.up_model.specs.declared.kind.Kind.TheVariants as kinds
use Rattle.up_model.specs.declared.outcome.Outcome.{Outcome}
use Rattle.up_model.specs.declared.pipe.Pipe.{Pipe}
use Rattle.up_outside.specs.States.{SourceState}
use Rattle.up_strand.proofs.HeadFlows.{no_source}
use Rattle.up_strand.specs.History.{History, carried_by, head_flow}
use Rattle.up_strand.specs.Strands.{IntakeStands, IsReading}
use Rattle.up_strand.specs.declared.intake.Intake.{Intake}
use Rattle.up_strand.specs.declared.intake.Intake.TheVariants.{FromSource, FromFrames, FromLane}

pub prefix_of_prefix : {X : Type 0} (a b c : List X) → IsPrefix a b → IsPrefix b c → IsPrefix a c
prefix_of_prefix a b c first then = (first.0 ++ then.0, then.1 ∙ ap (λ l. l ++ then.0) first.1 ∙ append_assoc a first.0 then.0)

short_prefix : {X : Type 0} (a b : List X) → IsPrefix a b → length a ≤ length b
short_prefix a b first = omega (arith, ap length first.1, length-append a first.0)

-- the whole frames within a limit come first of all
pub frames_within : (limit : ℕ) (bytes : List ℕ) → IsPrefix (whole_frames (take limit bytes)) (whole_frames bytes)
frames_within limit bytes =
    subst (λ (all : List ℕ). IsPrefix (whole_frames (take limit bytes)) (whole_frames all)) (take-append-drop limit bytes)
    (frames_first (take limit bytes) (drop limit bytes))

module _ {S : Type 0} (reads : S → SourceState) where
  as_kind : (now : SourceState) (form : SourceForm) (limit : ℕ) (h : History) (pipe : Pipe) → IsReading now form limit h → slice_get h.pipes h.head ≡ Some pipe
      → IsPrefix h.fed (settled_source_flow (kinds.Source [] form limit) h.read) → IsPrefix h.fed (settled_source_flow pipe.kind h.read)
  as_kind now form limit h pipe reading there first =
      let same : reading.pipe ≡ pipe = same_Some reading.pipe pipe (sym reading.there ∙ there) in
      let kind : pipe.kind ≡ kinds.Source reading.path form limit = ap (λ (p : Pipe). p.kind) (sym same) ∙ reading.kind in
      subst (λ (k : Kind). IsPrefix h.fed (settled_source_flow k h.read)) (sym kind) first

  pub settled_first : (intake : Intake S) (h : History) (pipe : Pipe) → IntakeStands reads intake h → slice_get h.pipes h.head ≡ Some pipe
      → is_source pipe.kind ≡ true → h.ended ≡ None → IsPrefix h.fed (settled_source_flow pipe.kind h.read)
  settled_first (FromSource source block limit left) h pipe cutting there source_is going =
      as_kind (reads source) (Raw block) limit h pipe cutting.reading there ([], sym (cutting.put going) ∙ sym (append-nil h.fed))
  settled_first (FromFrames frames) h pipe unframing there source_is going =
      let stood = (unframing.stands going).reader in
      as_kind (reads frames.source) Framed frames.limit h pipe unframing.reading there
      (prefix_of_prefix h.fed (whole_frames (take frames.limit h.read)) (whole_frames h.read) (stood.waiting, stood.whole) (frames_within frames.limit h.read))
  settled_first FromLane h pipe behind there source_is going = absurd (no_source h pipe behind there source_is)

  few_by : (h : History) (kind : Kind) (ended : Option Outcome) (well : IsWithinBounds kind) → h.ended ≡ ended
      → IsPrefix h.fed (carried_by ended h.fed kind h.read) → (h.ended ≡ None → IsPrefix h.fed (settled_source_flow kind h.read)) → length h.fed ≤ length h.read
  few_by h kind None within is first settled =
      omega (arith, short_prefix h.fed (settled_source_flow kind h.read) (settled is), few_settled kind h.read)
  few_by h kind (Some ended) within is first settled =
      omega (arith, short_prefix h.fed (carried_by (Some ended) h.fed kind h.read) first, few_carried ended kind h.read within)

  -- all blocks that the bytes of a raw source fill
  pub blocks_all : (intake : Intake S) (h : History) (pipe : Pipe) (path : List ℕ) (size most : ℕ) → IntakeStands reads intake h → slice_get h.pipes h.head ≡ Some pipe
      → pipe.kind ≡ kinds.Source path (Raw size) most → h.ended ≡ None → h.fed ≡ settled_source_flow pipe.kind h.read
  blocks_all (FromSource source block limit left) h pipe path size most cutting there kind going =
      let same : cutting.reading.pipe ≡ pipe = same_Some cutting.reading.pipe pipe (sym cutting.reading.there ∙ there) in
      let kind_is : pipe.kind ≡ kinds.Source cutting.reading.path (Raw block) limit = ap (λ (p : Pipe). p.kind) (sym same) ∙ cutting.reading.kind in
      cutting.put going ∙ ap (λ (k : Kind). settled_source_flow k h.read) (sym kind_is)
  blocks_all (FromFrames frames) h pipe path size most unframing there kind going =
      let same : unframing.reading.pipe ≡ pipe = same_Some unframing.reading.pipe pipe (sym unframing.reading.there ∙ there) in
      let kind_is : pipe.kind ≡ kinds.Source unframing.reading.path Framed frames.limit = ap (λ (p : Pipe). p.kind) (sym same) ∙ unframing.reading.kind in
      absurd (let wrong : kinds.Source path (Raw size) most ≡ kinds.Source unframing.reading.path Framed frames.limit = sym kind ∙ kind_is in cc)
  blocks_all FromLane h pipe path size most behind there kind going = absurd (no_source h pipe behind there (ap is_source kind))

  -- no more packets than bytes
  pub few_fed : (intake : Intake S) (h : History) (pipe : Pipe) → IsWellFormed h.pipes → IntakeStands reads intake h
      → IsPrefix h.fed (head_flow h) → slice_get h.pipes h.head ≡ Some pipe → is_source pipe.kind ≡ true → length h.fed ≤ length h.read
  few_fed intake h pipe well stands first there source_is =
      let flow : head_flow h ≡ carried_by h.ended h.fed pipe.kind h.read = rw (there, source_is) refl in
      few_by h pipe.kind h.ended (is_pipe h.pipes well h.head pipe there).kind refl (subst (IsPrefix h.fed) flow first)
      (λ going. settled_first intake h pipe stands there source_is going)
