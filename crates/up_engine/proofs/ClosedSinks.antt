-- A sink that was closed.
use Rattle.std.proofs.Common.{◌≡◌, ℕ, List, true, Option, Some, None, IfSome, Result, Ok, Err, cond, refl, sym, ap, ◌∙◌}
use Rattle.std.specs.Cmp.{eq_by_cmp_equiv}
use Rattle.std.specs.Cmp.Lexicographic.{nat_list_cmp_total}
use Rattle.std.specs.FinMap.{get, insert, get-insert}
use Rattle.std.specs.Result.{OnOk, is_err}
use Rattle.up_base.specs.declared.refusal.Failed.{Failed}
use Rattle.up_engine.specs.Objects.{ClosesOne}
use Rattle.up_engine.specs.declared.object.Object.TheVariants as objects
use Rattle.up_model.specs.declared.form.SinkForm.{SinkForm}
use Rattle.up_model.specs.declared.kind.Kind.TheVariants as kinds
use Rattle.up_outside.proofs.Told.{Then-map, always}
use Rattle.up_outside.specs.Asked.{sink_ending}
use Rattle.up_outside.specs.DepotCalls.{IsClosed}
use Rattle.up_outside.specs.Held.{Held, KeepsOthers}
use Rattle.up_outside.specs.States.{DepotState, SourceState, SinkState}
use Rattle.up_outside.specs.Told.{Then}
use Rattle.up_outside.specs.declared.asked.Side.TheVariants as sides

module _ (path : List ℕ) where
  -- the path of a sink as one of a kind
  abbrev LiesAt : List ℕ → Held → Type 0
  LiesAt bytes held = (p : List ℕ) → Some path ≡ Some p → get held p ≡ Some bytes

  inserted : (held : Held) (bytes : List ℕ) → get (insert held path bytes) path ≡ Some bytes
  inserted held bytes =
      get-insert nat_list_cmp_total held path bytes path
      ∙ ap (λ b. cond b (Some bytes) (get held path)) ((eq_by_cmp_equiv nat_list_cmp_total).refl path)

  lies_there : (before after : Held) (bytes : List ℕ) → Some after ≡ Some (insert before path bytes) → LiesAt bytes after
  lies_there before after bytes is p same =
      let one : after ≡ insert before path bytes = cc in
      let here : path ≡ p = cc in
      ap (get after) (sym here) ∙ ap (λ (held : Held). get held path) one ∙ inserted before bytes

  lies_told : (a b : Option Held) (written : Option (List ℕ)) → Then (KeepsOthers path) a b
      → IfSome a (λ held. IfSome written (λ bytes. b ≡ Some (insert held path bytes)))
      → Then (λ before after. IfSome written (λ bytes. LiesAt bytes after)) a b
  lies_told None b written both stored = both
  lies_told (Some x) None written both stored = both
  lies_told (Some x) (Some y) None both stored = tt
  lies_told (Some x) (Some y) (Some bytes) both stored = lies_there x y bytes stored

module _ {S K : Type 0} (reads : S → SourceState) (writes : K → SinkState) (path : List ℕ) (form : SinkForm) (sink : K) (old new : DepotState)
    (held : Then (KeepsOthers path) old.held new.held) where
  others_kept : Then (λ before after. (p : List ℕ) → (true ≡ true → Some path ≡ Some p → ⊥) → get after p ≡ get before p) old.held new.held
  others_kept = Then-map (λ _. Unit {0}) (KeepsOthers path) _ old.held new.held
      (λ x y _ kept p other. kept p (λ same. other refl (ap Some (sym same)))) (always old.held) held

  pub closes_sink : (result : Result (Unit {0}) Failed) → IsClosed old new sides.Sink (sink_ending (writes sink) result)
      → OnOk result (IfSome old.held (λ held. IfSome (writes sink).written (λ bytes. new.held ≡ Some (insert held path bytes))))
      → ClosesOne reads writes (kinds.Sink path form) (objects.Sink sink) old new (is_err result)
  closes_sink (Ok done) closes stored = record {
    none = λ is. absurd (cc);
    refused_sink = λ refused. absurd (cc);
    entries = closes.entries;
    stored = λ refused. lies_told path old.held new.held (writes sink).written held stored;
    others = others_kept;
    sources = closes.counts.sources;
    sinks = closes.counts.sinks;
  }
  closes_sink (Err failed) closes stored = record {
    none = λ is. absurd (cc);
    refused_sink = λ refused. (sink, refl);
    entries = closes.entries;
    stored = λ refused. absurd (cc);
    others = others_kept;
    sources = closes.counts.sources;
    sinks = closes.counts.sinks;
  }
