-- What a net carried, from when its strands were made to when they were given up.
use Rattle.std.proofs.Common.{ℕ, ◌≤◌, List, [], length, refl, ◌∙◌}
use Rattle.std.proofs.lemmas.Option.{slice_get_within}
use Rattle.up_engine.proofs.BegunStrands.{begun_gave, begun_joined}
use Rattle.up_engine.proofs.Bounded.{net_joined}
use Rattle.up_engine.proofs.CarriedAll.{carried_all}
use Rattle.up_engine.proofs.CarriedFirst.{carried_short}
use Rattle.up_engine.proofs.StrandEnds.{have_ended, strands_end}
use Rattle.up_engine.proofs.ToldEnds.{NoneShort, ways_of}
use Rattle.up_engine.specs.Carried.{CarriedShort, CarriedThrough, NoneIsShort}
use Rattle.up_engine.specs.Entries.{path_places}
use Rattle.up_engine.specs.Making.{AllBegin, AreBack, AreTold}
use Rattle.up_engine.specs.Nets.{RanToEnd}
use Rattle.up_engine.specs.Objects.{AreThere}
use Rattle.up_engine.specs.declared.net.Net.{Net}
use Rattle.up_engine.specs.declared.object.Object.{Object}
use Rattle.up_engine.specs.declared.results.Results.{Results}
use Rattle.up_model.proofs.AlongInputs.{starts_at}
use Rattle.up_model.specs.Plans.{is_head}
use Rattle.up_model.specs.WellFormed.{IsWellFormed}
use Rattle.up_model.specs.declared.outcome.Outcome.TheVariants.{Whole}
use Rattle.up_model.specs.declared.pipe.Pipe.{Pipe}
use Rattle.up_model.specs.declared.plain_packet.PlainPacket.{PlainPacket}
use Rattle.up_outside.specs.States.{SourceState, SinkState}
use Rattle.up_shape.specs.Stores.{StoreState}
use Rattle.up_plan.proofs.OneStrand.{in_strand}
use Rattle.up_strand.specs.History.{History}

none_short : (pipes : List Pipe) (now : ℕ → History) (results : Results) → AreTold pipes now results → NoneIsShort pipes results → NoneShort pipes now
none_short pipes now results told tells head place is within none =
    let at = starts_at is_head pipes (length pipes) place head (in_strand pipes head place within) in
    tells place Whole (slice_get_within pipes place at.0 at.1) (told.outcomes head place Whole is within ∙ none)

module _ {S K : Type 0} (reads : S → SourceState) (writes : K → SinkState) (pipes : List Pipe) (well : IsWellFormed pipes) (before after : List (Object S K))
    (there : AreThere reads writes pipes (length (path_places pipes)) before) (past : ℕ → History) (begins : AllBegin reads writes pipes before past) where
  -- where the strands weren't made
  pub unmade_short : AreBack reads writes pipes past after → CarriedShort reads writes pipes before after
  unmade_short back =
      carried_short reads writes pipes well before after there past past begins (λ head. record { source = refl; sinks = refl }) back (λ lane. [])
      (begun_joined reads writes pipes before past begins) (begun_gave reads writes pipes before past begins)

  module _ {P F : Type 0} (plain : P → PlainPacket) (net : Net P S K) (made ran : StoreState F) (run : RanToEnd plain reads writes pipes past net made ran)
      (back : AreBack reads writes pipes run.went.now after) where
    pub net_short : CarriedShort reads writes pipes before after
    net_short =
        carried_short reads writes pipes well before after there past run.went.now begins run.went.on back
        _ (net_joined plain reads writes pipes run.went.now net run.went.stands)
        (λ head is. (strands_end plain reads writes pipes run.went.now net run.went.stands head is).gave)

    pub net_through : (results : Results) → AreTold pipes run.went.now results → (store_before store_after : StoreState F) → store_before.drawn ≤ made.drawn → ran.drawn ≤ store_after.drawn
        → CarriedThrough reads writes pipes before after results store_before store_after
    net_through results told store_before store_after made_later end_later tells = (
      ways_of pipes run.went.now,
      carried_all reads writes pipes well before after there past run.went.now begins run.went.on back
          _ (net_joined plain reads writes pipes run.went.now net run.went.stands)
          (strands_end plain reads writes pipes run.went.now net run.went.stands) (have_ended plain reads writes pipes run.went.now net run.went.stands run.over)
          (none_short pipes run.went.now results told tells) results told store_before made ran store_after made_later run.went.drawn end_later,
    )
