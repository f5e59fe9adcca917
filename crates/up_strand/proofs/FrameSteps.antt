-- What a step of a source of frames did.
use Rattle.std.proofs.Common.{◌≡◌, ℕ, zero, suc, ◌+◌, ◌-◌, ◌≤◌, min, Bool, true, false, List, [], ◌∷◌, ◌++◌, length, take, drop, Option, Some, None, Result, Ok, Err, refl, sym, ap, ◌∙◌, subst, arith, length-append, inl, inr, if◌then◌else◌}
use Rattle.std.proofs.KnownBytes.{Consumes-nil}
use Rattle.std.specs.Io.KnownBytes.{IsAtEnd}
use Rattle.std.specs.Option.{option_map_or, option_or}
use Rattle.std.specs.Prelude.{nat_lt, option_map}
use Rattle.std.proofs.Math.Seq.{take-append-add}
use Rattle.std.proofs.lemmas.Bool.Decides.{leb_tells}
use Rattle.std.proofs.lemmas.List.{length-take-le, take-append-drop, take_all}
use Rattle.std.proofs.lemmas.Option.{same_Some}
use Rattle.up_base.specs.declared.refusal.NoMemory.{NoMemory as NoMemoryError}
use Rattle.up_frame.specs.Readers.{Feeds, Gives, StandsFor as IsReaderOf}
use Rattle.up_frame.specs.declared.frame_reader.FrameReader.{FrameReader}
use Rattle.up_frame.specs.declared.refusals.FeedRefused.{FeedRefused}
use Rattle.up_frame.specs.declared.refusals.FeedRefused.TheVariants as refusals
use Rattle.up_model.proofs.FrameMoreBytes.{frames_past_broken}
use Rattle.up_model.proofs.FrameStreams.{nothing_at_end}
use Rattle.up_model.proofs.Shown.{is_shown, shown_is_cause, shown_is_told, unshown_is_at_end, unshown_within}
use Rattle.up_model.specs.FrameStreams.{broken_at, broken_where, cut_at, whole_frames}
use Rattle.up_model.specs.Outcomes.{carried_as, outcome_at_end, shown_by, source_outcome, too_long}
use Rattle.up_model.specs.Packet.{Flow}
use Rattle.up_model.specs.declared.form.SourceForm.TheVariants.{Framed}
use Rattle.up_model.specs.declared.limits.TheConstants.{MAX_LIMIT}
use Rattle.up_model.specs.declared.outcome.Outcome.{Outcome}
use Rattle.up_model.specs.declared.outcome.Outcome.TheVariants.{Whole, ReadFault, WriteFault, BadFrame, TooLong, Broken, NoMemory}
use Rattle.up_model.specs.declared.plain_packet.PlainPacket.{PlainPacket}
use Rattle.up_outside.specs.Counts.{CountsOnce}
use Rattle.up_outside.specs.States.{SourceState}
use Rattle.up_outside.specs.Told.{Then}
use Rattle.up_strand.specs.Frames.{FramesStand, framed_source, frame_read_failed, shows_where}
use Rattle.up_strand.specs.Reads.{EndsBy, WereRead}
use Rattle.up_strand.specs.declared.frame_source.FrameSource.{FrameSource}
use Rattle.up_strand.specs.declared.frame_source.NextFrame.TheVariants.{Ended}

-- nothing was read
told_none : (moved : Option ℕ) → Then (λ before after. after ≡ before + 0) moved moved
told_none None = tt
told_none (Some count) = omega arith

pub none_read : (state : SourceState) → WereRead state state [] 0
none_read state = record { bytes_of = Consumes-nil state.left; sum = told_none state.moved; place = refl }

pub no_faults : (faults : ℕ) → CountsOnce false faults faults
no_faults faults = record {
  counts = record { later = omega arith; rose = λ wrong. absurd (cc); stays = λ is. refl };
  once = omega arith;
}

-- what is shown of bytes within the limit
pub shows_unbroken : (past : Bool) (limit : ℕ) (bytes : List ℕ) → broken_at bytes ≡ None
    → shows_where past limit bytes ≡ (if past then Some (TooLong limit) else None)
shows_unbroken past limit bytes is =
    ap (λ (place : Option ℕ). option_or (option_map BadFrame place) (if past then Some (TooLong limit) else None)) is

pub shows_broken : (past : Bool) (limit : ℕ) (bytes : List ℕ) (at : ℕ) → broken_at bytes ≡ Some at → shows_where past limit bytes ≡ Some (BadFrame at)
shows_broken past limit bytes at is =
    ap (λ (place : Option ℕ). option_or (option_map BadFrame place) (if past then Some (TooLong limit) else None)) is

-- the first of the first
take_of_take : (n m : ℕ) (l : List ℕ) → take n (take m l) ≡ take (min m n) l
take_of_take zero m l = let none : min m 0 ≡ 0 = omega arith in sym (ap (λ k. take k l) none)
take_of_take (suc n) zero l = let none : min 0 (suc n) ≡ 0 = omega arith in sym (ap (λ k. take k l) none)
take_of_take (suc n) (suc m) [] = sym (take_none (min (suc m) (suc n)))
  where
    take_none : (k : ℕ) → take {A = ℕ} k [] ≡ []
    take_none zero = refl
    take_none (suc k) = refl
take_of_take (suc n) (suc m) (byte ∷ l) =
    let one_less : min (suc m) (suc n) ≡ suc (min m n) = omega arith in
    ap (λ l. byte ∷ l) (take_of_take n m l) ∙ sym (ap (λ k. take k (byte ∷ l)) one_less)

-- more bytes were read than the limit allows where more were read than are left
same_past : (limit left count size : ℕ) (all : List ℕ) → size + left ≡ limit → length all ≡ size + count
    → nat_lt (min count left) count ≡ nat_lt limit (length all)
same_past limit left count size all sum long = elim (leb_tells (suc (min count left)) count) [
  | inl past ↦
      elim (leb_tells (suc limit) (length all)) [
        | inl over ↦ past.0 ∙ sym over.0
        | inr within ↦ absurd (omega (arith, past.1, within.1, sum, long))
      ]
  | inr inside ↦
      elim (leb_tells (suc limit) (length all)) [
        | inl over ↦ absurd (omega (arith, inside.1, over.1, sum, long))
        | inr within ↦ inside.0 ∙ sym within.0
      ]
]

module _ {S : Type 0} (old : FrameSource S) (read : List ℕ) (put : Flow) (stood : FramesStand old read put) (unshown : old.shown ≡ None) where
  few_read : length read ≤ old.limit
  few_read = let sum = stood.rest unshown in omega (arith, sum)

  pub all_within : take old.limit read ≡ read
  all_within = take_all old.limit read few_read

  pub none_shown : shown_by Framed old.limit read ≡ None
  none_shown = sym stood.known ∙ unshown

  -- so many bytes of the room were read, and the reader was fed those within the limit
  module _ (room : List ℕ) (count : ℕ) (enough : count ≤ length room) (some : count ≤ old.left + 1) where
    abbrev taken : List ℕ
    taken = take count room

    long : length taken ≡ count
    long = length-take-le count room enough

    within_limit : take old.limit (read ++ taken) ≡ take old.limit read ++ take (min count old.left) room
    within_limit =
        let sum = stood.rest unshown in
        ap (λ n. take n (read ++ taken)) (sym sum) ∙ take-append-add read taken old.left
        ∙ ap (λ l. read ++ l) (take_of_take old.left count room) ∙ ap (λ l. l ++ take (min count old.left) room) (sym all_within)

    pub took_in : (new : FrameSource S) → new.limit ≡ old.limit → new.left ≡ old.left - min count old.left
        → IsReaderOf new.reader (take old.limit read ++ take (min count old.left) room) put
        → new.shown ≡ shows_where (nat_lt (min count old.left) count) old.limit (take old.limit read ++ take (min count old.left) room)
        → FramesStand new (read ++ taken) put
    took_in new limits lefts reads shows =
        let sum = stood.rest unshown in
        let all : length (read ++ taken) ≡ length read + count = omega (arith, length-append read taken, long) in
        let past = same_past old.limit old.left count (length read) (read ++ taken) sum all in
        let known : new.shown ≡ shown_by Framed old.limit (read ++ taken) =
        shows ∙ ap (λ (b : Bool). shows_where b old.limit (take old.limit read ++ take (min count old.left) room)) past
        ∙ ap (λ (bytes : List ℕ). option_or (option_map BadFrame (broken_at bytes)) (too_long old.limit (read ++ taken))) (sym within_limit) in
        record {
          reader = subst (λ (limit : ℕ). IsReaderOf new.reader (take limit (read ++ taken)) put) (sym limits)
              (subst (λ (bytes : List ℕ). IsReaderOf new.reader bytes put) (sym within_limit) reads);
          known = known ∙ ap (λ (limit : ℕ). shown_by Framed limit (read ++ taken)) (sym limits);
          rest = λ none.
              let within = unshown_within Framed old.limit (read ++ taken) (sym known ∙ none) in
              omega (arith, within, all, sum, limits, lefts);
          few = omega (arith, all, some, sum, limits);
          in_limit = subst (λ (limit : ℕ). limit ≤ MAX_LIMIT) (sym limits) stood.in_limit;
        }

-- at the end of the bytes
end_no_fault_by : (P : Type 0) (cut : Option ℕ) → frame_read_failed {P = P} (Ended (option_map_or BadFrame cut Whole)) ≡ false
end_no_fault_by P None = refl
end_no_fault_by P (Some at) = refl

pub end_no_fault : (P : Type 0) (bytes : List ℕ) (outcome : Outcome) → outcome ≡ outcome_at_end Framed bytes → frame_read_failed {P = P} (Ended outcome) ≡ false
end_no_fault P bytes outcome is = ap (λ (o : Outcome). frame_read_failed {P = P} (Ended o)) is ∙ end_no_fault_by P (cut_at bytes)

end_by : (limit : ℕ) (rest : Option (List ℕ)) (read : List ℕ) (put : Flow) (cut : Option ℕ) → source_outcome Framed limit read ≡ option_map_or BadFrame cut Whole
    → IsAtEnd rest → put ≡ whole_frames read
    → EndsBy Framed limit rest read (option_map_or BadFrame cut Whole) × (put ≡ carried_as (option_map_or BadFrame cut Whole) (framed_source limit) read)
end_by limit rest read put None told at_end all = ((told, at_end), all)
end_by limit rest read put (Some at) told at_end all = (record { is = told; settled = inr at_end }, all)

pub end_of_frames : (limit : ℕ) (rest : Option (List ℕ)) (read : List ℕ) (put : Flow) (outcome : Outcome) → outcome ≡ outcome_at_end Framed read
    → shown_by Framed limit read ≡ None → IsAtEnd rest → put ≡ whole_frames read
    → EndsBy Framed limit rest read outcome × (put ≡ carried_as outcome (framed_source limit) read)
end_of_frames limit rest read put outcome is none at_end all =
    subst (λ (o : Outcome). EndsBy Framed limit rest read o × (put ≡ carried_as o (framed_source limit) read)) (sym is)
    (end_by limit rest read put (cut_at read) (unshown_is_at_end Framed limit read none) at_end all)

-- what is shown whatever comes behind
broken_of_shown : (place : Option ℕ) (limit : ℕ) (bytes : List ℕ) (at : ℕ) → option_or (option_map BadFrame place) (too_long limit bytes) ≡ Some (BadFrame at) → place ≡ Some at
broken_of_shown (Some other) limit bytes at is = let same : BadFrame other ≡ BadFrame at = same_Some (BadFrame other) (BadFrame at) is in cc
broken_of_shown None limit bytes at is = absurd (not_long (nat_lt limit (length bytes)) is)
  where
    not_long : (b : Bool) → (if b then Some (TooLong limit) else None) ≡ Some (BadFrame at) → ⊥
    not_long true is = let same : TooLong limit ≡ BadFrame at = same_Some (TooLong limit) (BadFrame at) is in cc
    not_long false is = cc

long_of_shown : (place : Option ℕ) (limit : ℕ) (bytes : List ℕ) (most : ℕ) → option_or (option_map BadFrame place) (too_long limit bytes) ≡ Some (TooLong most) → limit ≡ most
long_of_shown (Some other) limit bytes most is = absurd (let same : BadFrame other ≡ TooLong most = same_Some (BadFrame other) (TooLong most) is in cc)
long_of_shown None limit bytes most is = by_length (nat_lt limit (length bytes)) is
  where
    by_length : (b : Bool) → (if b then Some (TooLong limit) else None) ≡ Some (TooLong most) → limit ≡ most
    by_length true is = let same : TooLong limit ≡ TooLong most = same_Some (TooLong limit) (TooLong most) is in cc
    by_length false is = absurd (cc)

pub shown_end : (limit : ℕ) (rest : Option (List ℕ)) (read : List ℕ) (put : Flow) (outcome : Outcome) → shown_by Framed limit read ≡ Some outcome
    → put ≡ whole_frames (take limit read) → EndsBy Framed limit rest read outcome × (put ≡ carried_as outcome (framed_source limit) read)
shown_end limit rest read put Whole shown all = absurd (let no = shown_is_cause Framed limit read Whole shown in cc)
shown_end limit rest read put ReadFault shown all = absurd (let no = shown_is_cause Framed limit read ReadFault shown in cc)
shown_end limit rest read put WriteFault shown all = absurd (let no = shown_is_cause Framed limit read WriteFault shown in cc)
shown_end limit rest read put (BadFrame at) shown all =
    let broken = broken_of_shown (broken_at (take limit read)) limit read at shown in (
      record { is = shown_is_told Framed limit read (BadFrame at) shown; settled = inl shown },
      all ∙ sym (frames_past_broken (take limit read) (drop limit read) at broken) ∙ ap whole_frames (take-append-drop limit read),
    )
shown_end limit rest read put (TooLong most) shown all =
    let same = long_of_shown (broken_at (take limit read)) limit read most shown in (
      shown,
      all ∙ ap (λ n. whole_frames (take n read)) same,
    )
shown_end limit rest read put Broken shown all = absurd (let no = shown_is_cause Framed limit read Broken shown in cc)
shown_end limit rest read put NoMemory shown all = absurd (let no = shown_is_cause Framed limit read NoMemory shown in cc)

pub shown_no_fault : (P : Type 0) (limit : ℕ) (read : List ℕ) (outcome : Outcome) → shown_by Framed limit read ≡ Some outcome → frame_read_failed {P = P} (Ended outcome) ≡ false
shown_no_fault P limit read outcome shown = by_outcome outcome (shown_is_cause Framed limit read outcome shown)
  where
    by_outcome : (o : Outcome) → is_shown o ≡ true → frame_read_failed {P = P} (Ended o) ≡ false
    by_outcome Whole is = absurd (cc)
    by_outcome ReadFault is = absurd (cc)
    by_outcome WriteFault is = absurd (cc)
    by_outcome (BadFrame at) is = refl
    by_outcome (TooLong limit) is = refl
    by_outcome Broken is = absurd (cc)
    by_outcome NoMemory is = absurd (cc)

-- what the reader did, by its answer
pub fed_broken : (old new : FrameReader) (piece : List ℕ) (result : Result (Unit {0}) FeedRefused) (offset : ℕ) → result ≡ Err (refusals.BadFrame offset)
    → Feeds old new piece result → (bytes : List ℕ) (given : Flow) → IsReaderOf old bytes given
    → IsReaderOf new (bytes ++ piece) given × (broken_at (bytes ++ piece) ≡ Some offset)
fed_broken old new piece result offset is fed bytes given stands = subst (Feeds old new piece) is fed bytes given stands

pub gave_packet : (old new : FrameReader) (result : Result (Option PlainPacket) NoMemoryError) (packet : PlainPacket) → result ≡ Ok (Some packet)
    → Gives old new result → (bytes : List ℕ) (given : Flow) → IsReaderOf old bytes given → IsReaderOf new bytes (given ++ packet ∷ [])
gave_packet old new result packet is gives bytes given stands = (subst (Gives old new) is gives bytes given stands).0

pub gave_none : (old new : FrameReader) (result : Result (Option PlainPacket) NoMemoryError) → result ≡ Ok None
    → Gives old new result → (bytes : List ℕ) (given : Flow) → IsReaderOf old bytes given → IsReaderOf new bytes given × (given ≡ whole_frames bytes)
gave_none old new result is gives bytes given stands = subst (Gives old new) is gives bytes given stands

-- a source of frames that gave nothing
short_unshown : (limit : ℕ) → too_long limit [] ≡ None
short_unshown limit = elim (leb_tells (suc limit) 0) [
  | inl long ↦ absurd (omega (arith, long.1))
  | inr within ↦ rw within.0 refl
]

pub begins_giving : {S : Type 0} (frames : FrameSource S) → IsReaderOf frames.reader [] [] → frames.shown ≡ None → frames.left ≡ frames.limit
    → frames.limit ≤ MAX_LIMIT → FramesStand frames [] []
begins_giving frames reads none lefts within =
    let nothing : take frames.limit [] ≡ [] = take_all frames.limit [] (omega arith) in
    let unbroken : broken_at (take frames.limit []) ≡ None = ap broken_at nothing ∙ ap (broken_where 0) nothing_at_end in
    let shown : shown_by Framed frames.limit [] ≡ None =
    ap (λ place. option_or (option_map BadFrame place) (too_long frames.limit [])) unbroken ∙ short_unshown frames.limit in
    record {
      reader = subst (λ (l : List ℕ). IsReaderOf frames.reader l []) (sym nothing) reads;
      known = none ∙ sym shown;
      rest = λ is. omega (arith, lefts);
      few = omega arith;
      in_limit = within;
    }
