-- Frames that wait to be given, and the bytes that hold them.
use Rattle.std.proofs.Common.{◌≡◌, ℕ, zero, suc, ◌+◌, ◌-◌, ◌≤◌, List, [], ◌∷◌, ◌++◌, length, take, drop, slice_range, All, Option, Some, None, Ok, Err, refl, sym, ap, subst, ◌∙◌, append_assoc, append-nil, arith}
use Rattle.std.proofs.Math.Seq.{take-add}
use Rattle.std.proofs.lemmas.List.{length-append, length-drop, length-take-le, drop-drop, drop-take, drop_at, take-append-le, drop-append-le}
use Rattle.std.proofs.lemmas.List.Elements.{All-head, All-tail, All-append}
use Rattle.std.proofs.lemmas.List.Concat.{flat_map-append}
use Rattle.up_frame.proofs.GoingOn.{grows, from_place}
use Rattle.up_frame.proofs.SetAttributes.{not_refused}
use Rattle.up_frame.specs.Judging.{AreFramesBefore, IsJudged, IsAllJudged, IsRest}
use Rattle.up_frame.specs.Readers.{Keeps, frames_held, behind_frames, Waits, StandsFor, Awaits, IsNext}
use Rattle.up_frame.specs.declared.frame_reader.FrameReader.{FrameReader}
use Rattle.up_frame.specs.declared.judged.Judged.{Judged}
use Rattle.up_model.proofs.FrameFields.{found_is}
use Rattle.up_model.proofs.FrameMoreBytes.{stays_broken}
use Rattle.up_model.proofs.FramePackets.{packet_again}
use Rattle.up_model.proofs.FrameRests.{broken_rest, broken_whole, rest_of_more, whole_of_more}
use Rattle.up_model.proofs.FrameShorter.{packet_shrinks}
use Rattle.up_model.proofs.FrameStreams.{nothing_at_end}
use Rattle.up_model.specs.FrameFronts.{packet_at}
use Rattle.up_model.specs.FrameSpelling.{frame_of, frames_of}
use Rattle.up_model.specs.FrameStreams.{whole_frames, rest_of_frames, broken_at}
use Rattle.up_model.specs.Packet.{Flow, IsLegal}
use Rattle.up_model.specs.declared.frame_layout.NotWhole.{NotWhole}
use Rattle.up_model.specs.declared.frame_layout.NotWhole.TheVariants.{Broken, Unfinished}
use Rattle.up_model.specs.declared.plain_packet.PlainPacket.{PlainPacket}

-- what is behind a place, counted from an earlier one
pub behind_place : (held : List ℕ) (given start : ℕ) → given ≤ start → drop (start - given) (drop given held) ≡ drop start held
behind_place held given start ordered =
    let place : given + (start - given) ≡ start = omega arith in
    drop-drop (start - given) given held ∙ ap (λ (n : ℕ). drop n held) place

-- a slice that goes on
pub slice_more : (held : List ℕ) (given start size : ℕ) → given ≤ start
    → slice_range held given (start + size) ≡ slice_range held given start ++ take size (drop start held)
slice_more held given start size ordered =
    let longer : start + size - given ≡ (start - given) + size = omega arith in
    ap (λ (n : ℕ). take n (drop given held)) longer
    ∙ take-add (start - given) size (drop given held)
    ∙ ap (λ (b : List ℕ). take (start - given) (drop given held) ++ take size b) (behind_place held given start ordered)

-- a slice, where bytes are added behind it
pub slice_added : (held piece : List ℕ) (given start : ℕ) → given ≤ start → start ≤ length held
    → slice_range (held ++ piece) given start ≡ slice_range held given start
slice_added held piece given start ordered within =
    let enough : start - given ≤ length (drop given held) = omega (arith, length-drop given held) in
    ap (take (start - given)) (drop-append-le given held piece (omega arith))
    ∙ take-append-le (start - given) (drop given held) piece enough

-- the last part of a slice
pub slice_last : (held first last : List ℕ) (given start : ℕ) → given ≤ start → start ≤ length held
    → slice_range held given start ≡ first ++ last → slice_range held (start - length last) start ≡ last
slice_last held first last given start ordered within parts =
    let size : length (slice_range held given start) ≡ start - given = length-take-le (start - given) (drop given held) (omega (arith, length-drop given held)) in
    let both : start - given ≡ length first + length last = sym size ∙ ap length parts ∙ length-append first last in
    let place : start - length last ≡ given + length first = omega (arith, both, ordered) in
    let count : start - (given + length first) ≡ length last = omega (arith, both, ordered) in
    ap (λ (p : ℕ). slice_range held p start) place
    ∙ ap (λ (n : ℕ). take n (drop (given + length first) held)) count
    ∙ ap (take (length last)) (sym (drop-drop (length first) given held))
    ∙ sym (drop-take (length first) (length last) (drop given held))
    ∙ ap (λ (n : ℕ). drop (length first) (take n (drop given held))) (sym both)
    ∙ ap (drop (length first)) parts
    ∙ drop_at first last (length first) refl

-- where no frame is broken
pub keeps_open : (reader : FrameReader) (bytes : List ℕ) (given : Flow) → reader.broken ≡ None → StandsFor reader bytes given
    → Keeps None reader.judged (behind_frames reader) bytes
keeps_open reader bytes given whole stands =
    subst (λ broken. Keeps broken reader.judged (behind_frames reader) bytes) whole stands.keeps

-- what is kept behind the frames, where it is the same
same_keeps : (old new : FrameReader) (bytes : List ℕ) → new.broken ≡ old.broken → new.judged ≡ old.judged → behind_frames new ≡ behind_frames old
    → Keeps old.broken old.judged (behind_frames old) bytes → Keeps new.broken new.judged (behind_frames new) bytes
same_keeps old new bytes broken judged behind keeps =
    subst (λ b. Keeps b new.judged (behind_frames new) bytes) (sym broken)
    (subst (λ j. Keeps old.broken j (behind_frames new) bytes) (sym judged)
    (subst (λ h. Keeps old.broken old.judged h bytes) (sym behind) keeps))

same_frames : (old new : FrameReader) → new.held.items ≡ old.held.items → new.given ≡ old.given → new.start ≡ old.start → frames_held new ≡ frames_held old
same_frames old new held first start =
    ap (λ (s : ℕ). slice_range new.held.items new.given s) start
    ∙ ap (λ (p : ℕ). slice_range new.held.items p old.start) first
    ∙ ap (λ (h : List ℕ). slice_range h old.given old.start) held

-- a piece behind a broken frame is counted alone
pub piece_counted : (old new : FrameReader) (piece bytes : List ℕ) (given : Flow) (offset : ℕ) → old.broken ≡ Some offset
    → new.held.items ≡ old.held.items → new.given ≡ old.given → new.start ≡ old.start → new.fed ≡ old.fed + length piece → new.broken ≡ old.broken
    → StandsFor old bytes given → StandsFor new (bytes ++ piece) given × (broken_at (bytes ++ piece) ≡ Some offset)
piece_counted old new piece bytes given offset is held first start fed broken stands =
    let keeps : Keeps (Some offset) old.judged (behind_frames old) bytes = subst (λ b. Keeps b old.judged (behind_frames old) bytes) is stands.keeps in
    let later = stays_broken bytes piece offset keeps.0 in
    let none : behind_frames new ≡ [] = ap (λ (s : ℕ). drop s new.held.items) start ∙ ap (drop old.start) held ∙ keeps.1 in (
      record {
        count = fed ∙ ap (λ (n : ℕ). n + length piece) stands.count ∙ sym (length-append bytes piece);
        waiting = stands.waiting;
        waits = record { legal = stands.waits.legal; frames = same_frames old new held first start ∙ stands.waits.frames };
        whole = broken_whole bytes piece offset keeps.0 ∙ stands.whole;
        keeps = subst (λ b. Keeps b new.judged (behind_frames new) (bytes ++ piece)) (sym (broken ∙ is)) (later, none);
      },
      later,
    )

-- a piece is added
pub piece_added : (old new : FrameReader) (piece bytes : List ℕ) (given : Flow) → old.broken ≡ None → new.held.items ≡ old.held.items ++ piece
    → new.given ≡ old.given → new.start ≡ old.start → new.judged ≡ old.judged → new.fed ≡ old.fed + length piece
    → StandsFor old bytes given → Awaits new (bytes ++ piece) given
piece_added old new piece bytes given whole held first start judged fed stands =
    let within : old.start ≤ length old.held.items = omega (arith, old.judged_within) in
    let keeps = keeps_open old bytes given whole stands in
    let behind : behind_frames new ≡ behind_frames old ++ piece =
    ap (λ (s : ℕ). drop s new.held.items) start ∙ ap (drop old.start) held ∙ drop-append-le old.start old.held.items piece within in
    let frames : frames_held new ≡ frames_held old =
    ap (λ (s : ℕ). slice_range new.held.items new.given s) start
    ∙ ap (λ (p : ℕ). slice_range new.held.items p old.start) first
    ∙ ap (λ (h : List ℕ). slice_range h old.given old.start) held
    ∙ slice_added old.held.items piece old.given old.start old.ordered within in
    record {
      count = fed ∙ ap (λ (n : ℕ). n + length piece) stands.count ∙ sym (length-append bytes piece);
      waiting = stands.waiting;
      waits = record { legal = stands.waits.legal; frames = frames ∙ stands.waits.frames };
      whole = whole_of_more bytes piece
          ∙ ap (λ (r : List ℕ). whole_frames bytes ++ whole_frames (r ++ piece)) keeps.rest
          ∙ ap (λ (r : List ℕ). whole_frames bytes ++ whole_frames r) (sym behind)
          ∙ ap (λ (w : Flow). w ++ whole_frames (behind_frames new)) stands.whole;
      rest = rest_of_more bytes piece ∙ ap (λ (r : List ℕ). rest_of_frames (r ++ piece)) keeps.rest ∙ ap rest_of_frames (sym behind);
      on = subst (λ j. IsJudged j (behind_frames new)) (sym judged)
          (subst (IsJudged old.judged) (sym behind) (grows old.judged (behind_frames old) piece keeps.on));
    }

-- where all whole frames were given, none waits
pub none_waits : (reader : FrameReader) (bytes : List ℕ) → StandsFor reader bytes (whole_frames bytes) → reader.given ≡ reader.start
none_waits reader bytes stands =
    let held = reader.held.items in
    let counted : length (whole_frames bytes) ≡ length (whole_frames bytes) + length stands.waiting =
    ap length stands.whole ∙ length-append (whole_frames bytes) stands.waiting in
    let nothing : frames_held reader ≡ [] = stands.waits.frames ∙ none stands.waiting (omega (arith, counted)) in
    let size : length (frames_held reader) ≡ reader.start - reader.given =
    length-take-le (reader.start - reader.given) (drop reader.given held) (omega (arith, length-drop reader.given held, reader.ordered, reader.judged_within)) in
    let empty : length (frames_held reader) ≡ 0 = ap length nothing in
    omega (arith, size, empty, reader.ordered)
  where
    none : (waiting : Flow) → length waiting ≡ 0 → frames_of waiting ≡ []
    none [] e = refl
    none (packet ∷ more) e = absurd (omega (arith, e))

-- what is held behind the frames is no more than the rest
rest_held : (broken : Option ℕ) (judged : Option Judged) (held bytes : List ℕ) → Keeps broken judged held bytes → length held ≤ length (rest_of_frames bytes)
rest_held None judged held bytes keeps = omega (arith, ap length keeps.rest)
rest_held (Some place) judged held bytes keeps = omega (arith, ap length keeps.1)

-- what is left of the bytes that were given, once those before the place are let go
pub rest_alone : (reader : FrameReader) (bytes : List ℕ) (size : ℕ) → size ≡ length reader.held.items - reader.given
    → StandsFor reader bytes (whole_frames bytes) → size ≤ length (rest_of_frames bytes)
rest_alone reader bytes size is stands =
    let few = rest_held reader.broken reader.judged (behind_frames reader) bytes stands.keeps in
    omega (arith, is, few, none_waits reader bytes stands, length-drop reader.start reader.held.items)

-- what is found in the bytes from the start on is found behind the frames
pub found_behind : (old : FrameReader) (text bytes : List ℕ) (given : Flow) (size : ℕ) (found refused : NotWhole) (judged : Option Judged)
    → text ≡ old.held.items → found ≡ refused
    → (IsJudged old.judged (take (length text - old.start) (drop old.start text)) → IsRest (take (length text - old.start) (drop old.start text)) size found judged)
    → (IsJudged old.judged (take (length text - old.start) (drop old.start text)) → AreFramesBefore size (take (length text - old.start) (drop old.start text)))
    → Awaits old bytes given → AreFramesBefore size (behind_frames old) × IsRest (behind_frames old) size refused judged
found_behind old text bytes given size found refused judged text_is refused_is rest frames awaits =
    let place : take (length text - old.start) (drop old.start text) ≡ behind_frames old = from_place old.start text ∙ ap (drop old.start) text_is in
    let first = subst (IsJudged old.judged) (sym place) awaits.on in (
      subst (AreFramesBefore size) place (frames first),
      subst (λ r. IsRest (behind_frames old) size r judged) refused_is (subst (λ t. IsRest t size found judged) place (rest first)),
    )

-- the frames that wait, with those that were found behind them
frames_found : (old new : FrameReader) (bytes : List ℕ) (given : Flow) (size : ℕ) → AreFramesBefore size (behind_frames old)
    → frames_held new ≡ slice_range old.held.items old.given (old.start + size)
    → (awaits : Awaits old bytes given) → Waits new (awaits.waiting ++ whole_frames (behind_frames old))
frames_found old new bytes given size front held awaits =
    let text = behind_frames old in
    record {
      legal = All-append IsLegal awaits.waiting (whole_frames text) awaits.waits.legal front.0;
      frames = held
          ∙ slice_more old.held.items old.given old.start size old.ordered
          ∙ ap (λ (b : List ℕ). b ++ take size text) awaits.waits.frames
          ∙ ap (λ (b : List ℕ). frames_of awaits.waiting ++ b) front.1
          ∙ sym (flat_map-append frame_of awaits.waiting (whole_frames text));
    }

-- all that is held was judged, and nothing is broken
pub judged_open : (old new : FrameReader) (bytes : List ℕ) (given : Flow) (size : ℕ) → new.broken ≡ None
    → new.held.items ≡ old.held.items → new.given ≡ old.given → new.start ≡ old.start + size → new.fed ≡ old.fed
    → AreFramesBefore size (behind_frames old) × IsRest (behind_frames old) size Unfinished new.judged
    → Awaits old bytes given → StandsFor new bytes given × (broken_at bytes ≡ None)
judged_open old new bytes given size whole held first start fed found awaits =
    let is = found.1 in
    let behind : behind_frames new ≡ drop size (behind_frames old) =
    ap (λ (s : ℕ). drop s new.held.items) start ∙ ap (drop (old.start + size)) held ∙ sym (drop-drop size old.start old.held.items) in
    let frames : frames_held new ≡ slice_range old.held.items old.given (old.start + size) =
    ap (λ (s : ℕ). slice_range new.held.items new.given s) start
    ∙ ap (λ (p : ℕ). slice_range new.held.items p (old.start + size)) first
    ∙ ap (λ (h : List ℕ). slice_range h old.given (old.start + size)) held in
    let rest : rest_of_frames bytes ≡ behind_frames new = awaits.rest ∙ is.rest ∙ sym behind in
    let front : packet_at (behind_frames new) ≡ Err Unfinished = ap packet_at behind ∙ is.front in (
      record {
        count = fed ∙ awaits.count;
        waiting = awaits.waiting ++ whole_frames (behind_frames old);
        waits = frames_found old new bytes given size found.0 frames awaits;
        whole = awaits.whole ∙ append_assoc given awaits.waiting (whole_frames (behind_frames old));
        keeps = subst (λ b. Keeps b new.judged (behind_frames new) bytes) (sym whole)
            (record {
              rest = rest;
              front = front;
              on = subst (IsJudged new.judged) (sym behind) is.on;
              all = subst (IsAllJudged new.judged) (sym behind) (is.all refl);
            });
      },
      broken_rest bytes (behind_frames new) Unfinished rest front,
    )

take_twice : (n : ℕ) (list : List ℕ) → take n (take n list) ≡ take n list
take_twice zero list = refl
take_twice (suc n) [] = refl
take_twice (suc n) (first ∷ list) = ap (λ (l : List ℕ). first ∷ l) (take_twice n list)

-- nothing is behind the end
drop_taken : (n : ℕ) (list : List ℕ) → drop n (take n list) ≡ []
drop_taken n list =
    let end : n ≡ n + 0 = omega arith in
    ap (λ (m : ℕ). drop n (take m list)) end ∙ drop-take n 0 list

-- a slice of the bytes up to its end
slice_kept : (held : List ℕ) (given start : ℕ) → given ≤ start → slice_range (take start held) given start ≡ slice_range held given start
slice_kept held given start ordered =
    let place : given + (start - given) ≡ start = omega arith in
    ap (λ (n : ℕ). take (start - given) (drop given (take n held))) (sym place)
    ∙ ap (take (start - given)) (drop-take given (start - given) held)
    ∙ take_twice (start - given) (drop given held)

-- the rest is broken at its place, and let go
pub judged_broken : (old new : FrameReader) (bytes : List ℕ) (given : Flow) (size offset : ℕ) (judged : Option Judged) → new.broken ≡ Some offset
    → new.held.items ≡ take (old.start + size) old.held.items → new.given ≡ old.given → new.start ≡ old.start + size → new.fed ≡ old.fed
    → length bytes - length (drop (old.start + size) old.held.items) ≡ offset
    → AreFramesBefore size (behind_frames old) × IsRest (behind_frames old) size Broken judged
    → Awaits old bytes given → StandsFor new bytes given × (broken_at bytes ≡ Some offset)
judged_broken old new bytes given size offset judged broken held first start fed place found awaits =
    let is = found.1 in
    let behind : drop size (behind_frames old) ≡ drop (old.start + size) old.held.items = drop-drop size old.start old.held.items in
    let frames : frames_held new ≡ slice_range old.held.items old.given (old.start + size) =
    ap (λ (s : ℕ). slice_range new.held.items new.given s) start
    ∙ ap (λ (p : ℕ). slice_range new.held.items p (old.start + size)) first
    ∙ ap (λ (h : List ℕ). slice_range h old.given (old.start + size)) held
    ∙ slice_kept old.held.items old.given (old.start + size) (omega (arith, old.ordered)) in
    let none : behind_frames new ≡ [] =
    ap (λ (s : ℕ). drop s new.held.items) start ∙ ap (drop (old.start + size)) held ∙ drop_taken (old.start + size) old.held.items in
    let told : broken_at bytes ≡ Some offset =
    broken_rest bytes (drop (old.start + size) old.held.items) Broken (awaits.rest ∙ is.rest ∙ behind) (ap packet_at (sym behind) ∙ is.front) ∙ ap Some place in (
      record {
        count = fed ∙ awaits.count;
        waiting = awaits.waiting ++ whole_frames (behind_frames old);
        waits = frames_found old new bytes given size found.0 frames awaits;
        whole = awaits.whole ∙ append_assoc given awaits.waiting (whole_frames (behind_frames old));
        keeps = subst (λ b. Keeps b new.judged (behind_frames new) bytes) (sym broken) (told, none);
      },
      told,
    )

-- what the first frame that waits is read as
waiting_read : (flow : Flow) (bytes : List ℕ) (packet : PlainPacket) (rest : List ℕ) → All IsLegal flow → bytes ≡ frames_of flow
    → packet_at bytes ≡ Ok (packet, rest) → (more : Flow) × (flow ≡ packet ∷ more) × (rest ≡ frames_of more) × (All IsLegal more)
waiting_read [] bytes packet rest legal frames read =
    absurd (not_refused (packet_at bytes) (packet, rest) Unfinished read (ap packet_at frames ∙ nothing_at_end))
waiting_read (first ∷ flow) bytes packet rest legal frames read =
    let again = packet_again first (frames_of flow) (All-head IsLegal first flow legal) in
    let same = found_is (first, frames_of flow) (packet, rest) (sym again ∙ ap packet_at (sym frames) ∙ read) in (
      flow,
      ap (λ (p : PlainPacket × List ℕ). p.0 ∷ flow) same,
      sym (ap (λ (p : PlainPacket × List ℕ). p.1) same),
      All-tail IsLegal first flow legal,
    )

-- the packet of the first of the frames that wait is the next
pub one_waits : (reader : FrameReader) (bytes rest : List ℕ) (given : Flow) (packet : PlainPacket) → packet_at (frames_held reader) ≡ Ok (packet, rest)
    → StandsFor reader bytes given → IsNext (whole_frames bytes) given packet
one_waits reader bytes rest given packet read stands =
    let others = waiting_read stands.waiting (frames_held reader) packet rest stands.waits.legal stands.waits.frames read in
    (others.0, stands.whole ∙ ap (λ (w : Flow). given ++ w) others.1 ∙ sym (append_assoc given (packet ∷ []) others.0))

-- the first of the frames that wait is given
pub one_given : (old new : FrameReader) (bytes rest : List ℕ) (given : Flow) (packet : PlainPacket) → packet_at (frames_held old) ≡ Ok (packet, rest)
    → new.held.items ≡ old.held.items → new.given ≡ old.start - length rest → new.start ≡ old.start → new.judged ≡ old.judged → new.fed ≡ old.fed
    → new.broken ≡ old.broken → StandsFor old bytes given
    → StandsFor new bytes (given ++ packet ∷ []) × IsNext (whole_frames bytes) given packet
one_given old new bytes rest given packet read held first start judged fed broken stands =
    let within : old.start ≤ length old.held.items = omega (arith, old.judged_within) in
    let others = waiting_read stands.waiting (frames_held old) packet rest stands.waits.legal stands.waits.frames read in
    let parts : frames_held old ≡ frame_of packet ++ rest =
    stands.waits.frames ∙ ap frames_of others.1 ∙ ap (λ (r : List ℕ). frame_of packet ++ r) (sym others.2) in
    let frames : frames_held new ≡ frames_of others.0 =
    ap (λ (s : ℕ). slice_range new.held.items new.given s) start
    ∙ ap (λ (p : ℕ). slice_range new.held.items p old.start) first
    ∙ ap (λ (h : List ℕ). slice_range h (old.start - length rest) old.start) held
    ∙ slice_last old.held.items (frame_of packet) rest old.given old.start old.ordered within parts
    ∙ others.2 in
    let behind : behind_frames new ≡ behind_frames old = ap (λ (s : ℕ). drop s new.held.items) start ∙ ap (drop old.start) held in
    let whole : whole_frames bytes ≡ (given ++ packet ∷ []) ++ others.0 =
    stands.whole ∙ ap (λ (w : Flow). given ++ w) others.1 ∙ sym (append_assoc given (packet ∷ []) others.0) in (
      record {
        count = fed ∙ stands.count;
        waiting = others.0;
        waits = record { legal = others.3; frames = frames };
        whole = whole;
        keeps = same_keeps old new bytes broken judged behind stands.keeps;
      },
      (others.0, whole),
    )

-- what is behind the first of them is no more than they are
pub left_within : (reader : FrameReader) (packet : PlainPacket) (rest : List ℕ) → packet_at (frames_held reader) ≡ Ok (packet, rest) → length rest ≤ reader.start
left_within reader packet rest read =
    let held = reader.held.items in
    let fewer = packet_shrinks (frames_held reader) (packet, rest) read in
    let size : length (frames_held reader) ≡ reader.start - reader.given =
    length-take-le (reader.start - reader.given) (drop reader.given held) (omega (arith, length-drop reader.given held, reader.ordered, reader.judged_within)) in
    omega (arith, fewer, size)

-- where none waits, all were given
pub all_given : (reader : FrameReader) (bytes : List ℕ) (given : Flow) (refused : NotWhole) → packet_at (frames_held reader) ≡ Err refused
    → StandsFor reader bytes given → given ≡ whole_frames bytes
all_given reader bytes given refused none stands = none_left stands.waiting stands.waits.legal stands.waits.frames stands.whole
  where
    none_left : (waiting : Flow) → All IsLegal waiting → frames_held reader ≡ frames_of waiting → whole_frames bytes ≡ given ++ waiting → given ≡ whole_frames bytes
    none_left [] legal frames whole = sym (append-nil given) ∙ sym whole
    none_left (packet ∷ more) legal frames whole =
        absurd (not_refused (packet_at (frames_held reader)) (packet, frames_of more) refused
        (ap packet_at frames ∙ packet_again packet (frames_of more) (All-head IsLegal packet more legal)) none)
