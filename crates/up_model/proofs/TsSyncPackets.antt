-- What `ts_sync` puts out are packets, none of them reaches into the next, and all other bytes are cut.
use Rattle.std.proofs.Common.{◌≡◌, ℕ, zero, suc, ◌+◌, ◌-◌, ◌≤◌, ◌==◌, List, [], ◌∷◌, All, length, take, drop, map, slice_get, get_or, Bool, true, false, Option, Some, None, refl, ap, ◌∙◌, arith, length-append, length-take, length-drop}
use Rattle.std.specs.Prelude.{nat_le, slice_index}
use Rattle.std.proofs.lemmas.Bool.{leb-true, eq-eqb, and_from}
use Rattle.std.proofs.lemmas.List.{get_or-take, get_or-drop}
use Rattle.std.proofs.lemmas.List.Elements.{All-nil, All-cons, All-head, All-tail}
use Rattle.std.proofs.lemmas.Option.{get_or_from_slice_get}
use Rattle.up_base.specs.Transport.{is_ts_packet}
use Rattle.up_base.specs.declared.transport.TheConstants.{SYNC_BYTE, TS_SIZE}
use Rattle.up_model.proofs.TsSync.{Fits, packets_fit, found_from}
use Rattle.up_model.specs.Packet.{Flow, joined}
use Rattle.up_model.specs.Parts.{part_of, of_cut}
use Rattle.up_model.specs.TsSync.{Walk, has_evidence, next_evidence, at_evidence, at_sync, at_byte, synchronised, walk_within, walk_from, walk_of, with_walk, ts_synced}
use Rattle.up_model.specs.Work.{CutsTheRest}

-- each begins at or behind this place, and behind the one before it
abbrev pub AreApart : ℕ → List ℕ → Type 0
AreApart from [] = Unit {0}
AreApart from (start ∷ starts) = (from ≤ start) × AreApart (start + TS_SIZE) starts

sooner : (from later : ℕ) (starts : List ℕ) → from ≤ later → AreApart later starts → AreApart from starts
sooner from later [] before apart = tt
sooner from later (start ∷ starts) before apart = (omega (arith, before, apart.0), apart.1)

module _ (bytes : List ℕ) where
  -- a transport stream packet begins here
  abbrev pub IsPacketAt : ℕ → Type 0
  IsPacketAt place = is_ts_packet (take TS_SIZE (drop place bytes)) ≡ true

  is_packet : (place byte : ℕ) → slice_get bytes place ≡ Some byte → (byte == SYNC_BYTE) ≡ true
      → place + TS_SIZE ≤ length bytes → IsPacketAt place
  is_packet place byte there syncs fits =
      let size : length (take TS_SIZE (drop place bytes)) ≡ TS_SIZE =
      omega (arith, length-take TS_SIZE (drop place bytes), length-drop place bytes, fits) in
      let here : place + 0 ≡ place = omega arith in
      let first : slice_index (take TS_SIZE (drop place bytes)) 0 ≡ byte =
      get_or-take TS_SIZE (drop place bytes) 0 0 (omega arith) ∙ get_or-drop place bytes 0 0
      ∙ ap (λ (n : ℕ). get_or bytes n 0) here ∙ get_or_from_slice_get bytes place byte 0 there in
      and_from _ _ (eq-eqb _ TS_SIZE size) (ap (λ (b : ℕ). b == SYNC_BYTE) first ∙ syncs)

  module _ (packets : ℕ) where
    module _ (onward : ℕ → Walk) (are : (place : ℕ) → All IsPacketAt (onward place).starts) where
      evidence_packets : (found : Option ℕ) → All IsPacketAt (at_evidence onward found).starts
      evidence_packets None = All-nil IsPacketAt
      evidence_packets (Some next) = are next

      sync_packets : (place byte : ℕ) (fits : Bool) → slice_get bytes place ≡ Some byte → (byte == SYNC_BYTE) ≡ true
          → nat_le (place + TS_SIZE) (length bytes) ≡ fits
          → All IsPacketAt (at_sync onward place fits).starts
      sync_packets place byte false there syncs is = All-nil IsPacketAt
      sync_packets place byte true there syncs is =
          All-cons IsPacketAt place _ (is_packet place byte there syncs (leb-true (place + TS_SIZE) (length bytes) is))
          (are (place + TS_SIZE))

      byte_packets : (place byte : ℕ) (syncs : Bool) → slice_get bytes place ≡ Some byte → (byte == SYNC_BYTE) ≡ syncs
          → All IsPacketAt (at_byte packets bytes onward place syncs).starts
      byte_packets place byte true there is = sync_packets place byte (nat_le (place + TS_SIZE) (length bytes)) there is refl
      byte_packets place byte false there is = evidence_packets (next_evidence packets bytes place)

      synchronised_packets : (place : ℕ) (byte : Option ℕ) → slice_get bytes place ≡ byte
          → All IsPacketAt (synchronised packets bytes onward place byte).starts
      synchronised_packets place None there = All-nil IsPacketAt
      synchronised_packets place (Some byte) there = byte_packets place byte (byte == SYNC_BYTE) there refl

    module _ (onward : ℕ → Walk) (apart : (place : ℕ) → AreApart place (onward place).starts) where
      evidence_apart : (place : ℕ) (found : Option ℕ) → ((next : ℕ) → found ≡ Some next → place ≤ next)
          → AreApart place (at_evidence onward found).starts
      evidence_apart place None from = tt
      evidence_apart place (Some next) from = sooner place next (onward next).starts (from next refl) (apart next)

      sync_apart : (place : ℕ) (fits : Bool) → AreApart place (at_sync onward place fits).starts
      sync_apart place false = tt
      sync_apart place true = (omega arith, apart (place + TS_SIZE))

      byte_apart : (place : ℕ) (syncs : Bool) → AreApart place (at_byte packets bytes onward place syncs).starts
      byte_apart place true = sync_apart place (nat_le (place + TS_SIZE) (length bytes))
      byte_apart place false =
          evidence_apart place (next_evidence packets bytes place)
          (λ next is. found_from (has_evidence packets bytes) place (length bytes - place) next is)

      synchronised_apart : (place : ℕ) (byte : Option ℕ)
          → AreApart place (synchronised packets bytes onward place byte).starts
      synchronised_apart place None = tt
      synchronised_apart place (Some byte) = byte_apart place (byte == SYNC_BYTE)

    within_packets : (turns place : ℕ) → All IsPacketAt (walk_within packets bytes turns place).starts
    within_packets zero place = All-nil IsPacketAt
    within_packets (suc turns) place =
        synchronised_packets (walk_within packets bytes turns) (within_packets turns) place (slice_get bytes place) refl

    within_apart : (turns place : ℕ) → AreApart place (walk_within packets bytes turns place).starts
    within_apart zero place = tt
    within_apart (suc turns) place =
        synchronised_apart (walk_within packets bytes turns) (within_apart turns) place (slice_get bytes place)

    pub walk_packets : All IsPacketAt (walk_of packets bytes).starts
    walk_packets = evidence_packets (walk_from packets bytes) (within_packets (length bytes)) (next_evidence packets bytes 0)

    pub walk_apart : AreApart 0 (walk_of packets bytes).starts
    walk_apart =
        evidence_apart (walk_from packets bytes) (within_apart (length bytes)) 0 (next_evidence packets bytes 0)
        (λ next is. omega arith)

-- so they have no more bytes than came
bytes_of_parts : (flow : Flow) (from : ℕ) (starts : List ℕ) → All (Fits 0 (joined flow)) starts → AreApart from starts
    → from ≤ length (joined flow)
    → from + length (joined (map (λ place. part_of flow place TS_SIZE) starts)) ≤ length (joined flow)
bytes_of_parts flow from [] fit apart within = omega (arith, within)
bytes_of_parts flow from (start ∷ starts) fit apart within =
    let fits = All-head (Fits 0 (joined flow)) start starts fit in
    let others = bytes_of_parts flow (start + TS_SIZE) starts
    (All-tail (Fits 0 (joined flow)) start starts fit) apart.1 fits in
    omega (
      arith,
      apart.0,
      others,
      length-take TS_SIZE (drop start (joined flow)),
      length-drop start (joined flow),
      length-append (take TS_SIZE (drop start (joined flow))) (joined (map (λ place. part_of flow place TS_SIZE) starts)),
    )

-- what is cut and what goes on are the bytes
pub ts_sync_cuts : (packets : ℕ) (taken : Flow)
    → CutsTheRest (record {
      flow = ts_synced packets taken;
      tally = with_walk (walk_of packets (joined taken)) (of_cut taken (ts_synced packets taken));
    }) taken
ts_sync_cuts packets taken =
    omega (
      arith,
      bytes_of_parts taken 0 (walk_of packets (joined taken)).starts (packets_fit packets (joined taken))
          (walk_apart (joined taken) packets) (omega arith),
    )
