-- The kind `ts_check` keeps the laws.
use Rattle.std.proofs.Common.{◌≡◌, ◌+◌, ◌≤◌, [], ◌∷◌, ◌++◌, All, length, map, Bool, true, false, cond, refl, ap, ◌∙◌, arith, length-append}
use Rattle.std.specs.List.{filter}
use Rattle.std.proofs.lemmas.List.Concat.{flat_map-append}
use Rattle.std.proofs.lemmas.List.Elements.{All-nil, All-cons, All-head, All-tail, All-append, All-filter}
use Rattle.up_base.specs.Transport.{is_ts_packet}
use Rattle.up_base.specs.declared.transport.TheConstants.{TS_SIZE}
use Rattle.up_model.proofs.Cuts.{joined-blocks}
use Rattle.up_model.proofs.Joined.{joined-append}
use Rattle.up_model.proofs.Lawful.{KeepsFlows}
use Rattle.up_model.proofs.Legality.{with_bytes}
use Rattle.up_model.proofs.Packets.{pieces_are_legal}
use Rattle.up_model.specs.Cutting.{blocks}
use Rattle.up_model.specs.Packet.{PlainPacket, Flow, IsLegal, joined}
use Rattle.up_model.specs.Parts.{of_cut}
use Rattle.up_model.specs.Tallies.{IsAtMost}
use Rattle.up_model.specs.TsCheck.{ts_pieces, ts_checked_packet, ts_checked, ts_check_meaning}

-- the bytes of the packets that are kept are no more
fewer_bytes : (keeps : Bool) (packet : PlainPacket) (kept flow : Flow) → length (joined kept) ≤ length (joined flow)
    → length (joined (cond keeps (packet ∷ kept) kept)) ≤ length (joined (packet ∷ flow))
fewer_bytes true packet kept flow few =
    omega (arith, length-append packet.bytes (joined kept), length-append packet.bytes (joined flow), few)
fewer_bytes false packet kept flow few = omega (arith, length-append packet.bytes (joined flow), few)

joined_kept : (test : PlainPacket → Bool) (flow : Flow) → length (joined (filter test flow)) ≤ length (joined flow)
joined_kept test [] = omega arith
joined_kept test (packet ∷ flow) = fewer_bytes (test packet) packet (filter test flow) flow (joined_kept test flow)

-- other attributes change no byte
joined-with_attrs : (packet : PlainPacket) (flow : Flow)
    → joined (map (λ piece. record packet { bytes = piece.bytes }) flow) ≡ joined flow
joined-with_attrs packet [] = refl
joined-with_attrs packet (piece ∷ flow) = ap (λ bytes. piece.bytes ++ bytes) (joined-with_attrs packet flow)

-- a packet gives no more bytes than it has
pub checked_packet_within : (packet : PlainPacket) → length (joined (ts_checked_packet packet)) ≤ length packet.bytes
checked_packet_within packet =
    let pieces = joined_kept (λ piece. is_ts_packet piece.bytes) (blocks TS_SIZE packet.bytes) in
    let all : length (joined (blocks TS_SIZE packet.bytes)) ≡ length packet.bytes =
    ap length (joined-blocks TS_SIZE packet.bytes (omega arith)) in
    rw (joined-with_attrs packet (ts_pieces packet)) (omega (arith, pieces, all))

-- nor does a flow
pub checked_within : (taken : Flow) → length (joined (ts_checked taken)) ≤ length (joined taken)
checked_within [] = omega arith
checked_within (packet ∷ taken) =
    rw (joined-append (ts_checked_packet packet) (ts_checked taken))
    (omega (
      arith,
      length-append (joined (ts_checked_packet packet)) (joined (ts_checked taken)),
      length-append packet.bytes (joined taken),
      checked_packet_within packet,
      checked_within taken,
    ))

pub checked-append : (taken more : Flow) → ts_checked (taken ++ more) ≡ ts_checked taken ++ ts_checked more
checked-append taken more = flat_map-append ts_checked_packet taken more

-- so each sum only grows
sums_grow : (taken more : Flow)
    → IsAtMost (of_cut taken (ts_checked taken)) (of_cut (taken ++ more) (ts_checked (taken ++ more)))
sums_grow taken more =
    let put = checked-append taken more in
    let bytes_taken : length (joined (taken ++ more)) ≡ length (joined taken) + length (joined more) =
    ap length (joined-append taken more) ∙ length-append (joined taken) (joined more) in
    let bytes_put : length (joined (ts_checked (taken ++ more)))
    ≡ length (joined (ts_checked taken)) + length (joined (ts_checked more)) =
    ap (λ flow. length (joined flow)) put ∙ ap length (joined-append (ts_checked taken) (ts_checked more))
    ∙ length-append (joined (ts_checked taken)) (joined (ts_checked more)) in
    let packets_put : length (ts_checked (taken ++ more)) ≡ length (ts_checked taken) + length (ts_checked more) =
    ap length put ∙ length-append (ts_checked taken) (ts_checked more) in
    record {
      taken = omega (arith, length-append taken more);
      put = omega (arith, packets_put);
      dropped = omega arith;
      cut = omega (arith, bytes_taken, bytes_put, checked_within taken, checked_within more);
      gained = omega arith;
      lost = omega arith;
    }

-- a piece of a legal packet is one
kept_attrs_are_legal : (packet : PlainPacket) → IsLegal packet → (pieces : Flow) → All IsLegal pieces
    → All IsLegal (map (λ piece. record packet { bytes = piece.bytes }) pieces)
kept_attrs_are_legal packet legal [] all = All-nil IsLegal
kept_attrs_are_legal packet legal (piece ∷ pieces) all =
    All-cons IsLegal _ _ (with_bytes packet legal piece.bytes (All-head IsLegal piece pieces all).size)
    (kept_attrs_are_legal packet legal pieces (All-tail IsLegal piece pieces all))

pub checked_is_legal : (taken : Flow) → All IsLegal taken → All IsLegal (ts_checked taken)
checked_is_legal [] legal = All-nil IsLegal
checked_is_legal (packet ∷ taken) legal =
    All-append IsLegal (ts_checked_packet packet) (ts_checked taken)
    (kept_attrs_are_legal packet (All-head IsLegal packet taken legal) (ts_pieces packet)
    (All-filter (λ piece. is_ts_packet piece.bytes) IsLegal (blocks TS_SIZE packet.bytes)
    (pieces_are_legal TS_SIZE packet.bytes _ (omega arith))))
    (checked_is_legal taken (All-tail IsLegal packet taken legal))

pub ts_check_keeps_flows : KeepsFlows ts_check_meaning
ts_check_keeps_flows = record {
  settles_nothing = refl;
  settles_no_sums = refl;
  owes_nothing = refl;
  owes_no_sums = refl;
  longer = λ taken more. (ts_checked more, checked-append taken more);
  whole = λ taken more. (ts_checked more, checked-append taken more);
  sums_longer = sums_grow;
  sums_whole = sums_grow;
  counts_settled = λ taken. record { packets_taken = refl; packets_put = refl };
  counts_whole = λ taken. record { packets_taken = refl; packets_put = refl };
  legal = checked_is_legal;
  writes_on = λ taken more. ([], refl);
}
