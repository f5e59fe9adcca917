-- A frame that was found is that of a legal packet.
use Rattle.std.proofs.Common.{◌≡◌, ℕ, ◌<◌, List, get_or, Result, Ok, Err, sym, ap, subst, ◌∙◌}
use Rattle.std.specs.Borrow.{Bor}
use Rattle.std.specs.Prelude.{IfOk}
use Rattle.std.proofs.lemmas.List.Elements.{All-from_get_or}
use Rattle.up_base.specs.Number.{AreBytes}
use Rattle.up_frame.specs.Reading.{BeginsWithFrame, Parted, packet_with}
use Rattle.up_frame.specs.declared.frame_parts.FrameParts.{FrameParts}
use Rattle.up_model.proofs.FrameFields.{found_is}
use Rattle.up_model.proofs.FramePackets.{packet_takes, packet_again}
use Rattle.up_model.specs.FrameFronts.{packet_at}
use Rattle.up_model.specs.Packet.{IsLegal}
use Rattle.up_model.specs.declared.frame_layout.NotWhole.{NotWhole}
use Rattle.up_model.specs.declared.plain_packet.PlainPacket.{PlainPacket}

-- each is a byte
pub are_bytes : (bytes : List ℕ) → ((i : ℕ) → get_or bytes i 0 < 256) → AreBytes bytes
are_bytes bytes below = All-from_get_or (λ byte. byte < 256) bytes 0 (λ i within. below i)

pub begins : (bytes : List ℕ) (result : Result (FrameParts × Bor (List ℕ)) NotWhole) → AreBytes bytes → Parted result (packet_at bytes)
    → IfOk result (λ x. BeginsWithFrame bytes x.1.now)
begins bytes (Ok x) below parted =
    let packet = packet_with x.0 parted.0.list in
    let frame = packet_takes bytes (packet, x.1.now) below parted.1 in
    record { packet = packet; legal = frame.legal; is = frame.takes.parts }
begins bytes (Err refused) below parted = tt

-- what is found there is this packet
pub legal_found : (bytes rest behind : List ℕ) (packet : PlainPacket) → BeginsWithFrame bytes rest → packet_at bytes ≡ Ok (packet, behind)
    → IsLegal packet
legal_found bytes rest behind packet begin read =
    let same = found_is (begin.packet, rest) (packet, behind) (sym (packet_again begin.packet rest begin.legal) ∙ ap packet_at (sym begin.is) ∙ read) in
    subst IsLegal (ap (λ (p : PlainPacket × List ℕ). p.0) same) begin.legal
