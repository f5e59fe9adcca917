-- The bytes of packets, and their frames, one after the other.
use Rattle.std.proofs.Common.{◌≡◌, [], ◌∷◌, ◌++◌, refl, sym, ap, ◌∙◌}
use Rattle.std.proofs.lemmas.List.{append_assoc}
use Rattle.std.proofs.lemmas.List.Concat.{flat_map-append}
use Rattle.up_model.specs.FrameSpelling.{frame_of, frames_of}
use Rattle.up_model.specs.Packet.{Flow, joined}

pub joined-append : (front more : Flow) → joined (front ++ more) ≡ joined front ++ joined more
joined-append [] more = refl
joined-append (packet ∷ front) more =
    ap (λ l. packet.bytes ++ l) (joined-append front more) ∙ sym (append_assoc packet.bytes (joined front) (joined more))

pub frames_of-append : (front more : Flow) → frames_of (front ++ more) ≡ frames_of front ++ frames_of more
frames_of-append front more = flat_map-append frame_of front more
