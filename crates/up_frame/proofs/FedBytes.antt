-- Bytes that are fed piece by piece, and their rest.
use Rattle.std.proofs.Common.{◌≡◌, ℕ, ◌+◌, List, drop, Option, None, Ok, Err, ap, ◌∙◌}
use Rattle.std.proofs.lemmas.List.{drop-drop}
use Rattle.up_frame.specs.Judging.{IsJudged, IsAllJudged, IsRest, EndsAt}
use Rattle.up_frame.specs.declared.judged.Judged.{Judged}
use Rattle.up_model.proofs.FrameStreams.{first_is, none_is}
use Rattle.up_model.specs.FrameFronts.{packet_at}
use Rattle.up_model.specs.FrameStreams.{Stream, rest_of_frames}
use Rattle.up_model.specs.declared.frame_layout.NotWhole.{NotWhole}
use Rattle.up_model.specs.declared.frame_layout.NotWhole.TheVariants.{Unfinished}

-- the frames before the place are whole, and behind it the bytes were judged so far
pub record IsPassed (bytes : List ℕ) (place : ℕ) (judged : Option Judged) : Type 0 where
  pub rest : rest_of_frames bytes ≡ rest_of_frames (drop place bytes)
  pub on : IsJudged judged (drop place bytes)

-- a frame more was passed
pub passed_more : (bytes : List ℕ) (place size : ℕ) (judged : Option Judged) → EndsAt (Ok size) (drop place bytes)
    → IsPassed bytes place judged → IsPassed bytes (place + size) None
passed_more bytes place size judged ends so_far = record {
  rest = so_far.rest ∙ ap (λ (s : Stream). s.rest) (first_is (drop place bytes) (ends.0, drop size (drop place bytes)) ends.1)
      ∙ ap rest_of_frames (drop-drop size place bytes);
  on = tt;
}

-- no frame more is whole
pub passed_all : (bytes : List ℕ) (place : ℕ) (refused : NotWhole) (before judged : Option Judged) → packet_at (drop place bytes) ≡ Err refused
    → IsJudged judged (drop place bytes) → (refused ≡ Unfinished → IsAllJudged judged (drop place bytes)) → IsPassed bytes place before
    → IsRest bytes place refused judged
passed_all bytes place refused before judged e on all so_far = record {
  rest = so_far.rest ∙ ap (λ (s : Stream). s.rest) (none_is (drop place bytes) refused e);
  front = e;
  on = on;
  all = all;
}
