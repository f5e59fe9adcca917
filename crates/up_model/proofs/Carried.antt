-- What a source carries is legal packets.
use Rattle.std.proofs.Common.{◌≡◌, ℕ, true, zero, suc, ◌+◌, ◌-◌, ◌/◌, ◌<◌, ◌≤◌, All, List, [], ◌++◌, length, take, drop, refl, sym, ap, ◌∙◌, subst, append-nil, arith}
use Rattle.std.proofs.lemmas.List.{append_assoc, length-take, take-append-drop}
use Rattle.up_base.specs.Lists.{IsPrefix}
use Rattle.std.proofs.Math.Nat.{div-eq_of_lt, div-le_of_le-mul, div-le_self}
use Rattle.std.proofs.lemmas.List.Elements.{All-nil, All-take}
use Rattle.std.proofs.lemmas.List.FromFn.{length-map-range_with_len}
use Rattle.up_base.specs.Number.{AreBytes}
use Rattle.up_model.proofs.Blocks.{full_blocks-blocks, full_blocks-go_on}
use Rattle.up_model.proofs.FrameMoreBytes.{frames_first}
use Rattle.up_model.proofs.FrameStreams.{few_frames, frames_are_legal}
use Rattle.up_model.proofs.Packets.{pieces_are_legal}
use Rattle.up_model.specs.Cutting.{piece, pieces}
use Rattle.up_model.specs.Ends.{reads_frames}
use Rattle.up_model.specs.Kinds.{IsWithinBounds}
use Rattle.up_model.specs.Outcomes.{carried_as, settled_source_flow, source_flow}
use Rattle.up_model.specs.Packet.{IsLegal, plain}
use Rattle.up_model.specs.declared.form.SourceForm.TheVariants.{Raw, Framed}
use Rattle.up_model.specs.declared.kind.Kind.{Kind}
use Rattle.up_model.specs.declared.kind.Kind.TheVariants.{Source}
use Rattle.up_model.specs.declared.outcome.Outcome.{Outcome}
use Rattle.up_model.specs.declared.outcome.Outcome.TheVariants.{Whole, ReadFault, WriteFault, BadFrame, TooLong, Broken, NoMemory}

-- what a source of frames is given are bytes
abbrev pub AreGiven : Kind → List ℕ → Type 0
AreGiven kind bytes = reads_frames kind ≡ true → AreBytes bytes

whole_is_legal : (kind : Kind) (bytes : List ℕ) → IsWithinBounds kind → AreGiven kind bytes
    → All IsLegal (source_flow kind bytes)
whole_is_legal (Source path (Raw block) limit) bytes within below =
    pieces_are_legal block bytes ((length bytes + block - 1) / block) within.1.1
whole_is_legal (Source path Framed limit) bytes within below = frames_are_legal bytes (below refl)
whole_is_legal kind bytes within below = All-nil IsLegal

so_far_is_legal : (kind : Kind) (bytes : List ℕ) → IsWithinBounds kind → AreGiven kind bytes
    → All IsLegal (settled_source_flow kind bytes)
so_far_is_legal (Source path (Raw block) limit) bytes within below =
    pieces_are_legal block bytes (length bytes / block) within.1.1
so_far_is_legal (Source path Framed limit) bytes within below = frames_are_legal bytes (below refl)
so_far_is_legal kind bytes within below = All-nil IsLegal

-- however a source ended
pub carried_are_legal : (outcome : Outcome) (kind : Kind) (bytes : List ℕ) → IsWithinBounds kind
    → AreGiven kind bytes → All IsLegal (carried_as outcome kind bytes)
carried_are_legal Whole kind bytes within below = whole_is_legal kind bytes within below
carried_are_legal ReadFault kind bytes within below = so_far_is_legal kind bytes within below
carried_are_legal (BadFrame offset) kind bytes within below =
    so_far_is_legal kind bytes within below
carried_are_legal (TooLong limit) kind bytes within below =
    so_far_is_legal kind (take limit bytes) within
    (λ frames. All-take (λ b. b < 256) limit bytes (below frames))
carried_are_legal WriteFault kind bytes within below = so_far_is_legal kind bytes within below
carried_are_legal Broken kind bytes within below = so_far_is_legal kind bytes within below
carried_are_legal NoMemory kind bytes within below = so_far_is_legal kind bytes within below

-- what a source has whatever comes after its bytes comes first of all that it has
pub so_far_first : (kind : Kind) (bytes more : List ℕ) → IsWithinBounds kind
    → IsPrefix (settled_source_flow kind bytes) (source_flow kind (bytes ++ more))
so_far_first (Source path (Raw block) limit) bytes more within =
    full_blocks-blocks block bytes more (omega (arith, within.1.0))
so_far_first (Source path Framed limit) bytes more within = frames_first bytes more
so_far_first kind bytes more within = ([], refl)

pub settled_more : (kind : Kind) (bytes more : List ℕ) → IsWithinBounds kind
    → IsPrefix (settled_source_flow kind bytes) (settled_source_flow kind (bytes ++ more))
settled_more (Source path (Raw block) limit) bytes more within =
    full_blocks-go_on block bytes more (omega (arith, within.1.0))
settled_more (Source path Framed limit) bytes more within = frames_first bytes more
settled_more kind bytes more within = ([], refl)

-- so does what it carried, however it ended; where it is whole, it gave all
pub carried_is_first : (outcome : Outcome) (kind : Kind) (bytes more : List ℕ) → IsWithinBounds kind
    → (outcome ≡ Whole → more ≡ [])
    → IsPrefix (carried_as outcome kind bytes) (source_flow kind (bytes ++ more))
carried_is_first Whole kind bytes more within whole =
    let all : bytes ++ more ≡ bytes = ap (λ l. bytes ++ l) (whole refl) ∙ append-nil bytes in
    subst (λ (l : List ℕ). IsPrefix (source_flow kind bytes) (source_flow kind l)) (sym all)
    ([], sym (append-nil (source_flow kind bytes)))
carried_is_first ReadFault kind bytes more within whole = so_far_first kind bytes more within
carried_is_first (BadFrame offset) kind bytes more within whole =
    so_far_first kind bytes more within
carried_is_first (TooLong limit) kind bytes more within whole =
    let all : take limit bytes ++ (drop limit bytes ++ more) ≡ bytes ++ more =
    sym (append_assoc (take limit bytes) (drop limit bytes) more)
    ∙ ap (λ l. l ++ more) (take-append-drop limit bytes) in
    subst (λ (l : List ℕ). IsPrefix (settled_source_flow kind (take limit bytes)) (source_flow kind l))
    all
    (so_far_first kind (take limit bytes) (drop limit bytes ++ more) within)
carried_is_first WriteFault kind bytes more within whole = so_far_first kind bytes more within
carried_is_first Broken kind bytes more within whole = so_far_first kind bytes more within
carried_is_first NoMemory kind bytes more within whole = so_far_first kind bytes more within

-- it carried no more packets than bytes
few_pieces : (size : ℕ) (bytes : List ℕ) (count : ℕ) → length (pieces size bytes count) ≡ count
few_pieces size bytes count =
    length-map-range_with_len (λ place. plain (piece size bytes place)) 0 count

few_blocks : (size count : ℕ) → 0 < size → (count + size - 1) / size ≤ count
few_blocks zero count some = absurd (omega (arith, some))
few_blocks (suc size) zero some =
    let none : size / suc size ≡ 0 = div-eq_of_lt (omega arith) in
    let less : 0 + suc size - 1 ≡ size = omega arith in
    rw (less, none) (omega arith)
few_blocks (suc size) (suc count) some = div-le_of_le-mul (suc size) (omega arith)

few_whole : (kind : Kind) (bytes : List ℕ) → IsWithinBounds kind
    → length (source_flow kind bytes) ≤ length bytes
few_whole (Source path (Raw block) limit) bytes within =
    omega (
      arith,
      few_pieces block bytes ((length bytes + block - 1) / block),
      few_blocks block (length bytes) (omega (arith, within.1.0)),
    )
few_whole (Source path Framed limit) bytes within = few_frames bytes
few_whole kind bytes within = omega arith

pub few_settled : (kind : Kind) (bytes : List ℕ)
    → length (settled_source_flow kind bytes) ≤ length bytes
few_settled (Source path (Raw block) limit) bytes =
    omega (arith, few_pieces block bytes (length bytes / block), div-le_self (length bytes) block)
few_settled (Source path Framed limit) bytes = few_frames bytes
few_settled kind bytes = omega arith

pub few_carried : (outcome : Outcome) (kind : Kind) (bytes : List ℕ) → IsWithinBounds kind
    → length (carried_as outcome kind bytes) ≤ length bytes
few_carried Whole kind bytes within = few_whole kind bytes within
few_carried ReadFault kind bytes within = few_settled kind bytes
few_carried (BadFrame offset) kind bytes within = few_settled kind bytes
few_carried (TooLong limit) kind bytes within =
    omega (arith, few_settled kind (take limit bytes), length-take limit bytes)
few_carried WriteFault kind bytes within = few_settled kind bytes
few_carried Broken kind bytes within = few_settled kind bytes
few_carried NoMemory kind bytes within = few_settled kind bytes
