-- What the bytes of a source show whatever comes behind them.
use Rattle.std.proofs.Common.{◌≡◌, ℕ, suc, ◌+◌, ◌-◌, ◌<◌, ◌≤◌, Bool, true, false, List, [], ◌++◌, length, take, append-nil, Option, Some, None, refl, sym, ap, ◌∙◌, arith, length-append, inl, inr}
use Rattle.std.specs.Prelude.{◌↔◌, ◌≢◌, nat_lt, option_map, replicate, unwrap_or, if◌then◌else◌}
use Rattle.std.specs.Option.{option_map_or, option_or}
use Rattle.std.proofs.lemmas.Bool.Decides.{leb_tells}
use Rattle.std.proofs.lemmas.Bool.{false≢true}
use Rattle.std.proofs.lemmas.List.{length-replicate, take-append-le, take_all}
use Rattle.std.proofs.lemmas.Option.{same_Some}
use Rattle.std.proofs.Math.Seq.{take-append-add}
use Rattle.up_base.specs.Lists.{IsPrefix}
use Rattle.up_model.proofs.FrameMoreBytes.{stays_broken}
use Rattle.up_model.specs.FrameStreams.{broken_at, cut_at}
use Rattle.up_model.specs.Outcomes.{Shows, too_long, shown_by, outcome_at_end, source_outcome}
use Rattle.up_model.specs.declared.form.SourceForm.{SourceForm}
use Rattle.up_model.specs.declared.form.SourceForm.TheVariants.{Raw, Framed}
use Rattle.up_model.specs.declared.outcome.Outcome.{Outcome}
use Rattle.up_model.specs.declared.outcome.Outcome.TheVariants.{Whole, ReadFault, WriteFault, BadFrame, TooLong, Broken, NoMemory}

-- the outcome is one that bytes alone tell
abbrev pub is_of_bytes : Outcome → Bool
is_of_bytes Whole = true
is_of_bytes ReadFault = false
is_of_bytes WriteFault = false
is_of_bytes (BadFrame offset) = true
is_of_bytes (TooLong limit) = true
is_of_bytes Broken = false
is_of_bytes NoMemory = false

-- a place of a broken frame is shown, whatever else is
broken_shown : (place : Option ℕ) (other : Option Outcome) (at : ℕ) → place ≡ Some at → option_or (option_map BadFrame place) other ≡ Some (BadFrame at)
broken_shown place other at is = ap (λ p. option_or (option_map BadFrame p) other) is

unbroken_shown : (place : Option ℕ) (other : Option Outcome) → place ≡ None → option_or (option_map BadFrame place) other ≡ other
unbroken_shown place other is = ap (λ p. option_or (option_map BadFrame p) other) is

long_stays : (limit : ℕ) (bytes more : List ℕ) (o : Outcome) → too_long limit bytes ≡ Some o → too_long limit (bytes ++ more) ≡ Some o
long_stays limit bytes more o is = elim (leb_tells (suc limit) (length bytes)) [
  | inl long ↦
      elim (leb_tells (suc limit) (length (bytes ++ more))) [
        | inl longer ↦ rw longer.0 (sym (ap (λ b. if b then Some (TooLong limit) else None) long.0) ∙ is)
        | inr other ↦ absurd (omega (arith, long.1, other.1, length-append bytes more))
      ]
  | inr short ↦ absurd (let no : None ≡ Some o = sym (ap (λ b. if b then Some (TooLong limit) else None) short.0) ∙ is in cc)
]

short_within : (limit : ℕ) (bytes : List ℕ) → too_long limit bytes ≡ None → length bytes ≤ limit
short_within limit bytes is = elim (leb_tells (suc limit) (length bytes)) [
  | inl long ↦ absurd (let no : Some (TooLong limit) ≡ None = sym (ap (λ b. if b then Some (TooLong limit) else None) long.0) ∙ is in cc)
  | inr short ↦ omega (arith, short.1)
]

-- the first of more bytes begin with the first of these
first_begin : (limit : ℕ) (bytes more : List ℕ) → IsPrefix (take limit bytes) (take limit (bytes ++ more))
first_begin limit bytes more = elim (leb_tells limit (length bytes)) [
  | inl long ↦ ([], take-append-le limit bytes more long.1 ∙ sym (append-nil (take limit bytes)))
  | inr short ↦ (
    take (limit - length bytes) more,
    let n : length bytes + (limit - length bytes) ≡ limit = omega (arith, short.1) in
        ap (λ k. take k (bytes ++ more)) (sym n) ∙ take-append-add bytes more (limit - length bytes)
        ∙ ap (λ l. l ++ take (limit - length bytes) more) (sym (take_all limit bytes (omega (arith, short.1)))),
  )
]

frames_stay : (limit : ℕ) (bytes more : List ℕ) (o : Outcome) (broken : Option ℕ) → broken_at (take limit bytes) ≡ broken
    → option_or (option_map BadFrame broken) (too_long limit bytes) ≡ Some o
    → shown_by Framed limit (bytes ++ more) ≡ Some o
frames_stay limit bytes more o (Some at) at_is is =
    let still : broken_at (take limit (bytes ++ more)) ≡ Some at =
    let begins = first_begin limit bytes more in
    ap broken_at begins.1 ∙ stays_broken (take limit bytes) begins.0 at at_is in
    broken_shown (broken_at (take limit (bytes ++ more))) (too_long limit (bytes ++ more)) at still ∙ is
frames_stay limit bytes more o None at_is is =
    let longer : too_long limit (bytes ++ more) ≡ Some o = long_stays limit bytes more o is in
    let past : limit ≤ length bytes = past_limit limit bytes o is in
    let same : take limit (bytes ++ more) ≡ take limit bytes = take-append-le limit bytes more past in
    unbroken_shown (broken_at (take limit (bytes ++ more))) (too_long limit (bytes ++ more)) (ap broken_at same ∙ at_is) ∙ longer
  where
    past_limit : (limit : ℕ) (bytes : List ℕ) (o : Outcome) → too_long limit bytes ≡ Some o → limit ≤ length bytes
    past_limit limit bytes o is = elim (leb_tells (suc limit) (length bytes)) [
      | inl long ↦ omega (arith, long.1)
      | inr short ↦ absurd (let no : None ≡ Some o = sym (ap (λ b. if b then Some (TooLong limit) else None) short.0) ∙ is in cc)
    ]

pub shown_stays : (form : SourceForm) (limit : ℕ) (bytes more : List ℕ) (o : Outcome) → shown_by form limit bytes ≡ Some o → shown_by form limit (bytes ++ more) ≡ Some o
shown_stays (Raw block) limit bytes more o is = long_stays limit bytes more o is
shown_stays Framed limit bytes more o is = frames_stay limit bytes more o (broken_at (take limit bytes)) refl is

-- where nothing is shown, the bytes are within the limit
none_after : (broken : Option ℕ) (other : Option Outcome) → option_or (option_map BadFrame broken) other ≡ None → other ≡ None
none_after (Some at) other is = absurd (cc)
none_after None other is = is

pub unshown_within : (form : SourceForm) (limit : ℕ) (bytes : List ℕ) → shown_by form limit bytes ≡ None → length bytes ≤ limit
unshown_within (Raw block) limit bytes is = short_within limit bytes is
unshown_within Framed limit bytes is = short_within limit bytes (none_after (broken_at (take limit bytes)) (too_long limit bytes) is)

-- what is shown is told
pub shown_is_told : (form : SourceForm) (limit : ℕ) (bytes : List ℕ) (o : Outcome) → shown_by form limit bytes ≡ Some o → source_outcome form limit bytes ≡ o
shown_is_told form limit bytes o is = ap (λ s. unwrap_or s (outcome_at_end form bytes)) is

pub unshown_is_at_end : (form : SourceForm) (limit : ℕ) (bytes : List ℕ) → shown_by form limit bytes ≡ None → source_outcome form limit bytes ≡ outcome_at_end form bytes
unshown_is_at_end form limit bytes is = ap (λ s. unwrap_or s (outcome_at_end form bytes)) is

pub shown_of_all : (form : SourceForm) (limit : ℕ) (bytes more : List ℕ) (o : Outcome) → shown_by form limit bytes ≡ Some o → source_outcome form limit (bytes ++ more) ≡ o
shown_of_all form limit bytes more o is = shown_is_told form limit (bytes ++ more) o (shown_stays form limit bytes more o is)

-- what is shown is a cause, and no fault
abbrev pub is_shown : Outcome → Bool
is_shown Whole = false
is_shown ReadFault = false
is_shown WriteFault = false
is_shown (BadFrame offset) = true
is_shown (TooLong limit) = true
is_shown Broken = false
is_shown NoMemory = false

long_is_shown : (limit : ℕ) (bytes : List ℕ) (o : Outcome) → too_long limit bytes ≡ Some o → is_shown o ≡ true
long_is_shown limit bytes o is = by_length (nat_lt limit (length bytes)) is
  where
    by_length : (b : Bool) → (if b then Some (TooLong limit) else None) ≡ Some o → is_shown o ≡ true
    by_length true is = ap is_shown (sym (same_Some (TooLong limit) o is))
    by_length false is = absurd (cc)

pub shown_is_cause : (form : SourceForm) (limit : ℕ) (bytes : List ℕ) (o : Outcome) → shown_by form limit bytes ≡ Some o → is_shown o ≡ true
shown_is_cause (Raw block) limit bytes o is = long_is_shown limit bytes o is
shown_is_cause Framed limit bytes o is = by_place (broken_at (take limit bytes)) is
  where
    by_place : (place : Option ℕ) → option_or (option_map BadFrame place) (too_long limit bytes) ≡ Some o → is_shown o ≡ true
    by_place (Some at) is = ap is_shown (sym (same_Some (BadFrame at) o is))
    by_place None is = long_is_shown limit bytes o is

-- a whole source shows nothing
pub whole_unshown : (form : SourceForm) (limit : ℕ) (bytes : List ℕ) → source_outcome form limit bytes ≡ Whole → shown_by form limit bytes ≡ None
whole_unshown form limit bytes is = by_shown (shown_by form limit bytes) refl
  where
    by_shown : (shown : Option Outcome) → shown_by form limit bytes ≡ shown → shown ≡ None
    by_shown None shows = refl
    by_shown (Some o) shows =
        let whole : o ≡ Whole = sym (shown_is_told form limit bytes o shows) ∙ is in
        let no : true ≡ false = sym (shown_is_cause form limit bytes o shows) ∙ ap is_shown whole in
        absurd (cc)

-- what is told is told of bytes
end_of_bytes : (form : SourceForm) (bytes : List ℕ) → is_of_bytes (outcome_at_end form bytes) ≡ true
end_of_bytes (Raw block) bytes = refl
end_of_bytes Framed bytes = by_cut (cut_at bytes)
  where
    by_cut : (cut : Option ℕ) → is_of_bytes (option_map_or BadFrame cut Whole) ≡ true
    by_cut None = refl
    by_cut (Some at) = refl

shown_of_bytes : (o : Outcome) → is_shown o ≡ true → is_of_bytes o ≡ true
shown_of_bytes Whole is = refl
shown_of_bytes ReadFault is = absurd (cc)
shown_of_bytes WriteFault is = absurd (cc)
shown_of_bytes (BadFrame offset) is = refl
shown_of_bytes (TooLong limit) is = refl
shown_of_bytes Broken is = absurd (cc)
shown_of_bytes NoMemory is = absurd (cc)

pub not_fault : (form : SourceForm) (limit : ℕ) (bytes : List ℕ) → is_of_bytes (source_outcome form limit bytes) ≡ true
not_fault form limit bytes = by_shown (shown_by form limit bytes) refl
  where
    by_shown : (shown : Option Outcome) → shown_by form limit bytes ≡ shown → is_of_bytes (unwrap_or shown (outcome_at_end form bytes)) ≡ true
    by_shown None shows = end_of_bytes form bytes
    by_shown (Some o) shows = shown_of_bytes o (shown_is_cause form limit bytes o shows)

-- what is shown: a broken field of a frame within the limit
shown_broken : (form : SourceForm) (limit : ℕ) (bytes : List ℕ) (at : ℕ) → shown_by form limit bytes ≡ Some (BadFrame at)
    → (form ≡ Framed) × (broken_at (take limit bytes) ≡ Some at)
shown_broken (Raw block) limit bytes at is = by_length (nat_lt limit (length bytes)) is
  where
    by_length : (b : Bool) → (if b then Some (TooLong limit) else None) ≡ Some (BadFrame at) → (Raw block ≡ Framed) × (broken_at (take limit bytes) ≡ Some at)
    by_length true is = absurd (cc)
    by_length false is = absurd (cc)
shown_broken Framed limit bytes at is = (refl, by_place (broken_at (take limit bytes)) is)
  where
    by_length : (b : Bool) → (if b then Some (TooLong limit) else None) ≡ Some (BadFrame at) → None ≡ Some at
    by_length true is = absurd (cc)
    by_length false is = absurd (cc)

    by_place : (place : Option ℕ) → option_or (option_map BadFrame place) (too_long limit bytes) ≡ Some (BadFrame at) → place ≡ Some at
    by_place (Some place) is = cc
    by_place None is = by_length (nat_lt limit (length bytes)) is

broken_is_shown : (form : SourceForm) (limit : ℕ) (bytes : List ℕ) (at : ℕ) → form ≡ Framed → broken_at (take limit bytes) ≡ Some at
    → shown_by form limit bytes ≡ Some (BadFrame at)
broken_is_shown (Raw block) limit bytes at framed is = absurd (cc)
broken_is_shown Framed limit bytes at framed is = broken_shown (broken_at (take limit bytes)) (too_long limit bytes) at is

-- or a byte past it
long_so : (limit : ℕ) (bytes : List ℕ) (most : ℕ) → too_long limit bytes ≡ Some (TooLong most) → (most ≡ limit) × (limit < length bytes)
long_so limit bytes most is = elim (leb_tells (suc limit) (length bytes)) [
  | inl long ↦ (
    let same : TooLong limit ≡ TooLong most = same_Some (TooLong limit) (TooLong most) (sym (ap (λ b. if b then Some (TooLong limit) else None) long.0) ∙ is) in cc,
    omega (arith, long.1),
  )
  | inr short ↦ absurd (let no : None ≡ Some (TooLong most) = sym (ap (λ b. if b then Some (TooLong limit) else None) short.0) ∙ is in cc)
]

so_long : (limit : ℕ) (bytes : List ℕ) (most : ℕ) → most ≡ limit → limit < length bytes → too_long limit bytes ≡ Some (TooLong most)
so_long limit bytes most same past = elim (leb_tells (suc limit) (length bytes)) [
  | inl long ↦ ap (λ b. if b then Some (TooLong limit) else None) long.0 ∙ ap (λ n. Some (TooLong n)) (sym same)
  | inr short ↦ absurd (omega (arith, short.1, past))
]

shown_long : (form : SourceForm) (limit : ℕ) (bytes : List ℕ) (most : ℕ) → shown_by form limit bytes ≡ Some (TooLong most)
    → (most ≡ limit) × (limit < length bytes) × (form ≡ Framed → broken_at (take limit bytes) ≡ None)
shown_long (Raw block) limit bytes most is = let long = long_so limit bytes most is in (long.0, long.1, λ framed. absurd (cc))
shown_long Framed limit bytes most is = by_place (broken_at (take limit bytes)) refl is
  where
    by_place : (place : Option ℕ) → broken_at (take limit bytes) ≡ place → option_or (option_map BadFrame place) (too_long limit bytes) ≡ Some (TooLong most)
        → (most ≡ limit) × (limit < length bytes) × (Framed ≡ Framed → broken_at (take limit bytes) ≡ None)
    by_place (Some at) broken is = absurd (cc)
    by_place None unbroken is = let long = long_so limit bytes most is in (long.0, long.1, λ framed. unbroken)

long_shown : (form : SourceForm) (limit : ℕ) (bytes : List ℕ) (most : ℕ) → most ≡ limit → limit < length bytes
    → (form ≡ Framed → broken_at (take limit bytes) ≡ None) → shown_by form limit bytes ≡ Some (TooLong most)
long_shown (Raw block) limit bytes most same past unbroken = so_long limit bytes most same past
long_shown Framed limit bytes most same past unbroken =
    unbroken_shown (broken_at (take limit bytes)) (too_long limit bytes) (unbroken refl) ∙ so_long limit bytes most same past

pub shown_each : (form : SourceForm) (limit : ℕ) (bytes : List ℕ) (o : Outcome) → (shown_by form limit bytes ≡ Some o) ↔ Shows form limit bytes o
shown_each form limit bytes Whole = (λ is. false≢true (shown_is_cause form limit bytes Whole is), λ no. absurd no)
shown_each form limit bytes ReadFault = (λ is. false≢true (shown_is_cause form limit bytes ReadFault is), λ no. absurd no)
shown_each form limit bytes WriteFault = (λ is. false≢true (shown_is_cause form limit bytes WriteFault is), λ no. absurd no)
shown_each form limit bytes (BadFrame at) = (shown_broken form limit bytes at, λ is. broken_is_shown form limit bytes at is.0 is.1)
shown_each form limit bytes (TooLong most) = (
  shown_long form limit bytes most,
  λ is. long_shown form limit bytes most is.0 is.1 is.2,
)
shown_each form limit bytes Broken = (λ is. false≢true (shown_is_cause form limit bytes Broken is), λ no. absurd no)
shown_each form limit bytes NoMemory = (λ is. false≢true (shown_is_cause form limit bytes NoMemory is), λ no. absurd no)

-- no bytes are whole whatever comes behind them: some pass the limit
not_always_whole : (form : SourceForm) (limit : ℕ) (bytes : List ℕ) → ((more : List ℕ) → source_outcome form limit (bytes ++ more) ≡ Whole) → ⊥
not_always_whole form limit bytes whole =
    let more = replicate (suc limit) 0 in
    let within = unshown_within form limit (bytes ++ more) (whole_unshown form limit (bytes ++ more) (whole more)) in
    omega (arith, within, length-append bytes more, length-replicate {A = ℕ} (suc limit) 0)

-- what is told of all bytes that begin so and isn't shown is a frame that these leave unfinished
pub told_unshown : (form : SourceForm) (limit : ℕ) (bytes : List ℕ) (o : Outcome) → ((more : List ℕ) → source_outcome form limit (bytes ++ more) ≡ o)
    → shown_by form limit bytes ≡ None → (form ≡ Framed) × (option_map BadFrame (cut_at bytes) ≡ Some o)
told_unshown form limit bytes o told none = by_form form refl
  where
    at_end : outcome_at_end form bytes ≡ o
    at_end = sym (unshown_is_at_end form limit bytes none) ∙ ap (source_outcome form limit) (sym (append-nil bytes)) ∙ told []

    not_whole : o ≢ Whole
    not_whole whole = not_always_whole form limit bytes (λ more. told more ∙ whole)

    by_cut : (cut : Option ℕ) → option_map_or BadFrame cut Whole ≡ o → option_map BadFrame cut ≡ Some o
    by_cut None is = absurd (not_whole (sym is))
    by_cut (Some at) is = ap Some is

    by_form : (f : SourceForm) → form ≡ f → (f ≡ Framed) × (option_map BadFrame (cut_at bytes) ≡ Some o)
    by_form (Raw block) is = absurd (not_whole (sym at_end ∙ ap (λ f. outcome_at_end f bytes) is))
    by_form Framed is = (refl, by_cut (cut_at bytes) (sym (ap (λ f. outcome_at_end f bytes) is) ∙ at_end))
