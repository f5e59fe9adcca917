-- Which refusal there is, by what a look at the run tells.
use Rattle.std.proofs.Common.{◌≡◌, ℕ, ◌<◌, ◌≤◌, ◌∙◌, ◌⊎◌, inl, inr, List, length, Bool, true, false, None, Some, refl, sym, ap, arith}
use Rattle.std.proofs.lemmas.Bool.Decides.{nat_tests}
use Rattle.std.specs.FinMap.{contains_key, len}
use Rattle.up_model.specs.Attrs.{Attrs}
use Rattle.up_model.specs.Value.{IsLegalValue}
use Rattle.up_model.specs.ValueTypes.{value_bytes}
use Rattle.up_model.specs.declared.limits.TheConstants.{MAX_ATTRS, MAX_VALUE}
use Rattle.up_model.specs.declared.value.Value.{Value}
use Rattle.up_model.specs.declared.value.Value.TheVariants.{Void, Flag, Unsigned, Words, Opaque}
use Rattle.up_dict.proofs.Found.{found_there, missing_there, len_held}
use Rattle.up_dict.specs.Held.{IsRun, held_in}
use Rattle.up_dict.specs.Places.{IsFoundAt, IsMissingAt}
use Rattle.up_dict.specs.Reading.{attrs_in}
use Rattle.up_dict.specs.Refusal.{refusal_of, refusal_of_name}
use Rattle.up_dict.specs.declared.set_refused.SetRefused.TheVariants.{TooMany}

module _ (held : Attrs) (name : List ℕ) where
  full : contains_key held name ≡ false → MAX_ATTRS ≤ len held → refusal_of_name held name ≡ Some (TooMany (len held))
  full new none_left = rw new (grind (arith, nat_tests))

  room : contains_key held name ≡ false → len held < MAX_ATTRS → refusal_of_name held name ≡ None
  room new left = rw new (grind (arith, nat_tests))

  there : contains_key held name ≡ true → refusal_of_name held name ≡ None
  there held = rw held refl

  small : (value : Value) → length (value_bytes value) ≤ MAX_VALUE → refusal_of held name value ≡ refusal_of_name held name
  small value fits = grind (arith, nat_tests)

-- a legal value is never too long
legal_fits : (value : Value) → IsLegalValue value → length (value_bytes value) ≤ MAX_VALUE
legal_fits Void legal = omega arith
legal_fits (Flag flag) legal = omega arith
legal_fits (Unsigned number) legal = omega arith
legal_fits (Words text) legal = legal.1
legal_fits (Opaque bytes) legal = legal

-- what is legal and has room isn't refused
pub taken : (held : Attrs) (name : List ℕ) (value : Value) → IsLegalValue value
    → (contains_key held name ≡ true) ⊎ (len held < MAX_ATTRS) → refusal_of held name value ≡ None
taken held name value legal (inl is) = small held name value (legal_fits value legal) ∙ there held name is
taken held name value legal (inr left) =
    small held name value (legal_fits value legal) ∙ either (contains_key held name) refl
  where
    either : (test : Bool) → contains_key held name ≡ test → refusal_of_name held name ≡ None
    either true is = there held name is
    either false is = room held name is left

module _ (run name : List ℕ) (byte : ℕ) (spells : IsRun run) (value : Value) (fits : length (value_bytes value) ≤ MAX_VALUE) where
  -- a name that is found takes a value that fits
  pub taken_there : IsFoundAt run name byte → refusal_of (held_in run) name value ≡ None
  taken_there found = small (held_in run) name value fits ∙ there (held_in run) name (found_there run name byte spells found)

  module _ (missing : IsMissingAt run name byte) (count : ℕ) (counted : count ≡ length (attrs_in run)) where
    -- so does a name that is missing, where fewer than 64 are held
    pub taken_new : count < MAX_ATTRS → refusal_of (held_in run) name value ≡ None
    taken_new left =
        small (held_in run) name value fits
        ∙ room (held_in run) name (missing_there run name byte spells missing) (omega (arith, counted, len_held run spells))

    -- and else not
    pub refused_new : MAX_ATTRS ≤ count → refusal_of (held_in run) name value ≡ Some (TooMany count)
    refused_new none_left =
        small (held_in run) name value fits
        ∙ full (held_in run) name (missing_there run name byte spells missing) (omega (arith, counted, len_held run spells))
        ∙ ap (λ number. Some (TooMany number)) (len_held run spells ∙ sym counted)
