-- The value of an attribute, its type and its length, as they are read and written.
use Rattle.std.proofs.Common.{◌≡◌, ℕ, zero, suc, ◌^◌, ◌<◌, ◌≤◌, ◌⊎◌, Bool, true, false, cond, eqb, leb, List, [], ◌∷◌, ◌++◌, length, Option, Some, None, Ok, refl, sym, ap, subst, ◌∙◌, append_assoc, arith, inl, inr}
use Rattle.std.proofs.lemmas.Bool.{eqb-true, leb-true, le-leb}
use Rattle.std.proofs.lemmas.List.{nil_from_length}
use Rattle.std.proofs.lemmas.List.Elements.{All-tail}
use Rattle.up_base.proofs.NumberBytes.{bytes_of_number, number_of_bytes}
use Rattle.up_base.specs.Number.{AreBytes, big_endian, big_endian_bytes}
use Rattle.up_model.proofs.FrameFields.{bind_ok, found, found_is, Takes, takes_both, field_takes, field_again, number_takes, number_again, number_below}
use Rattle.up_model.specs.FrameFronts.{Front, ◌>>=◌, field, number_at, type_by, type_at, is_size_of, is_value_of, value_at}
use Rattle.up_model.specs.FrameSpelling.{sized}
use Rattle.up_model.specs.Value.{IsLegalValue}
use Rattle.up_model.specs.ValueTypes.{value_of, value_bytes, number_of, type_with, type_of}
use Rattle.up_model.specs.declared.limits.TheConstants.{MAX_VALUE}
use Rattle.up_model.specs.declared.value.Value.{Value}
use Rattle.up_model.specs.declared.value.Value.TheVariants.{Void, Flag, Unsigned, Words, Opaque}
use Rattle.up_model.specs.declared.value_type.ValueType.{ValueType}
use Rattle.up_model.specs.declared.value_type.ValueType.TheVariants as types

-- a choice that gave a type
chosen : (test : Bool) (first : ValueType) (others : Option ValueType) (type_ : ValueType) → cond test (Some first) others ≡ Some type_
    → ((test ≡ true) × (first ≡ type_)) ⊎ (others ≡ Some type_)
chosen true first others type_ e = inl (refl, cc)
chosen false first others type_ e = inr e

same_number : (number : ℕ) (first type_ : ValueType) → eqb number (number_of first) ≡ true → first ≡ type_ → number ≡ number_of type_
same_number number first type_ test is = eqb-true _ _ test ∙ ap number_of is

-- a type stands under its own number alone
number_with : (number : ℕ) (type_ : ValueType) → type_with number ≡ Some type_ → number ≡ number_of type_
number_with number type_ e =
    elim (chosen (eqb number 1) types.Void _ type_ e) [
      | inl p ↦ same_number number types.Void type_ p.0 p.1
      | inr e ↦ elim (chosen (eqb number 2) types.Flag _ type_ e) [
        | inl p ↦ same_number number types.Flag type_ p.0 p.1
        | inr e ↦ elim (chosen (eqb number 3) types.Unsigned _ type_ e) [
          | inl p ↦ same_number number types.Unsigned type_ p.0 p.1
          | inr e ↦ elim (chosen (eqb number 4) types.Words _ type_ e) [
            | inl p ↦ same_number number types.Words type_ p.0 p.1
            | inr e ↦ elim (chosen (eqb number 5) types.Opaque None type_ e) [
              | inl p ↦ same_number number types.Opaque type_ p.0 p.1
              | inr e ↦ absurd cc
            ]
          ]
        ]
      ]
    ]

pub by_found : (type_ : Option ValueType) (rest : List ℕ) (x : ValueType × List ℕ) → type_by type_ rest ≡ Ok x
    → (type_ ≡ Some x.0) × (rest ≡ x.1)
by_found (Some type_) rest x e =
    let same = found_is (type_, rest) x e in
    (ap (λ (p : ValueType × List ℕ). Some p.0) same, ap (λ (p : ValueType × List ℕ). p.1) same)
by_found None rest x e = absurd cc

pub type_takes : (bytes : List ℕ) (x : ValueType × List ℕ) → AreBytes bytes → type_at bytes ≡ Ok x
    → Takes bytes (number_of x.0 ∷ []) x.1
type_takes [] x below e = absurd cc
type_takes (number ∷ bytes) x below e =
    let f = by_found (type_with number) bytes x e in
    let first = number_with number x.0 f.0 in
    record {
      parts = ap (λ (n : ℕ). n ∷ bytes) first ∙ ap (λ (rest : List ℕ). number_of x.0 ∷ rest) f.1;
      below = subst AreBytes f.1 (All-tail (λ b. b < 256) number bytes below);
    }

pub type_again : (type_ : ValueType) (rest : List ℕ) → type_at (number_of type_ ∷ rest) ≡ Ok (type_, rest)
type_again types.Void rest = refl
type_again types.Flag rest = refl
type_again types.Unsigned rest = refl
type_again types.Words rest = refl
type_again types.Opaque rest = refl

-- what the value that some bytes are is
record IsRead (type_ : ValueType) (bytes : List ℕ) (value : Value) : Type 0 where
  same : value_bytes value ≡ bytes
  type_is : type_of value ≡ type_
  legal : IsLegalValue value

one_byte : (bytes : List ℕ) → eqb (length bytes) 1 ≡ true → leb (big_endian bytes) 1 ≡ true → IsRead types.Flag bytes (value_of types.Flag bytes)
one_byte [] size holds = absurd cc
one_byte (zero ∷ []) size holds = record { same = refl; type_is = refl; legal = tt }
one_byte (suc zero ∷ []) size holds = record { same = refl; type_is = refl; legal = tt }
one_byte (suc (suc b) ∷ []) size holds = absurd (omega (arith, leb-true _ _ holds))
one_byte (b ∷ c ∷ bytes) size holds = absurd (omega (arith, eqb-true _ _ size))

value_read : (type_ : ValueType) (bytes : List ℕ) → AreBytes bytes → is_size_of type_ (length bytes) ≡ true → is_value_of type_ bytes ≡ true
    → IsRead type_ bytes (value_of type_ bytes)
value_read types.Void bytes below size holds = record { same = sym (nil_from_length bytes (eqb-true _ _ size)); type_is = refl; legal = tt }
value_read types.Flag bytes below size holds = one_byte bytes size holds
value_read types.Unsigned bytes below size holds =
    let eight : length bytes ≡ 8 = eqb-true _ _ size in
    record {
      same = ap (λ (count : ℕ). big_endian_bytes count (big_endian bytes)) (sym eight) ∙ bytes_of_number bytes below;
      type_is = refl;
      legal = subst (λ (count : ℕ). big_endian bytes < 256 ^ count) eight (number_below bytes below);
    }
value_read types.Words bytes below size holds = record { same = refl; type_is = refl; legal = (holds, leb-true _ _ size) }
value_read types.Opaque bytes below size holds = record { same = refl; type_is = refl; legal = leb-true _ _ size }

-- what a value that was read is
pub record IsTyped (type_ : ValueType) (bytes : List ℕ) (value : Value) (rest : List ℕ) : Type 0 where
  pub takes : Takes bytes (sized (value_bytes value)) rest
  pub type_is : type_of value ≡ type_
  pub legal : IsLegalValue value

pub value_takes : (type_ : ValueType) (bytes : List ℕ) (x : Value × List ℕ) → AreBytes bytes → value_at type_ bytes ≡ Ok x
    → IsTyped type_ bytes x.0 x.1
unfolding value_at
value_takes type_ bytes x below e =
    let a = bind_ok (number_at 4 (is_size_of type_) bytes) (λ size. field size.0 (is_value_of type_) size.1 >>= λ value. found (value_of type_ value.0, value.1)) x e in
    let b = bind_ok (field a.0.0 (is_value_of type_) a.0.1) (λ value. found (value_of type_ value.0, value.1)) x a.2 in
    let size = number_takes 4 (is_size_of type_) bytes a.0 below a.1 in
    let text = field_takes a.0.0 (is_value_of type_) a.0.1 b.0 size.0.below b.1 in
    let right : is_size_of type_ (length b.0.0) ≡ true = ap (is_size_of type_) text.size_is ∙ size.1 in
    let read = value_read type_ b.0.0 text.below right text.rule_holds in
    let both = takes_both bytes (big_endian_bytes 4 a.0.0) a.0.1 b.0.0 b.0.1 size.0 text.takes in
    let counted : Takes bytes (sized b.0.0) b.0.1 =
    subst (λ (count : ℕ). Takes bytes (big_endian_bytes 4 count ++ b.0.0) b.0.1) (sym text.size_is) both in
    let made : IsTyped type_ bytes (value_of type_ b.0.0) b.0.1 = record {
      takes = subst (λ (text : List ℕ). Takes bytes (sized text) b.0.1) (sym read.same) counted;
      type_is = read.type_is;
      legal = read.legal;
    } in
    subst (λ (p : Value × List ℕ). IsTyped type_ bytes p.0 p.1) (found_is (value_of type_ b.0.0, b.0.1) x b.2) made

-- a legal value is read from its bytes
record IsWritten (value : Value) : Type 0 where
  size : is_size_of (type_of value) (length (value_bytes value)) ≡ true
  holds : is_value_of (type_of value) (value_bytes value) ≡ true
  back : value_of (type_of value) (value_bytes value) ≡ value
  few : length (value_bytes value) ≤ MAX_VALUE

written : (value : Value) → IsLegalValue value → IsWritten value
written Void legal = record { size = refl; holds = refl; back = refl; few = omega arith }
written (Flag false) legal = record { size = refl; holds = refl; back = refl; few = omega arith }
written (Flag true) legal = record { size = refl; holds = refl; back = refl; few = omega arith }
written (Unsigned number) legal = record { size = refl; holds = refl; back = ap Unsigned (number_of_bytes 8 number legal); few = omega arith }
written (Words text) legal = record { size = le-leb _ _ legal.1; holds = legal.0; back = refl; few = legal.1 }
written (Opaque bytes) legal = record { size = le-leb _ _ legal; holds = refl; back = refl; few = legal }

pub value_again : (value : Value) (rest : List ℕ) → IsLegalValue value
    → value_at (type_of value) (sized (value_bytes value) ++ rest) ≡ Ok (value, rest)
unfolding value_at
value_again value rest legal =
    let w = written value legal in
    let text = value_bytes value in
    let type_ = type_of value in
    let fits : length text < 256 ^ 4 = omega (arith, w.few) in
    let grouped : sized text ++ rest ≡ big_endian_bytes 4 (length text) ++ (text ++ rest) = append_assoc (big_endian_bytes 4 (length text)) text rest in
    let size = number_again 4 (is_size_of type_) (length text) (text ++ rest) fits w.size in
    let value_ = field_again (length text) (is_value_of type_) text rest refl w.holds in
    ap (value_at type_) grouped
    ∙ ap (λ (r : Front ℕ). r >>= λ size. field size.0 (is_value_of type_) size.1 >>= λ value. found (value_of type_ value.0, value.1)) size
    ∙ ap (λ (r : Front (List ℕ)). r >>= λ value. found (value_of type_ value.0, value.1)) value_
    ∙ ap (λ (v : Value). found (v, rest)) w.back
