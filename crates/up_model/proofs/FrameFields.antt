-- A field that is read is the one that was written, and what was written is read again.
use Rattle.std.proofs.Common.{◌≡◌, ℕ, zero, suc, ◌+◌, ◌*◌, ◌/◌, ◌%◌, ◌^◌, ◌<◌, ◌≤◌, Bool, true, false, cond, ltb, List, [], ◌∷◌, ◌++◌, length, take, drop, Result, Ok, Err, refl, sym, ap, subst, ◌∙◌, append_assoc, arith}
use Rattle.std.specs.Prelude.{fold}
use Rattle.std.proofs.Math.Nat.{pow-succ', mul-le-mul_left}
use Rattle.std.proofs.lemmas.Bool.{ltb-false, le-ltb}
use Rattle.std.proofs.lemmas.List.{take_at, drop_at, take-append-drop, length-append, length-take-le, length_push}
use Rattle.std.proofs.lemmas.List.Elements.{All-head, All-tail, All-take, All-drop}
use Rattle.up_base.proofs.NumberBytes.{bytes_of_number, number_of_bytes}
use Rattle.up_base.specs.Number.{AreBytes, big_endian, big_endian_bytes}
use Rattle.up_model.specs.FrameFronts.{Front, ◌>>=◌, field, number_at}
use Rattle.up_model.specs.declared.frame_layout.NotWhole.{NotWhole}
use Rattle.up_model.specs.declared.frame_layout.NotWhole.TheVariants.{Broken, Unfinished}

-- what stands in a field that is whole goes on to the next
pub bind_ok : {A B : Type 0} (front : Result A NotWhole) (next : A → Result B NotWhole) (y : B) → (front >>= next) ≡ Ok y
    → (x : A) × (front ≡ Ok x) × (next x ≡ Ok y)
bind_ok (Ok x) next y e = (x, refl, e)
bind_ok (Err refused) next y e = absurd cc

abbrev pub found : {A : Type 0} → A → Result A NotWhole
found x = Ok x

pub found_is : {A : Type 0} (x y : A) → found x ≡ found y → x ≡ y
found_is x y e = cc

-- the bytes are these and the rest
pub record Takes (bytes text rest : List ℕ) : Type 0 where
  pub parts : bytes ≡ text ++ rest
  pub below : AreBytes rest

pub takes_both : (bytes first between second rest : List ℕ) → Takes bytes first between → Takes between second rest
    → Takes bytes (first ++ second) rest
takes_both bytes first between second rest p q = record {
  parts = p.parts ∙ ap (λ (behind : List ℕ). first ++ behind) q.parts ∙ sym (append_assoc first second rest);
  below = q.below;
}

-- what a field that was read is
pub record IsField (size : ℕ) (rule : List ℕ → Bool) (bytes text rest : List ℕ) : Type 0 where
  pub takes : Takes bytes text rest
  pub size_is : length text ≡ size
  pub rule_holds : rule text ≡ true
  pub below : AreBytes text

pub field_found : {A : Type 0} (short right : Bool) (x y : A) → cond short (Err Unfinished) (cond right (found x) (Err Broken)) ≡ found y
    → (short ≡ false) × (right ≡ true) × (x ≡ y)
field_found true right x y e = absurd cc
field_found false true x y e = (refl, refl, cc)
field_found false false x y e = absurd cc

pub field_takes : (size : ℕ) (rule : List ℕ → Bool) (bytes : List ℕ) (x : List ℕ × List ℕ) → AreBytes bytes → field size rule bytes ≡ Ok x
    → IsField size rule bytes x.0 x.1
field_takes size rule bytes x below e =
    let f = field_found (ltb (length bytes) size) (rule (take size bytes)) (take size bytes, drop size bytes) x e in
    let made : IsField size rule bytes (take size bytes) (drop size bytes) = record {
      takes = record { parts = sym (take-append-drop size bytes); below = All-drop (λ byte. byte < 256) size bytes below };
      size_is = length-take-le size bytes (ltb-false _ _ f.0);
      rule_holds = f.1;
      below = All-take (λ byte. byte < 256) size bytes below;
    } in
    subst (λ (p : List ℕ × List ℕ). IsField size rule bytes p.0 p.1) f.2 made

pub field_again : (size : ℕ) (rule : List ℕ → Bool) (text rest : List ℕ) → length text ≡ size → rule text ≡ true
    → field size rule (text ++ rest) ≡ Ok (text, rest)
field_again size rule text rest size_is holds =
    let long : ltb (length (text ++ rest)) size ≡ false = le-ltb _ _ (omega (arith, length-append text rest)) in
    rw (long, take_at text rest size size_is, drop_at text rest size size_is, holds) refl

-- a number has as many digits as it is put in
pub length_digits : (count number : ℕ) → length (big_endian_bytes count number) ≡ count
length_digits zero number = refl
length_digits (suc count) number =
    length_push (big_endian_bytes count (number / 256)) (number % 256) ∙ omega (arith, length_digits count (number / 256))

one_digit_more : (number byte worth rest : ℕ) → byte < 256 → rest < (number * 256 + byte + 1) * worth
    → rest < (number + 1) * (256 * worth)
one_digit_more number byte worth rest first below =
    let bound : worth * (byte + 1) ≤ worth * 256 = mul-le-mul_left worth (omega arith) in
    omega (arith, bound)

digits_below : (number : ℕ) (bytes : List ℕ) → AreBytes bytes
    → fold (λ number byte. number * 256 + byte) number bytes < (number + 1) * 256 ^ length bytes
digits_below number [] below = omega arith
digits_below number (byte ∷ bytes) below =
    let first : byte < 256 = All-head (λ b. b < 256) byte bytes below in
    let rest = digits_below (number * 256 + byte) bytes (All-tail (λ b. b < 256) byte bytes below) in
    rw (pow-succ' 256 (length bytes)) (one_digit_more number byte (256 ^ length bytes) _ first rest)

-- the number in some bytes is below that of one byte more
pub number_below : (bytes : List ℕ) → AreBytes bytes → big_endian bytes < 256 ^ length bytes
number_below bytes below = omega (arith, digits_below 0 bytes below)

pub number_takes : (size : ℕ) (rule : ℕ → Bool) (bytes : List ℕ) (x : ℕ × List ℕ) → AreBytes bytes → number_at size rule bytes ≡ Ok x
    → Takes bytes (big_endian_bytes size x.0) x.1 × (rule x.0 ≡ true)
number_takes size rule bytes x below e =
    let a = bind_ok (field size (λ digits. rule (big_endian digits)) bytes) (λ f. found (big_endian f.0, f.1)) x e in
    let f = field_takes size (λ digits. rule (big_endian digits)) bytes a.0 below a.1 in
    let digits : big_endian_bytes size (big_endian a.0.0) ≡ a.0.0 =
    ap (λ (count : ℕ). big_endian_bytes count (big_endian a.0.0)) (sym f.size_is) ∙ bytes_of_number a.0.0 f.below in
    let taken : Takes bytes (big_endian_bytes size (big_endian a.0.0)) a.0.1 =
    subst (λ (text : List ℕ). Takes bytes text a.0.1) (sym digits) f.takes in
    subst (λ (p : ℕ × List ℕ). Takes bytes (big_endian_bytes size p.0) p.1 × (rule p.0 ≡ true))
    (found_is (big_endian a.0.0, a.0.1) x a.2) (taken, f.rule_holds)

pub number_again : (size : ℕ) (rule : ℕ → Bool) (number : ℕ) (rest : List ℕ) → number < 256 ^ size → rule number ≡ true
    → number_at size rule (big_endian_bytes size number ++ rest) ≡ Ok (number, rest)
number_again size rule number rest fits holds =
    let back = number_of_bytes size number fits in
    let digits : field size (λ digits. rule (big_endian digits)) (big_endian_bytes size number ++ rest) ≡ Ok (big_endian_bytes size number, rest) =
    field_again size (λ digits. rule (big_endian digits)) (big_endian_bytes size number) rest (length_digits size number) (ap rule back ∙ holds) in
    ap (λ (r : Front (List ℕ)). r >>= λ f. found (big_endian f.0, f.1)) digits
    ∙ ap (λ (n : ℕ). found (n, rest)) back
