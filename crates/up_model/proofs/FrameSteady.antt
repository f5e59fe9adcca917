-- What was judged stays so, whatever bytes follow.
use Rattle.std.proofs.Common.{◌≡◌, ℕ, ◌≤◌, Bool, true, false, cond, ltb, List, [], ◌∷◌, ◌++◌, length, take, drop, Option, Some, None, Ok, Err, refl, sym, ap, subst, arith}
use Rattle.std.proofs.lemmas.Bool.{ltb-false, le-ltb}
use Rattle.std.proofs.lemmas.List.{length-append, take-append-le, drop-append-le}
use Rattle.up_model.proofs.FrameAllFields.{of_number, of_attribute, of_packet}
use Rattle.up_model.proofs.FrameFields.{found}
use Rattle.up_model.specs.FrameFronts.{Front, ◌>>=◌, field, number_at, type_by, type_at, attribute_at, packet_at}
use Rattle.up_model.specs.ValueTypes.{type_with}
use Rattle.up_model.specs.declared.frame_layout.NotWhole.TheVariants.{Broken, Unfinished}
use Rattle.up_model.specs.declared.value_type.ValueType.{ValueType}

-- what is found later, with these bytes behind
abbrev pub Stays : {A : Type 0} → List ℕ → Front A → Front A → Type 0
Stays more (Ok x) later = later ≡ Ok (x.0, x.1 ++ more)
Stays more (Err Broken) later = later ≡ Err Broken
Stays more (Err Unfinished) later = Unit {0}

abbrev pub Steady : {A : Type 0} → (List ℕ → Front A) → Type 0
Steady front = (bytes more : List ℕ) → Stays more (front bytes) (front (bytes ++ more))

found_steady : (A : Type 0) (x : A) → Steady (λ rest. found (x, rest))
found_steady A x bytes more = refl

then_stays : {A B : Type 0} (next : A → List ℕ → Front B) → ((x : A) → Steady (next x)) → (more : List ℕ) (front later : Front A)
    → Stays more front later → Stays more (front >>= λ x. next x.0 x.1) (later >>= λ x. next x.0 x.1)
then_stays next others more (Ok x) later is =
    subst (λ l. Stays more (next x.0 x.1) (l >>= λ y. next y.0 y.1)) (sym is) (others x.0 x.1 more)
then_stays next others more (Err Broken) later is = ap (λ l. l >>= λ y. next y.0 y.1) is
then_stays next others more (Err Unfinished) later is = tt

bind_steady : (A B : Type 0) (front : List ℕ → Front A) (next : A → List ℕ → Front B) → Steady front → ((x : A) → Steady (next x))
    → Steady (λ bytes. front bytes >>= λ x. next x.0 x.1)
bind_steady A B front next one others bytes more =
    then_stays next others more (front bytes) (front (bytes ++ more)) (one bytes more)

judged : (right : Bool) (text rest more : List ℕ)
    → Stays more (cond right (found (text, rest)) (Err Broken)) (cond right (found (text, rest ++ more)) (Err Broken))
judged true text rest more = refl
judged false text rest more = refl

field_later : (size : ℕ) (rule : List ℕ → Bool) (bytes more : List ℕ) → size ≤ length bytes
    → field size rule (bytes ++ more) ≡ cond (rule (take size bytes)) (found (take size bytes, drop size bytes ++ more)) (Err Broken)
field_later size rule bytes more long =
    let enough : ltb (length (bytes ++ more)) size ≡ false = le-ltb _ _ (omega (arith, length-append bytes more)) in
    rw (enough, take-append-le size bytes more long, drop-append-le size bytes more long) refl

field_steady : (size : ℕ) (rule : List ℕ → Bool) → Steady (field size rule)
field_steady size rule bytes more = by_length (ltb (length bytes) size) refl
  where
    by_length : (short : Bool) → ltb (length bytes) size ≡ short
        → Stays more (cond short (Err Unfinished) (cond (rule (take size bytes)) (found (take size bytes, drop size bytes)) (Err Broken))) (field size rule (bytes ++ more))
    by_length true e = tt
    by_length false e =
        subst (Stays more (cond (rule (take size bytes)) (found (take size bytes, drop size bytes)) (Err Broken)))
        (sym (field_later size rule bytes more (ltb-false _ _ e)))
        (judged (rule (take size bytes)) (take size bytes) (drop size bytes) more)

by_steady : (type_ : Option ValueType) → Steady (type_by type_)
by_steady (Some type_) bytes more = refl
by_steady None bytes more = refl

type_steady : Steady type_at
type_steady [] more = tt
type_steady (number ∷ bytes) more = by_steady (type_with number) bytes more

pub number_steady : (size : ℕ) (rule : ℕ → Bool) → Steady (number_at size rule)
number_steady = of_number (λ A. Steady {A = A}) found_steady bind_steady field_steady type_steady

pub attribute_steady : (before : List ℕ) → Steady (attribute_at before)
attribute_steady = of_attribute (λ A. Steady {A = A}) found_steady bind_steady field_steady type_steady

-- a frame that is whole, or broken, stays so
pub packet_steady : (bytes more : List ℕ) → Stays more (packet_at bytes) (packet_at (bytes ++ more))
packet_steady = of_packet (λ A. Steady {A = A}) found_steady bind_steady field_steady type_steady
