-- Bytes that are written one part after the other.
use Rattle.std.proofs.Common.{◌≡◌, ℕ, ◌+◌, ◌-◌, List, [], ◌++◌, length, take, drop, Bool, true, false, Option, Some, None, refl, sym, ap, ◌∙◌, append-nil, append_assoc, take-append-drop}
use Rattle.std.proofs.KnownBytes.{Appends-trans, Appends-nil, Appends-kept}
use Rattle.std.proofs.Math.Seq.{take-add, take-append_seam}
use Rattle.std.proofs.lemmas.List.{take_rest}
use Rattle.std.specs.Io.KnownBytes.{Appends, Keeps}
use Rattle.std.specs.Prelude.{Err}
use Rattle.up_base.specs.Lists.{IsPrefix}
use Rattle.up_base.specs.declared.refusal.Refusal.{Refusal}
use Rattle.up_outside.specs.Moves.{Writes}
use Rattle.up_outside.proofs.Told.{Then-trans}
use Rattle.up_outside.specs.States.{SinkState}
use Rattle.up_outside.specs.Told.{Then}
use Rattle.up_strand.specs.Writing.{IsSameSink, Receives}

-- the same sink, and still the same
told_still : {X : Type 0} (a : Option X) → Then (λ before after. Unit {0}) a a
told_still None = tt
told_still (Some x) = tt

pub same_itself : (a : SinkState) → IsSameSink a a
same_itself a = record { place = refl; sum = told_still a.moved }

pub same_on : (a b c : SinkState) → IsSameSink a b → IsSameSink b c → IsSameSink a c
same_on a b c one two = record {
  place = two.place ∙ one.place;
  sum = Then-trans (λ before after. Unit {0}) (λ before after. Unit {0}) (λ before after. Unit {0}) a.moved b.moved c.moved (λ x y z s t. tt) one.sum two.sum;
}

-- a write is of the same sink
pub same_summed : (a b : SinkState) (n : ℕ) → b.place ≡ a.place → Then (λ before after. after ≡ before + n) a.moved b.moved → IsSameSink a b
same_summed a b n place sum = record { place = place; sum = told_summed a.moved b.moved sum }
  where
    told_summed : (x y : Option ℕ) → Then (λ before after. after ≡ before + n) x y → Then (λ before after. Unit {0}) x y
    told_summed None None sum = tt
    told_summed None (Some y) sum = absurd sum
    told_summed (Some x) None sum = absurd sum
    told_summed (Some x) (Some y) sum = tt

-- nothing was to be written
pub receives_nothing : (a : SinkState) (all : Bool) → Receives a a all []
receives_nothing a all = record {
  put = [];
  appended = Appends-nil a.written;
  prefix = ([], refl);
  whole = λ _. refl;
  same = same_itself a;
}

-- a front of the bytes was written, and then more of them
pub receives_more : (a b c : SinkState) (all : Bool) (front more : List ℕ) → Receives a b true front → Receives b c all more → Receives a c all (front ++ more)
receives_more a b c all front more one two = record {
  put = one.put ++ two.put;
  appended = Appends-trans _ _ _ _ _ one.appended two.appended;
  prefix = (two.prefix.0, ap (λ l. front ++ l) two.prefix.1 ∙ sym (append_assoc front two.put two.prefix.0) ∙ ap (λ l. (l ++ two.put) ++ two.prefix.0) (sym (one.whole refl)));
  whole = λ is. ap (λ l. l ++ two.put) (one.whole refl) ∙ ap (λ l. front ++ l) (two.whole is);
  same = same_on a b c one.same two.same;
}

-- what was written of a front was written of the bytes
pub receives_front : (a b : SinkState) (all : Bool) (front rest : List ℕ) → Receives a b all front → Receives a b false (front ++ rest)
receives_front a b all front rest one = record {
  put = one.put;
  appended = one.appended;
  prefix = (one.prefix.0 ++ rest, ap (λ l. l ++ rest) one.prefix.1 ∙ append_assoc one.put one.prefix.0 rest);
  whole = λ is. absurd (cc);
  same = one.same;
}

-- a write took more bytes
pub receives_next : (a b c : SinkState) (n : ℕ) (front piece : List ℕ) → Receives a b true front → Appends b.written c.written (take n piece) → IsSameSink b c
    → Receives a c true (front ++ take n piece)
receives_next a b c n front piece one more same = record {
  put = one.put ++ take n piece;
  appended = Appends-trans _ _ _ _ _ one.appended more;
  prefix = ([], sym (append-nil (front ++ take n piece)) ∙ ap (λ l. (l ++ take n piece) ++ []) (sym (one.whole refl)));
  whole = λ is. ap (λ l. l ++ take n piece) (one.whole refl);
  same = same_on a b c one.same same;
}

-- a write was refused
pub receives_refused : (a b c : SinkState) (n : ℕ) (bytes : List ℕ) → Receives a b true (take n bytes) → Keeps b.written c.written → IsSameSink b c
    → Receives a c false bytes
receives_refused a b c n bytes one kept same = record {
  put = one.put;
  appended = Appends-kept _ _ _ _ one.appended kept;
  prefix = (drop n bytes, sym (take-append-drop n bytes) ∙ ap (λ l. l ++ drop n bytes) (sym (one.whole refl)));
  whole = λ is. absurd (cc);
  same = same_on a b c one.same same;
}

-- the same of a write of some piece
pub receives_none : (a b c : SinkState) (n : ℕ) (bytes piece : List ℕ) (refusal : Refusal) → Receives a b true (take n bytes) → Writes b c piece (Err refusal)
    → Receives a c false bytes
receives_none a b c n bytes piece refusal one writes = receives_refused a b c n bytes one writes.bytes (same_summed b c 0 writes.place writes.sum)

-- more bytes follow those that were taken
pub taken_more : (had more : ℕ) (piece : List ℕ) → take (had + more) piece ≡ take had piece ++ take more (take (length piece - had) (drop had piece))
taken_more had more piece = take-add had more piece ∙ ap (λ l. take had piece ++ take more l) (sym (take_rest piece had))

-- the bytes up to the end of a run that follows the first ones
pub run_more : (at : ℕ) (run bytes : List ℕ) → IsPrefix run (drop at bytes) → take (at + length run) bytes ≡ take at bytes ++ run
run_more at run bytes prefix =
    take-add at (length run) bytes ∙ ap (λ l. take at bytes ++ take (length run) l) prefix.1 ∙ ap (λ l. take at bytes ++ l) (take-append_seam run prefix.0)

-- the bytes up to the end of the run, and those after it
pub run_rest : (at : ℕ) (run bytes : List ℕ) → (prefix : IsPrefix run (drop at bytes)) → (take at bytes ++ run) ++ prefix.0 ≡ bytes
run_rest at run bytes prefix =
    append_assoc (take at bytes) run prefix.0 ∙ ap (λ l. take at bytes ++ l) (sym prefix.1) ∙ take-append-drop at bytes
