-- The document of a text that is UTF-8, and of one that isn't.
use Rattle.std.proofs.Common.{◌≡◌, ℕ, ◌≤◌, true, false, List, length, inl, inr, refl, Err}
use Rattle.std.specs.Str.{IsUtf8, is_utf8}
use Rattle.std.proofs.lemmas.Bool.{cases_Bool, le-ltb}
use Rattle.std.proofs.lemmas.Str.{IsUtf8-from_is_utf8, is_utf8-from_IsUtf8}
use Rattle.toml.specs.Parse.{parse_document}
use Rattle.up_graph.specs.Document.{document_of, parsed}
use Rattle.up_graph.specs.declared.graph_refused.GraphRefused.TheVariants.{NotToml}
use Rattle.up_model.specs.declared.limits.TheConstants.{MAX_GRAPH}

pub utf8_test : (text : List ℕ) → IsUtf8 text → is_utf8 text ≡ true
utf8_test text is = is_utf8-from_IsUtf8 text is

is_utf8-fails : (text : List ℕ) → ¬ IsUtf8 text → is_utf8 text ≡ false
is_utf8-fails text other =
    elim (cases_Bool (is_utf8 text)) [
      | inl passes ↦ absurd (other (IsUtf8-from_is_utf8 text passes))
      | inr fails ↦ fails
    ]

pub document-not_utf8 : (text : List ℕ) → length text ≤ MAX_GRAPH → ¬ IsUtf8 text → document_of text ≡ Err NotToml
unfolding document_of
document-not_utf8 text fits other = rw (le-ltb _ _ fits, is_utf8-fails text other) refl

pub document-utf8 : (text : List ℕ) → length text ≤ MAX_GRAPH → IsUtf8 text → document_of text ≡ parsed (parse_document text)
unfolding document_of
document-utf8 text fits is = rw (le-ltb _ _ fits, is_utf8-from_IsUtf8 text is) refl
