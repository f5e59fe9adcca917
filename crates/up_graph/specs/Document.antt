-- The document that a text is: at most 1,048,576 bytes of UTF-8, and TOML by the grammar of `toml`.
use Rattle.std.specs.Prelude.{ℕ, List, length, nat_lt, Option, Some, None, Ok, Err, if◌then◌else◌}
use Rattle.std.specs.Str.{is_utf8}
use Rattle.toml.specs.Data.{Members}
use Rattle.toml.specs.Parse.{parse_document}
use Rattle.up_graph.specs.Answers.{Checked}
use Rattle.up_graph.specs.declared.graph_refused.GraphRefused.TheVariants.{TooBig, NotToml}
use Rattle.up_model.specs.declared.limits.TheConstants.{MAX_GRAPH}

-- what the grammar gives; a text without a document is refused
abbrev pub parsed : Option Members → Checked Members
parsed None = Err NotToml
parsed (Some top) = Ok top

-- the size is looked at first, then the encoding, then the grammar
unfoldable pub document_of : List ℕ → Checked Members
document_of text =
    if nat_lt MAX_GRAPH (length text) then Err (TooBig (length text))
    else if is_utf8 text then parsed (parse_document text)
    else Err NotToml
