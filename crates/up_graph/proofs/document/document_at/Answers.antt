use Rattle.std.proofs.Common.{arith}
use Rattle.up_graph.proofs.Texts.{document-not_utf8, document-utf8}
use Rattle.up_graph.proofs.document.document_at.Goals as goal

pub returns-in-Ok : goal.returns-in-Ok
returns-in-Ok c =
    rw (document-utf8 c.args.text.now (omega arith) c.in-Ok.ensures.cases.1) (rw c.in-Ok.ensures.cases.0 at c.parse.ensures)

pub returns-in-Err : goal.returns-in-Err
returns-in-Err c = document-not_utf8 c.args.text.now (omega arith) c.in-Err.ensures.cases.0
