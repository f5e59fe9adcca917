use Rattle.std.proofs.Common.{◌∷◌, length}
use Rattle.up_base.specs.Number.{big_endian_bytes}
use Rattle.up_frame.proofs.Parts.{refused, none_added, second_refused}
use Rattle.up_model.specs.ValueTypes.{number_of}
use Rattle.up_frame.proofs.writing.put_sized.Goals as goal

pub returns-in_err-put_front-clause-part : goal.returns-in_err-put_front-clause-part
returns-in_err-put_front-clause-part c = refused _ (none_added _ _ _ c.in_err-put_front.ensures.unchanged)

pub returns-clause-part : goal.returns-clause-part
returns-clause-part c =
    second_refused c.append.result c.args.out.now c.put_front.new.out c.append.new.self
    (number_of c.args.type_ ∷ big_endian_bytes 4 (length c.args.bytes.now)) c.args.bytes.now
    c.in_ok-put_front.ensures.added c.append.ensures.unchanged
