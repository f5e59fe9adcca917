use Rattle.up_model.proofs.Legality.{with_bytes, with_attr, without_attr}
use Rattle.up_model.proofs.Packets.{plain_is_legal}
use Rattle.up_model.proofs.packet_laws.packets_stay_legal.Goals as goal

pub returns-clause-plain : goal.returns-clause-plain
returns-clause-plain c = plain_is_legal

pub returns-clause-bytes : goal.returns-clause-bytes
returns-clause-bytes c packet bytes legal = with_bytes packet legal bytes

pub returns-clause-set : goal.returns-clause-set
returns-clause-set c packet name value legal = with_attr packet legal name value

pub returns-clause-gone : goal.returns-clause-gone
returns-clause-gone c packet name legal = without_attr packet legal name
