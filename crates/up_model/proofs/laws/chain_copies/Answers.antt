use Rattle.up_model.proofs.Chains.{sink_bytes-chain}
use Rattle.up_model.proofs.laws.chain_copies.Goals as goal

pub returns : goal.returns
returns c = sink_bytes-chain
