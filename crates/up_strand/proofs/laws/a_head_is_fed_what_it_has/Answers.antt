use Rattle.up_strand.proofs.HeadPackets.{blocks_all, few_fed, settled_first}
use Rattle.up_strand.proofs.laws.a_head_is_fed_what_it_has.Goals as goal

pub returns-clause-first : goal.returns-clause-first
returns-clause-first g c strand h stands = stands.fed.first

pub returns-clause-all : goal.returns-clause-all
returns-clause-all g c strand h stands long = stands.fed.all long

pub returns-clause-settled : goal.returns-clause-settled
returns-clause-settled g c strand h pipe stands there source going =
    settled_first g.S.Source.state strand.intake h pipe stands.intake there source going

pub returns-clause-blocks : goal.returns-clause-blocks
returns-clause-blocks g c strand h pipe path block limit stands there kind going =
    blocks_all g.S.Source.state strand.intake h pipe path block limit stands.intake there kind going

pub returns-clause-few : goal.returns-clause-few
returns-clause-few g c strand h pipe stands there source =
    few_fed g.S.Source.state strand.intake h pipe stands.built.well stands.intake stands.fed.first there source
