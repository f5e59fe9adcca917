use Rattle.up_strand.proofs.HeadFlows.{few_read_of_head, fewer_read_of_head, long_of_head, source_ended, unshown_at_fault}
use Rattle.up_strand.proofs.laws.a_source_ends_by_its_bytes.Goals as goal

pub returns-clause-ended : goal.returns-clause-ended
returns-clause-ended g c strand h pipe outcome stands long there source ended =
    source_ended g.S.Source.state strand.intake h pipe outcome stands.intake long there source ended

pub returns-clause-bounded : goal.returns-clause-bounded
returns-clause-bounded g c strand h pipe path form limit stands there kind =
    few_read_of_head g.S.Source.state strand.intake h pipe path form limit stands.intake there kind

pub returns-clause-within : goal.returns-clause-within
returns-clause-within g c strand h pipe path form limit stands there kind fault =
    fewer_read_of_head g.S.Source.state strand.intake h pipe path form limit stands.intake there kind fault

pub returns-clause-unshown : goal.returns-clause-unshown
returns-clause-unshown g c strand h pipe stands there fault =
    unshown_at_fault g.S.Source.state strand.intake h pipe stands.intake there fault

pub returns-clause-long : goal.returns-clause-long
returns-clause-long g c strand h pipe outcome stands there source ended cause =
    long_of_head g.S.Source.state strand.intake h pipe outcome stands.intake there source ended cause
