use Rattle.std.proofs.Common.{refl}
use Rattle.std.specs.Fmt.{digits}
use Rattle.relay_out.specs.Lines.{relay_line}
use Rattle.relay_out.proofs.rows.worked_lines.Goals as goal

pub returns-clause-all : goal.returns-clause-all
unfolding digits relay_line
returns-clause-all c = refl

pub returns-clause-one_stopped : goal.returns-clause-one_stopped
unfolding digits relay_line
returns-clause-one_stopped c = refl

pub returns-clause-one_route : goal.returns-clause-one_route
unfolding digits relay_line
returns-clause-one_route c = refl
