use Rattle.relay_out.proofs.Joined.{said_by, read_as, one_said}
use Rattle.relay_out.proofs.laws.routes_are_joined.Goals as goal

pub returns-clause-exact : goal.returns-clause-exact
returns-clause-exact c = λ text routes. (said_by text routes, read_as text routes)

pub returns-clause-one : goal.returns-clause-one
returns-clause-one c = one_said
