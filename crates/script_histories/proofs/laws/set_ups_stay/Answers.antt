use Rattle.script_histories.proofs.SetUpsStay.{same_set_ups, same_sources, same_streams}
use Rattle.script_histories.proofs.laws.set_ups_stay.Goals as goal

pub returns-clause-sub_agents : goal.returns-clause-sub_agents
returns-clause-sub_agents c = λ lines line. same_set_ups line lines

pub returns-clause-streams : goal.returns-clause-streams
returns-clause-streams c = λ lines line. same_streams line lines

pub returns-clause-sources : goal.returns-clause-sources
returns-clause-sources c = λ lines line. same_sources line lines
