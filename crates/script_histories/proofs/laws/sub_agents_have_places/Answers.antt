use Rattle.script_histories.proofs.Histories.{agent_at, sub_at}
use Rattle.script_histories.proofs.Places.{delivery_named, entry_named}
use Rattle.script_histories.proofs.laws.sub_agents_have_places.Goals as goal

pub returns-clause-agent : goal.returns-clause-agent
returns-clause-agent c = agent_at

pub returns-clause-id : goal.returns-clause-id
returns-clause-id c = sub_at

pub returns-clause-delivery : goal.returns-clause-delivery
returns-clause-delivery c = delivery_named

pub returns-clause-entry : goal.returns-clause-entry
returns-clause-entry c = entry_named
