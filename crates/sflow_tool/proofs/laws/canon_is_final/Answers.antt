use Rattle.sflow_tool.proofs.CanonLaws.{same_arrivals, same_senders, canon_capture, canon_again}
use Rattle.sflow_tool.proofs.laws.canon_is_final.Goals as goal

pub returns-clause-arrivals : goal.returns-clause-arrivals
returns-clause-arrivals c = same_arrivals

pub returns-clause-senders : goal.returns-clause-senders
returns-clause-senders c = same_senders

pub returns-clause-capture : goal.returns-clause-capture
returns-clause-capture c = canon_capture

pub returns-clause-again : goal.returns-clause-again
returns-clause-again c = canon_again
