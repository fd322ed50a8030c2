use Rattle.trial_spec.proofs.PremiseTests.{visible-is, close-is, roomy-is, apparent-is}
use Rattle.trial_spec.proofs.laws.premises_have_tests.Goals as goal

pub returns-clause-visible : goal.returns-clause-visible
returns-clause-visible c = visible-is

pub returns-clause-close : goal.returns-clause-close
returns-clause-close c = close-is

pub returns-clause-roomy : goal.returns-clause-roomy
returns-clause-roomy c = roomy-is

pub returns-clause-apparent : goal.returns-clause-apparent
returns-clause-apparent c = apparent-is
