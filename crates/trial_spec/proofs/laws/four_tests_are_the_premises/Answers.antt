use Rattle.trial_spec.proofs.laws.four_tests_are_the_premises.Goals as goal

pub returns : goal.returns
returns c = λ l history deliveries is sent seen near room shown. record {
  history_is = is;
  sent = sent;
  visible = (c.premises_have_tests.ensures.visible l history deliveries).0 seen;
  close = (c.premises_have_tests.ensures.close l history deliveries).0 near;
  roomy = (c.premises_have_tests.ensures.roomy l deliveries).0 room;
  apparent = (c.premises_have_tests.ensures.apparent l history deliveries).0 shown;
}
