use Rattle.trial_premises.proofs.streams.StreamWatch.open.Goals as goal

pub returns : goal.returns
returns c = λ ids long. record {
  boots_stand = c.new.ensures c.args.limits.now.boot_slack;
  numbered = tt;
  width_is = c.in_ok-window.ensures.0;
  window_stands = c.in_ok-window.ensures.1;
  sources_stand = c.in_ok-sources.ensures ids c.args.limits.now.sample_width long;
}
