use Rattle.std.proofs.Common.{rules, Some, ap, ◌∙◌}
use Rattle.std.proofs.lemmas.Option.{slice_get-get_or}
use Rattle.relay_out.proofs.receivers.Receivers.taken.Goals as goal

pub returns : goal.returns
returns g c = (
  c.index.result.now,
  slice_get-get_or c.args.self.now.held.items c.args.place c.index.result.now (search rules) ∙ ap Some (search rules),
  c.taken_box.ensures,
)
