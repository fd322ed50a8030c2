use Rattle.std.proofs.Common.{◌∙◌, sym}
use Rattle.sub_agents.proofs.Homes.{found, found-none, err-none, err-some}
use Rattle.sub_agents.proofs.device.Device.reset.Goals as goal

pub returns-in_default-clause-refused : goal.returns-in_default-clause-refused
returns-in_default-clause-refused c =
    err-none _ (found-none c.args.flow c.args.source c.args.self.now.subs (sym c.home.ensures ∙ c.in_default.is)).none

pub returns-clause-refused : goal.returns-clause-refused
returns-clause-refused c =
    err-some c.reset_at.result _ c.reset_at.ensures.reset
    (found c.args.flow c.args.source c.args.self.now.subs c.in-Some.place (sym c.home.ensures ∙ c.in-Some.is)).among
