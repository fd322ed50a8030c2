-- Those so far don't have the source: those that are left decide.
use Rattle.std.proofs.Common.{◌≡◌, drop}
use Rattle.sub_agents.specs.Devices.{home_from, home_of}
use Rattle.sub_agents.proofs.device.Device.home.Given as goal

abbrev pub invariant-loop-place : goal.invariant-loop-place
invariant-loop-place l = home_from l.place l.flow l.source (drop l.place l.self.subs) ≡ home_of l.flow l.source l.self.subs
