use Rattle.std.proofs.Common.{◌<◌, length, arith}
use Rattle.relay_out.proofs.Served.{counted}
use Rattle.relay_out.proofs.receivers.Receivers.leave_room.Goals as goal

pub returns : goal.returns
returns g c = λ before xs run few at in_routes.
    let fits = c.requires in
    let inside : at < length c.args.self.now.held.items = omega (arith, c.args.self.now.held.ok.0) in
    omega (arith, few, counted _ c.args.routes.now xs before _ _ run at in_routes inside)
