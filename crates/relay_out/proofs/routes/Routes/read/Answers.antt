use Rattle.std.proofs.Common.{◌≡◌, ◌∙◌, length, sym}
use Rattle.script_spec.specs.Parts.{split_at}
use Rattle.relay_out.proofs.RouteLists.{at_err, route_long}
use Rattle.relay_out.proofs.routes.Routes.read.Goals as goal

pub returns-then-is_err : goal.returns-then-is_err
returns-then-is_err c =
    let full : length c.loop-part.routes.items ≡ 8 =
    at_err c.try_push.result _ c.try_push.ensures.full (sym c.is_err.ensures.value ∙ c.if-is_err.true) in
    sym (route_long (split_at 59 c.args.text.now) c.loop-part.parts c.next.new.self c.in-Some.part.now c.loop-part.routes.items
    c.loop-part.invariant.read c.in-Some.ensures c.in_ok-route.route (sym c.read.ensures ∙ c.in_ok-route.was) full)
