use Rattle.std.proofs.Common.{◌≡◌, ◌∙◌, ◌+◌, ◌≤◌, ℕ, List, [], ◌∷◌, length, map, take, refl, sym, ap, subst, arith}
use Rattle.datagram_core.specs.Heads.{head_of}
use Rattle.agent_outlets.specs.Outlets.{PutView, Took}
use Rattle.sub_agents.specs.Staged.{staged_value, datagram_bytes}
use Rattle.sub_agents.specs.Fields.{sub_agent_state}
use Rattle.sub_agents.proofs.PollRuns.{when-ok}
use Rattle.sub_agents.proofs.NextSizes.{writable, count-in, room-for, put-is, refilled}
use Rattle.sub_agents.proofs.sub_agent.SubAgent.put_next.Goals as goal

pub write_datagram-length-requires-clause-count : goal.write_datagram-length-requires-clause-count
write_datagram-length-requires-clause-count g c =
    count-in c.self.inside c.args.self.now c.next_size-size.result c.self.view_is c.next_size-size.ensures c.requires.some

pub write_datagram-length-requires-clause-writable :
    goal.write_datagram-length-requires-clause-writable
write_datagram-length-requires-clause-writable g c =
    writable (sub_agent_state c.self.inside) c.self.inside.stage.items c.self.invariant.kept

pub write_datagram-length-requires-clause-room : goal.write_datagram-length-requires-clause-room
write_datagram-length-requires-clause-room g c =
    subst (λ (l : List ℕ). length (datagram_bytes (head_of c.next_head-head.result) (map (staged_value c.self.inside.form)
    (take c.next_size-size.result c.self.inside.stage.items))) ≤ length l) (sym c.deref_mut.ensures.value)
    (room-for c.self.inside c.args.self.now c.next_size-size.result c.self.view_is c.next_size-size.ensures c.requires.some
    c.args.uptime (head_of c.next_head-head.result) c.self.invariant c.next_head-head.ensures)

pub overflow_sub-len : goal.overflow_sub-len
overflow_sub-len g c =
    omega (
      arith,
      c.len.ensures.len,
      count-in c.self.inside c.args.self.now c.next_size-size.result c.self.view_is c.next_size-size.ensures c.requires.some,
    )

pub returns-clause-taken : goal.returns-clause-taken
returns-clause-taken g c =
    let put : PutView = record {
      boot = c.self.inside.boot;
      number = c.self.inside.numbered + 1;
      bytes = take c.write_datagram-length.result c.deref.result.now;
    } in
    let text : take c.write_datagram-length.result c.deref.result.now
    ≡ datagram_bytes (head_of c.next_head-head.result) (map (staged_value c.self.inside.form)
    (take c.next_size-size.result c.self.inside.stage.items)) =
    ap (take c.write_datagram-length.result) (c.deref.ensures.value ∙ refilled c.self.inside.room.len c.self.inside.room.items
    c.write_datagram-length.new.room c.self.inside.room.ok.0
    (c.write_datagram-length.ensures.length ∙ ap length c.deref_mut.ensures.value)) ∙ c.write_datagram-length.ensures.written in
    let took : Took (g.O.Outlet.taken c.args.outlet.now) (g.O.Outlet.taken c.put-put.new.self) (put ∷ []) =
    when-ok c.put-put.result c.is_err.result c.is_err.ensures.value c.if-is_err.false c.put-put.ensures.taken in
    subst (λ (p : PutView). Took (g.O.Outlet.taken c.args.outlet.now) (g.O.Outlet.taken c.put-put.new.self) (p ∷ []))
    (put-is c.self.inside c.args.self.now c.next_size-size.result c.self.view_is c.next_size-size.ensures c.requires.some
    c.args.uptime (head_of c.next_head-head.result) (c.self.inside.numbered + 1)
    (take c.write_datagram-length.result c.deref.result.now) c.next_head-head.ensures refl text) took
