use Rattle.std.proofs.Common.{◌<◌, ap, map, length, arith}
use Rattle.datagram_links.specs.Memory.{item_view}
use Rattle.datagram_links.proofs.Items.{gives_at, left_after}
use Rattle.datagram_links.proofs.memory_link.MemoryLink.next.Goals as goal

pub returns-clause-gives : goal.returns-clause-gives
returns-clause-gives c =
    let within : c.self.inside.at < length c.self.inside.items.items = omega arith in
    gives_at c.self.inside.items.items c.self.inside.at _ _ _ _ within c.index.ensures (ap (λ s. s.items) c.self.view_is)
    c.give_item-received.ensures.gives

pub returns-clause-after : goal.returns-clause-after
returns-clause-after c =
    let same = c.self.view_is in
    λ j. record {
      items = left_after (map item_view c.self.inside.items.items) c.self.inside.at _ (ap (λ s. s.items) same) j;
      listens = ap (λ s. s.listens) same j;
      aims = ap (λ s. s.aims) same j;
      sent = ap (λ s. s.sent) same j;
      fails = ap (λ s. s.fails) same j;
      calls = ap (λ s. s.calls) same j;
      faults = ap (λ s. s.faults) same j;
      lacked = ap (λ s. s.lacked) same j;
    }
