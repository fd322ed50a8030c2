-- Runs of a command that is `relay`, and of one that isn't.
use Rattle.std.proofs.Common.{◌≡◌, ◌∙◌, ◌<◌, ◌^◌, false, true≢false, List, sym, ap, subst}
use Rattle.datagram_links.specs.Links.{LinkSeen}
use Rattle.datagram_links.specs.Receivers.{ReceiverSeen}
use Rattle.relay_out.specs.declared.progress.Progress.{Progress}
use Rattle.relay_out.specs.Routes.{Route}
use Rattle.command_words.specs.declared.collection.Collection.{Collection}
use Rattle.command_words.specs.declared.command.Command.{Command}
use Rattle.command_words.specs.declared.command.Command.TheVariants.{Relay}
use Rattle.command_runs.specs.declared.status.Status.{Status}
use Rattle.sflow_tool.specs.Relays.{Relayed, RelaysOver, relays}
use Rattle.sflow_tool.specs.Surroundings.{Surroundings}

pub not_relay : (c : Command) (asked : Collection) (routes : List Route) → c ≡ Relay asked routes → relays c ≡ false → ⊥
not_relay c asked routes is unlike = true≢false (sym (ap relays is) ∙ unlike)

same_relay : (a b : Collection) (rs ss : List Route) → Relay a rs ≡ Relay b ss → (a ≡ b) × (rs ≡ ss)
same_relay a b rs ss e = (cc, cc)

module _ (c : Command) (a b : Collection) (rs ss : List Route) (one : c ≡ Relay a rs) (other : c ≡ Relay b ss) where
  pub lines_as : (progress : List Progress) (before after : Surroundings) (status : Status)
      → RelaysOver a rs progress before after status → RelaysOver b ss progress before after status
  lines_as progress before after status ran =
      let same = same_relay a b rs ss (sym one ∙ other) in
      subst (λ (x : Collection). RelaysOver x ss progress before after status) same.0
      (subst (λ (ts : List Route). RelaysOver a ts progress before after status) same.1 ran)

  pub turns_as : a.turns < 2 ^ 32 → b.turns < 2 ^ 32
  turns_as few = subst (λ (x : Collection). x.turns < 2 ^ 32) (same_relay a b rs ss (sym one ∙ other)).0 few

  pub relayed_as : {Y : Type 0} (seen : Y → ReceiverSeen) (link link' : LinkSeen) (status : Status) (us : List Y)
      (was : List Progress) (vs : List Y) (now : List Progress) → Relayed seen a rs link link' status us was vs now
      → Relayed seen b ss link link' status us was vs now
  relayed_as seen link link' status us was vs now ran =
      let same = same_relay a b rs ss (sym one ∙ other) in
      subst (λ (x : Collection). Relayed seen x ss link link' status us was vs now) same.0
      (subst (λ (ts : List Route). Relayed seen a ts link link' status us was vs now) same.1 ran)
