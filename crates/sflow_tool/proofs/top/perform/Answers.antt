use Rattle.std.proofs.Common.{◌≤◌, ◌∙◌, sym, ap, subst, true≢false}
use Rattle.std.specs.Prelude.{vec_len}
use Rattle.command_words.specs.Commands.{HasLawfulLength, receivers_needed}
use Rattle.command_words.specs.declared.command.Command.{Command}
use Rattle.sflow_tool.specs.Relays.{relays}
use Rattle.command_words.specs.declared.command.Command.TheVariants.{Replay, Show, Check, Canon, Pcap, Collect, Send, Relay, Agent, Trial, TrialMade}
use Rattle.sflow_tool.proofs.Performed.{between, collecting, fed_as, fed_come, fed_made, fed_read, fed_relay, fed_tried, of_this, sends_as, unfed_canon, unfed_check, unfed_pcap, unfed_send, unfed_show, unfed_agent}
use Rattle.sflow_tool.proofs.Relaying.{lines_as, not_relay, relayed_as, turns_as}
use Rattle.sflow_tool.proofs.top.perform.Goals as goal

pub returns-in-Replay-clause-runs : goal.returns-in-Replay-clause-runs
returns-in-Replay-clause-runs g c =
    of_this (Replay c.in-Replay.limits c.in-Replay.interfaces) c.args.command _ _ _ c.in-Replay.is
    (collecting _ _ _ _ _ _ _ _ _ _ c.replay.ensures.runs)

pub returns-in-Replay-clause-fed : goal.returns-in-Replay-clause-fed
returns-in-Replay-clause-fed g c =
    fed_as _ _ _ _ _ _ _ (Replay c.in-Replay.limits c.in-Replay.interfaces) c.args.command c.in-Replay.is
    (fed_read _ _ _ _ _ _ _ c.in-Replay.limits c.in-Replay.interfaces c.replay.ensures.fed)

pub returns-in-Show-clause-runs : goal.returns-in-Show-clause-runs
returns-in-Show-clause-runs g c = of_this Show c.args.command _ _ _ c.in-Show.is (between _ _ _ _ _ _ _ _ _ c.show.ensures)

pub returns-in-Show-clause-fed : goal.returns-in-Show-clause-fed
returns-in-Show-clause-fed g c = fed_as _ _ _ _ _ _ _ Show c.args.command c.in-Show.is (unfed_show _ _ _ _ _ _)

pub returns-in-Check-clause-runs : goal.returns-in-Check-clause-runs
returns-in-Check-clause-runs g c = of_this (Check c.in-Check.pad) c.args.command _ _ _ c.in-Check.is (between _ _ _ _ _ _ _ _ _ c.check.ensures)

pub returns-in-Check-clause-fed : goal.returns-in-Check-clause-fed
returns-in-Check-clause-fed g c =
    fed_as _ _ _ _ _ _ _ (Check c.in-Check.pad) c.args.command c.in-Check.is (unfed_check _ _ _ _ _ _ _)

pub returns-in-Canon-clause-runs : goal.returns-in-Canon-clause-runs
returns-in-Canon-clause-runs g c = of_this (Canon c.in-Canon.version) c.args.command _ _ _ c.in-Canon.is (between _ _ _ _ _ _ _ _ _ c.canon.ensures)

pub returns-in-Canon-clause-fed : goal.returns-in-Canon-clause-fed
returns-in-Canon-clause-fed g c =
    fed_as _ _ _ _ _ _ _ (Canon c.in-Canon.version) c.args.command c.in-Canon.is (unfed_canon _ _ _ _ _ _ _)

pub returns-in-Pcap-clause-runs : goal.returns-in-Pcap-clause-runs
returns-in-Pcap-clause-runs g c = of_this (Pcap c.in-Pcap.output) c.args.command _ _ _ c.in-Pcap.is (between _ _ _ _ _ _ _ _ _ c.pcap.ensures)

pub returns-in-Pcap-clause-fed : goal.returns-in-Pcap-clause-fed
returns-in-Pcap-clause-fed g c =
    fed_as _ _ _ _ _ _ _ (Pcap c.in-Pcap.output) c.args.command c.in-Pcap.is (unfed_pcap _ _ _ _ _ _ _)

pub returns-in-Collect-clause-runs : goal.returns-in-Collect-clause-runs
returns-in-Collect-clause-runs g c = of_this (Collect c.in-Collect.asked) c.args.command _ _ _ c.in-Collect.is (c.collect.ensures.runs _)

pub returns-in-Collect-clause-fed : goal.returns-in-Collect-clause-fed
returns-in-Collect-clause-fed g c =
    fed_as _ _ _ _ _ _ _ (Collect c.in-Collect.asked) c.args.command c.in-Collect.is
    (fed_come _ _ _ _ _ _ _ c.in-Collect.asked c.collect.ensures.fed)

pub returns-in-Send-clause-runs : goal.returns-in-Send-clause-runs
returns-in-Send-clause-runs g c = of_this (Send c.in-Send.to) c.args.command _ _ _ c.in-Send.is (sends_as c.in-Send.to _ _ _ _ c.text.ensures (c.send.ensures _))

pub returns-in-Send-clause-fed : goal.returns-in-Send-clause-fed
returns-in-Send-clause-fed g c =
    fed_as _ _ _ _ _ _ _ (Send c.in-Send.to) c.args.command c.in-Send.is (unfed_send _ _ _ _ _ _ _)

pub returns-in-Replay-clause-relay_lines : goal.returns-in-Replay-clause-relay_lines
returns-in-Replay-clause-relay_lines g c = λ asked routes is. absurd (not_relay c.args.command asked routes is (ap relays c.in-Replay.is))

pub returns-in-Replay-clause-relayed : goal.returns-in-Replay-clause-relayed
returns-in-Replay-clause-relayed g c = λ asked routes is. absurd (not_relay c.args.command asked routes is (ap relays c.in-Replay.is))

pub returns-in-Show-clause-relay_lines : goal.returns-in-Show-clause-relay_lines
returns-in-Show-clause-relay_lines g c = λ asked routes is. absurd (not_relay c.args.command asked routes is (ap relays c.in-Show.is))

pub returns-in-Show-clause-relayed : goal.returns-in-Show-clause-relayed
returns-in-Show-clause-relayed g c = λ asked routes is. absurd (not_relay c.args.command asked routes is (ap relays c.in-Show.is))

pub returns-in-Check-clause-relay_lines : goal.returns-in-Check-clause-relay_lines
returns-in-Check-clause-relay_lines g c = λ asked routes is. absurd (not_relay c.args.command asked routes is (ap relays c.in-Check.is))

pub returns-in-Check-clause-relayed : goal.returns-in-Check-clause-relayed
returns-in-Check-clause-relayed g c = λ asked routes is. absurd (not_relay c.args.command asked routes is (ap relays c.in-Check.is))

pub returns-in-Canon-clause-relay_lines : goal.returns-in-Canon-clause-relay_lines
returns-in-Canon-clause-relay_lines g c = λ asked routes is. absurd (not_relay c.args.command asked routes is (ap relays c.in-Canon.is))

pub returns-in-Canon-clause-relayed : goal.returns-in-Canon-clause-relayed
returns-in-Canon-clause-relayed g c = λ asked routes is. absurd (not_relay c.args.command asked routes is (ap relays c.in-Canon.is))

pub returns-in-Pcap-clause-relay_lines : goal.returns-in-Pcap-clause-relay_lines
returns-in-Pcap-clause-relay_lines g c = λ asked routes is. absurd (not_relay c.args.command asked routes is (ap relays c.in-Pcap.is))

pub returns-in-Pcap-clause-relayed : goal.returns-in-Pcap-clause-relayed
returns-in-Pcap-clause-relayed g c = λ asked routes is. absurd (not_relay c.args.command asked routes is (ap relays c.in-Pcap.is))

pub returns-in-Collect-clause-relay_lines : goal.returns-in-Collect-clause-relay_lines
returns-in-Collect-clause-relay_lines g c = λ asked routes is. absurd (not_relay c.args.command asked routes is (ap relays c.in-Collect.is))

pub returns-in-Collect-clause-relayed : goal.returns-in-Collect-clause-relayed
returns-in-Collect-clause-relayed g c = λ asked routes is. absurd (not_relay c.args.command asked routes is (ap relays c.in-Collect.is))

pub returns-in-Send-clause-relay_lines : goal.returns-in-Send-clause-relay_lines
returns-in-Send-clause-relay_lines g c = λ asked routes is. absurd (not_relay c.args.command asked routes is (ap relays c.in-Send.is))

pub returns-in-Send-clause-relayed : goal.returns-in-Send-clause-relayed
returns-in-Send-clause-relayed g c = λ asked routes is. absurd (not_relay c.args.command asked routes is (ap relays c.in-Send.is))

pub relay-requires-clause-enough : goal.relay-requires-clause-enough
relay-requires-clause-enough g c =
    subst (λ (k : Command). receivers_needed k ≤ vec_len c.args.receivers.now.held) c.in-Relay.is c.requires.enough

pub returns-in-Relay-clause-runs : goal.returns-in-Relay-clause-runs
returns-in-Relay-clause-runs g c =
    of_this (Relay c.in-Relay.asked c.in-Relay.routes) c.args.command _ _ _ c.in-Relay.is (_, c.relay.ensures.runs _)

pub returns-in-Relay-clause-fed : goal.returns-in-Relay-clause-fed
returns-in-Relay-clause-fed g c =
    fed_as _ _ _ _ _ _ _ (Relay c.in-Relay.asked c.in-Relay.routes) c.args.command c.in-Relay.is
    (fed_relay _ _ _ _ _ _ _ c.in-Relay.asked c.in-Relay.routes c.relay.ensures.fed)

pub returns-in-Relay-clause-relay_lines : goal.returns-in-Relay-clause-relay_lines
returns-in-Relay-clause-relay_lines g c = λ asked routes is.
    lines_as c.args.command c.in-Relay.asked asked c.in-Relay.routes routes c.in-Relay.is is _ _ _ _ (c.relay.ensures.runs _)

pub returns-in-Relay-clause-relayed : goal.returns-in-Relay-clause-relayed
returns-in-Relay-clause-relayed g c = λ asked routes is.
    relayed_as c.args.command c.in-Relay.asked asked c.in-Relay.routes routes c.in-Relay.is is _ _ _ _ _ _ _ _ c.relay.ensures.relayed

pub returns-in-Relay-clause-unrelayed : goal.returns-in-Relay-clause-unrelayed
returns-in-Relay-clause-unrelayed g c = λ unlike. absurd (true≢false (sym (ap relays c.in-Relay.is) ∙ unlike))

pub returns-in-Agent-clause-runs : goal.returns-in-Agent-clause-runs
returns-in-Agent-clause-runs g c = of_this Agent c.args.command _ _ _ c.in-Agent.is (between _ _ _ _ _ _ _ _ _ c.agent.ensures)

pub returns-in-Agent-clause-fed : goal.returns-in-Agent-clause-fed
returns-in-Agent-clause-fed g c = fed_as _ _ _ _ _ _ _ Agent c.args.command c.in-Agent.is (unfed_agent _ _ _ _ _ _)

pub returns-in-Agent-clause-relay_lines : goal.returns-in-Agent-clause-relay_lines
returns-in-Agent-clause-relay_lines g c = λ asked routes is. absurd (not_relay c.args.command asked routes is (ap relays c.in-Agent.is))

pub returns-in-Agent-clause-relayed : goal.returns-in-Agent-clause-relayed
returns-in-Agent-clause-relayed g c = λ asked routes is. absurd (not_relay c.args.command asked routes is (ap relays c.in-Agent.is))

pub returns-in-Replay-clause-turns : goal.returns-in-Replay-clause-turns
returns-in-Replay-clause-turns g c = λ asked routes is. absurd (not_relay c.args.command asked routes is (ap relays c.in-Replay.is))

pub returns-in-Show-clause-turns : goal.returns-in-Show-clause-turns
returns-in-Show-clause-turns g c = λ asked routes is. absurd (not_relay c.args.command asked routes is (ap relays c.in-Show.is))

pub returns-in-Check-clause-turns : goal.returns-in-Check-clause-turns
returns-in-Check-clause-turns g c = λ asked routes is. absurd (not_relay c.args.command asked routes is (ap relays c.in-Check.is))

pub returns-in-Canon-clause-turns : goal.returns-in-Canon-clause-turns
returns-in-Canon-clause-turns g c = λ asked routes is. absurd (not_relay c.args.command asked routes is (ap relays c.in-Canon.is))

pub returns-in-Pcap-clause-turns : goal.returns-in-Pcap-clause-turns
returns-in-Pcap-clause-turns g c = λ asked routes is. absurd (not_relay c.args.command asked routes is (ap relays c.in-Pcap.is))

pub returns-in-Collect-clause-turns : goal.returns-in-Collect-clause-turns
returns-in-Collect-clause-turns g c = λ asked routes is. absurd (not_relay c.args.command asked routes is (ap relays c.in-Collect.is))

pub returns-in-Send-clause-turns : goal.returns-in-Send-clause-turns
returns-in-Send-clause-turns g c = λ asked routes is. absurd (not_relay c.args.command asked routes is (ap relays c.in-Send.is))

pub returns-in-Relay-clause-turns : goal.returns-in-Relay-clause-turns
returns-in-Relay-clause-turns g c = λ asked routes is.
    turns_as c.args.command c.in-Relay.asked asked c.in-Relay.routes routes c.in-Relay.is is c.relay.ensures.turns

pub returns-in-Agent-clause-turns : goal.returns-in-Agent-clause-turns
returns-in-Agent-clause-turns g c = λ asked routes is. absurd (not_relay c.args.command asked routes is (ap relays c.in-Agent.is))

pub returns-in-Trial-clause-runs : goal.returns-in-Trial-clause-runs
returns-in-Trial-clause-runs g c =
    of_this (Trial c.in-Trial.limits c.in-Trial.interfaces) c.args.command _ _ _ c.in-Trial.is
    (collecting _ _ _ _ _ _ _ _ _ _ c.trial.ensures.runs)

pub returns-in-Trial-clause-fed : goal.returns-in-Trial-clause-fed
returns-in-Trial-clause-fed g c =
    fed_as _ _ _ _ _ _ _ (Trial c.in-Trial.limits c.in-Trial.interfaces) c.args.command c.in-Trial.is
    (fed_tried _ _ _ _ _ _ _ c.in-Trial.limits c.in-Trial.interfaces c.trial.ensures.fed)

pub returns-in-Trial-clause-relay_lines : goal.returns-in-Trial-clause-relay_lines
returns-in-Trial-clause-relay_lines g c = λ asked routes is. absurd (not_relay c.args.command asked routes is (ap relays c.in-Trial.is))

pub returns-in-Trial-clause-relayed : goal.returns-in-Trial-clause-relayed
returns-in-Trial-clause-relayed g c = λ asked routes is. absurd (not_relay c.args.command asked routes is (ap relays c.in-Trial.is))

pub returns-in-Trial-clause-turns : goal.returns-in-Trial-clause-turns
returns-in-Trial-clause-turns g c = λ asked routes is. absurd (not_relay c.args.command asked routes is (ap relays c.in-Trial.is))

pub made_trial-requires-clause-some : goal.made_trial-requires-clause-some
made_trial-requires-clause-some g c = (subst HasLawfulLength c.in-TrialMade.is c.requires.length).0

pub made_trial-requires-clause-most : goal.made_trial-requires-clause-most
made_trial-requires-clause-most g c = (subst HasLawfulLength c.in-TrialMade.is c.requires.length).1

pub returns-in-TrialMade-clause-runs : goal.returns-in-TrialMade-clause-runs
returns-in-TrialMade-clause-runs g c =
    of_this (TrialMade c.in-TrialMade.limits c.in-TrialMade.interfaces c.in-TrialMade.seed c.in-TrialMade.packets) c.args.command _ _ _ c.in-TrialMade.is (c.made_trial.ensures.runs _ _)

pub returns-in-TrialMade-clause-fed : goal.returns-in-TrialMade-clause-fed
returns-in-TrialMade-clause-fed g c =
    fed_as _ _ _ _ _ _ _ (TrialMade c.in-TrialMade.limits c.in-TrialMade.interfaces c.in-TrialMade.seed c.in-TrialMade.packets) c.args.command c.in-TrialMade.is
    (fed_made _ _ _ _ _ _ _ c.in-TrialMade.limits c.in-TrialMade.interfaces c.in-TrialMade.seed c.in-TrialMade.packets
    c.made_trial.ensures.fed)

pub returns-in-TrialMade-clause-relay_lines : goal.returns-in-TrialMade-clause-relay_lines
returns-in-TrialMade-clause-relay_lines g c = λ asked routes is. absurd (not_relay c.args.command asked routes is (ap relays c.in-TrialMade.is))

pub returns-in-TrialMade-clause-relayed : goal.returns-in-TrialMade-clause-relayed
returns-in-TrialMade-clause-relayed g c = λ asked routes is. absurd (not_relay c.args.command asked routes is (ap relays c.in-TrialMade.is))

pub returns-in-TrialMade-clause-turns : goal.returns-in-TrialMade-clause-turns
returns-in-TrialMade-clause-turns g c = λ asked routes is. absurd (not_relay c.args.command asked routes is (ap relays c.in-TrialMade.is))
