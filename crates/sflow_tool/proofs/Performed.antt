-- What holds of the runs of all commands.
use Rattle.std.proofs.Common.{◌≡◌, ℕ, Bool, ◌⊎◌, inl, inr, List, [], Some, refl, sym, subst, ◌∙◌}
use Rattle.wire_spec.specs.Bytes.{AreBytes}
use Rattle.wire_spec.specs.declared.pad.Pad.{Pad}
use Rattle.capture_spec.specs.declared.pcap_output.PcapOutput.{PcapOutput}
use Rattle.books_spec.specs.declared.limits.Limits.{Limits}
use Rattle.command_words.specs.declared.command.CanonVersion.{CanonVersion}
use Rattle.byte_ends.specs.Seen.{Rose, Seen}
use Rattle.datagram_links.specs.Links.{LinkSeen}
use Rattle.report_lines.specs.HeaderLines.{ShownTaps, no_taps}
use Rattle.sample_taps.specs.declared.brief.Brief.{Brief}
use Rattle.sample_taps.specs.Feeding.{Held}
use Rattle.command_words.specs.declared.command.Command.{Command}
use Rattle.command_words.specs.declared.command.Command.TheVariants.{Replay, Show, Check, Canon, Pcap, Collect, Send, Relay, Agent, Trial, TrialMade}
use Rattle.command_runs.specs.declared.status.Status.{Status}
use Rattle.command_runs.specs.declared.status.Status.TheVariants.{Done, Found, Usage, ReadFault, WriteFault, BadInput, Memory, LinkFault, Spent}
use Rattle.command_runs.specs.Acts.{Act}
use Rattle.command_words.specs.declared.collection.Collection.{Collection}
use Rattle.command_runs.specs.Grammars.{Grammar, captures, pcap_files, scripts}
use Rattle.command_runs.specs.Outside.{Outside, outside}
use Rattle.command_runs.specs.Readings.{Decides, HasOneEnding}
use Rattle.command_runs.specs.Runs.{Runs, lacked_first}
use Rattle.command_runs.specs.Visits.{HasVisited}
use Rattle.command_runs.proofs.Visited.{none_visited}
use Rattle.command_runs.proofs.CaptureEndings.{captures_once}
use Rattle.command_runs.proofs.Completed.{completed}
use Rattle.command_runs.proofs.PcapEndings.{pcap_files_once}
use Rattle.command_runs.proofs.ScriptEndings.{scripts_once}
use Rattle.sflow_tool.specs.Agents.{agent_act}
use Rattle.sflow_tool.specs.Canons.{canon_act}
use Rattle.sflow_tool.specs.Checks.{check_act}
use Rattle.sflow_tool.specs.Collects.{HasCome, collected_text, received_of}
use Rattle.sflow_tool.specs.Sends.{Sends, send_act}
use Rattle.sflow_tool.proofs.LinkRuns.{collect_lacks, collects_usage, completes_collect, completes_send, one_done, send_lacks, sends_usage}
use Rattle.sflow_tool.proofs.CollectRuns.{none_at_memory}
use Rattle.sflow_tool.specs.Pcaps.{pcap_act}
use Rattle.sflow_tool.specs.Performances.{EndsBy, IsFed, Performs}
use Rattle.sflow_tool.specs.Relays.{relayed_text}
use Rattle.sflow_tool.specs.Replays.{briefs_in, replay_act}
use Rattle.relay_out.specs.Routes.{Route}
use Rattle.sflow_tool.specs.Shows.{show_act}
use Rattle.sflow_tool.specs.Surroundings.{RunsBetween, RunsCollecting, Surroundings, surroundings}
use Rattle.sflow_tool.specs.Trials.{HasTriedLines, received_in, trial_act}
use Rattle.sflow_tool.specs.MadeTrials.{HasMade, made_text}
use Rattle.sflow_tool.proofs.Arrived.{none_tried, nothing_fed}
use Rattle.sflow_tool.proofs.MadeRuns.{completes_makes, makes_lacks, makes_usage, none_made}

-- a run of one command is one of another that is the same
pub of_this : (c d : Command) (before after : Surroundings) (status : Status) → d ≡ c → Performs c before after status
    → Performs d before after status
of_this c d before after status is ran = subst (λ (x : Command). Performs x before after status) (sym is) ran

-- a run of `send` to a place that is named by this text
pub sends_as : (to text : List ℕ) (before after : Surroundings) (status : Status) → text ≡ to
    → Sends text before after status → Performs (Send to) before after status
sends_as to text before after status is ran = subst (λ t. Sends t before after status) is ran

-- a run from the source to the sink, which touched neither the link nor the consumers
pub between : {X : Type 0} (g : Grammar X) (a : Act X) (source sink source' sink' : Seen) (link : LinkSeen)
    (taps : ShownTaps) (status : Status) → Runs g a (outside source sink) (outside source' sink') status
    → RunsBetween g a (surroundings source sink link taps) (surroundings source' sink' link taps) status
between g a source sink source' sink' link taps status ran = record { ran = ran; link_kept = refl; taps_kept = refl }

-- a run that feeds the consumers, and doesn't touch the link
pub collecting : {X : Type 0} (g : Grammar X) (a : ShownTaps → Act X) (source sink source' sink' : Seen) (link : LinkSeen)
    (taps taps' : ShownTaps) (status : Status) → Runs g (a taps') (outside source sink) (outside source' sink') status
    → RunsCollecting g a (surroundings source sink link taps) (surroundings source' sink' link taps') status
collecting g a source sink source' sink' link taps taps' status ran = record { ran = ran; link_kept = refl }

-- a run that has touched nothing may want memory
pub lacks_between : {X : Type 0} (g : Grammar X) (a : Act X) (ends : Outside) → Runs g a ends ends Memory
lacks_between g a ends = record {
  may = tt;
  ends = λ input are told. lacked_first refl;
  at_end = λ e. elim e [ inl e ↦ absurd cc | inr e ↦ absurd cc ];
  quiet = λ late not_done not_found not_failed. refl;
  early = λ first e. refl;
  read_fault = λ e. absurd cc;
  read_kept = λ other late. refl;
  write_fault = λ e. absurd cc;
  write_kept = λ e. refl;
  reads_once = inl refl;
}

lacks : {X : Type 0} (g : Grammar X) (a : Act X) (before : Surroundings) → RunsBetween g a before before Memory
lacks g a before = record { ran = lacks_between g a before.ends; link_kept = refl; taps_kept = refl }

lacks_collecting : {X : Type 0} (g : Grammar X) (a : ShownTaps → Act X) (before : Surroundings)
    → RunsCollecting g a before before Memory
lacks_collecting g a before = record { ran = lacks_between g (a before.taps) before.ends; link_kept = refl }

pub lacks_memory : (c : Command) (before : Surroundings) → Performs c before before Memory
lacks_memory (Replay limits interfaces) = lacks_collecting captures (replay_act limits interfaces)
lacks_memory Show = lacks captures show_act
lacks_memory (Check pad) = lacks captures (check_act pad)
lacks_memory (Canon to) = lacks captures (canon_act to)
lacks_memory (Pcap output) = lacks pcap_files (pcap_act output)
lacks_memory (Collect asked) = collect_lacks asked (collected_text asked)
lacks_memory (Send to) = send_lacks to
lacks_memory (Relay asked routes) = λ before. ([], collect_lacks asked (relayed_text asked routes []) before)
lacks_memory Agent = lacks scripts agent_act
lacks_memory (Trial limits interfaces) = lacks_collecting scripts (trial_act limits interfaces)
lacks_memory (TrialMade limits interfaces seed packets) = makes_lacks (made_text limits interfaces seed packets)

-- no command ends with `Usage`
pub no_usage : (c : Command) (before after : Surroundings) → Performs c before after Usage → ⊥
no_usage (Replay limits interfaces) before after ran = ran.ran.may
no_usage Show before after ran = ran.ran.may
no_usage (Check pad) before after ran = ran.ran.may
no_usage (Canon to) before after ran = ran.ran.may
no_usage (Pcap output) before after ran = ran.ran.may
no_usage (Collect asked) before after ran = collects_usage asked (collected_text asked) before after ran
no_usage (Send to) before after ran = sends_usage to before after ran
no_usage (Relay asked routes) before after ran = collects_usage asked (relayed_text asked routes ran.0) before after ran.1
no_usage Agent before after ran = ran.ran.may
no_usage (Trial limits interfaces) before after ran = ran.ran.may
no_usage (TrialMade limits interfaces seed packets) before after ran =
    makes_usage (made_text limits interfaces seed packets) before after ran

-- an input makes a run of a command end in one way
pub some_ending : (c : Command) (input : List ℕ) → AreBytes input → (ending : Status) × EndsBy c input ending
some_ending (Replay limits interfaces) input are = captures_once.some (replay_act limits interfaces no_taps) input are
some_ending Show input are = captures_once.some show_act input are
some_ending (Check pad) input are = captures_once.some (check_act pad) input are
some_ending (Canon to) input are = captures_once.some (canon_act to) input are
some_ending (Pcap output) input are = pcap_files_once.some (pcap_act output) input are
some_ending (Collect asked) input are = (Done, refl)
some_ending (Send to) input are = captures_once.some send_act input are
some_ending (Relay asked routes) input are = (Done, refl)
some_ending Agent input are = scripts_once.some agent_act input are
some_ending (Trial limits interfaces) input are = scripts_once.some (trial_act limits interfaces no_taps) input are
some_ending (TrialMade limits interfaces seed packets) input are = (Done, refl)

pub one_ending : (c : Command) (input : List ℕ) (one other : Status) → AreBytes input → EndsBy c input one
    → EndsBy c input other → one ≡ other
one_ending (Replay limits interfaces) = captures_once.one (replay_act limits interfaces no_taps)
one_ending Show = captures_once.one show_act
one_ending (Check pad) = captures_once.one (check_act pad)
one_ending (Canon to) = captures_once.one (canon_act to)
one_ending (Pcap output) = pcap_files_once.one (pcap_act output)
one_ending (Collect asked) = one_done
one_ending (Send to) = captures_once.one send_act
one_ending (Relay asked routes) = one_done
one_ending Agent = scripts_once.one agent_act
one_ending (Trial limits interfaces) = scripts_once.one (trial_act limits interfaces no_taps)
one_ending (TrialMade limits interfaces seed packets) = one_done

-- how an input makes a run end depends on what it finds alone
decides_as : {X : Type 0} (g : Grammar X) (a b : Act X) → ((x : X) → b.finds x ≡ a.finds x) → (input : List ℕ)
    (ending : Status) → Decides g a input ending → Decides g b input ending
decides_as g a b same input Done d = (d.0, record { all = d.1.all; found_is = same d.0 ∙ d.1.found_is })
decides_as g a b same input Found d = (d.0, record { all = d.1.all; found_is = same d.0 ∙ d.1.found_is })
decides_as g a b same input Usage d = absurd d.1
decides_as g a b same input ReadFault d = absurd d.1
decides_as g a b same input WriteFault d = absurd d.1
decides_as g a b same input (BadInput at kind) d = d
decides_as g a b same input Memory d = absurd d.1
decides_as g a b same input LinkFault d = absurd d.1
decides_as g a b same input Spent d = d

completes_collecting : {X : Type 0} (g : Grammar X) (a : ShownTaps → Act X) → HasOneEnding g
    → ((t u : ShownTaps) (x : X) → (a t).finds x ≡ (a u).finds x) → (input : List ℕ)
    (before after : Surroundings) (status ending : Status) → RunsCollecting g a before after status → AreBytes input
    → before.ends.source.told ≡ Some input → Decides g (a no_taps) input ending
    → ¬ Rose before.ends.source.faults after.ends.source.faults
    → ¬ Rose before.ends.sink.faults after.ends.sink.faults → ¬ Rose before.link.faults after.link.faults
    → (status ≡ ending) ⊎ (status ≡ Memory)
completes_collecting g a exact same input before after status ending ran are told decides no_read no_write no_link =
    completed g (a after.taps) exact input before.ends after.ends status ending ran.ran are told
    (decides_as g (a no_taps) (a after.taps) (same after.taps no_taps) input ending decides) no_read no_write

completes_between : {X : Type 0} (g : Grammar X) (a : Act X) → HasOneEnding g → (input : List ℕ)
    (before after : Surroundings) (status ending : Status) → RunsBetween g a before after status → AreBytes input
    → before.ends.source.told ≡ Some input → Decides g a input ending
    → ¬ Rose before.ends.source.faults after.ends.source.faults
    → ¬ Rose before.ends.sink.faults after.ends.sink.faults → ¬ Rose before.link.faults after.link.faults
    → (status ≡ ending) ⊎ (status ≡ Memory)
completes_between g a exact input before after status ending ran are told decides no_read no_write no_link =
    completed g a exact input before.ends after.ends status ending ran.ran are told decides no_read no_write

-- where no count of faults rose, a run ends so, but for want of memory
pub completes : (c : Command) (input : List ℕ) (before after : Surroundings) (status ending : Status)
    → Performs c before after status → AreBytes input → before.ends.source.told ≡ Some input → EndsBy c input ending
    → ¬ Rose before.ends.source.faults after.ends.source.faults
    → ¬ Rose before.ends.sink.faults after.ends.sink.faults → ¬ Rose before.link.faults after.link.faults
    → (status ≡ ending) ⊎ (status ≡ Memory)
completes (Replay limits interfaces) =
    completes_collecting captures (replay_act limits interfaces) captures_once (λ t u x. refl)
completes Show = completes_between captures show_act captures_once
completes (Check pad) = completes_between captures (check_act pad) captures_once
completes (Canon to) = completes_between captures (canon_act to) captures_once
completes (Pcap output) = completes_between pcap_files (pcap_act output) pcap_files_once
completes (Collect asked) = completes_collect asked (collected_text asked)
completes (Send to) = completes_send to
completes (Relay asked routes) = λ input before after status ending ran.
    completes_collect asked (relayed_text asked routes ran.0) input before after status ending ran.1
completes Agent = completes_between scripts agent_act scripts_once
completes (Trial limits interfaces) =
    completes_collecting scripts (trial_act limits interfaces) scripts_once (λ t u x. refl)
completes (TrialMade limits interfaces seed packets) = completes_makes (made_text limits interfaces seed packets)

-- ---- what a run feeds the consumers

module _ {X : Type 0} (step : X → Brief → X → Type 0) (done : X → Bool) (before after : Surroundings) (status : Status)
    (xs ys : List X) where
  pub fed_as : (c d : Command) → d ≡ c → IsFed step done c before after status xs ys → IsFed step done d before after status xs ys
  fed_as c d is fed = subst (λ (x : Command). IsFed step done x before after status xs ys) (sym is) fed

  pub fed_read : (l : Limits) (interfaces : Bool)
      → HasVisited (λ entries. Held step done (briefs_in l entries) xs ys) before.ends.source after.ends.source status
      → IsFed step done (Replay l interfaces) before after status xs ys
  fed_read l interfaces seen = record {
    briefs = briefs_in l seen.read.entries;
    feeds = record { read = seen.read; were = refl; reads = seen.reads };
    held = seen.were;
  }

  pub fed_made : (l : Limits) (interfaces : Bool) (seed packets : ℕ)
      → HasMade (λ entries. Held step done (briefs_in l entries) xs ys) seed packets status
      → IsFed step done (TrialMade l interfaces seed packets) before after status xs ys
  fed_made l interfaces seed packets seen = record {
    briefs = briefs_in l seen.entries;
    feeds = record { entries = seen.entries; were = refl; arrived = seen.arrived };
    held = seen.were;
  }

  pub fed_tried : (l : Limits) (interfaces : Bool)
      → HasTriedLines (λ lines. Held step done (briefs_in l (received_in lines)) xs ys) before.ends.source after.ends.source status
      → IsFed step done (Trial l interfaces) before after status xs ys
  fed_tried l interfaces seen = record {
    briefs = briefs_in l (received_in seen.lines);
    feeds = record { lines = seen.lines; were = refl; tried = seen.tried };
    held = seen.were;
  }

  pub fed_come : (asked : Collection)
      → HasCome (λ entries. Held step done (briefs_in asked.limits entries) xs ys) asked before.link after.link status
      → IsFed step done (Collect asked) before after status xs ys
  fed_come asked come = record {
    briefs = briefs_in asked.limits (received_of come.entries);
    feeds = record { turns = come.turns; entries = come.entries; came = come.came; were = refl; turned = come.turned; left = come.left };
    held = come.were;
  }

  pub fed_relay : (asked : Collection) (routes : List Route)
      → HasCome (λ entries. Held step done (briefs_in asked.limits entries) xs ys) asked before.link after.link status
      → IsFed step done (Relay asked routes) before after status xs ys
  fed_relay asked routes come = record {
    briefs = briefs_in asked.limits (received_of come.entries);
    feeds = record { turns = come.turns; entries = come.entries; came = come.came; were = refl; turned = come.turned; left = come.left };
    held = come.were;
  }

module _ {X : Type 0} (step : X → Brief → X → Type 0) (done : X → Bool) (before after : Surroundings) (xs : List X) where
  -- a command that doesn't collect gives no brief
  pub unfed_show : (status : Status) → IsFed step done Show before after status xs xs
  unfed_show status = record { briefs = []; feeds = refl; held = refl }

  pub unfed_check : (status : Status) (pad : Pad) → IsFed step done (Check pad) before after status xs xs
  unfed_check status pad = record { briefs = []; feeds = refl; held = refl }

  pub unfed_canon : (status : Status) (to : CanonVersion) → IsFed step done (Canon to) before after status xs xs
  unfed_canon status to = record { briefs = []; feeds = refl; held = refl }

  pub unfed_pcap : (status : Status) (output : PcapOutput) → IsFed step done (Pcap output) before after status xs xs
  unfed_pcap status output = record { briefs = []; feeds = refl; held = refl }

  pub unfed_send : (status : Status) (to : List ℕ) → IsFed step done (Send to) before after status xs xs
  unfed_send status to = record { briefs = []; feeds = refl; held = refl }

  pub unfed_agent : (status : Status) → IsFed step done Agent before after status xs xs
  unfed_agent status = record { briefs = []; feeds = refl; held = refl }

-- nor does a run that has no memory
module _ {X : Type 0} (step : X → Brief → X → Type 0) (done : X → Bool) (before : Surroundings) (xs : List X) where
  pub unfed_memory : (c : Command) → IsFed step done c before before Memory xs xs
  unfed_memory (Replay l interfaces) = record { briefs = []; feeds = none_visited _ _ _ refl; held = refl }
  unfed_memory Show = unfed_show step done before before xs Memory
  unfed_memory (Check pad) = unfed_check step done before before xs Memory pad
  unfed_memory (Canon to) = unfed_canon step done before before xs Memory to
  unfed_memory (Pcap output) = unfed_pcap step done before before xs Memory output
  unfed_memory (Collect asked) = record { briefs = []; feeds = none_at_memory _ asked before.link refl; held = refl }
  unfed_memory (Send to) = unfed_send step done before before xs Memory to
  unfed_memory (Relay asked routes) = record { briefs = []; feeds = none_at_memory _ asked before.link refl; held = refl }
  unfed_memory Agent = unfed_agent step done before before xs Memory
  unfed_memory (Trial l interfaces) =
      record { briefs = []; feeds = none_tried _ _ (sym (nothing_fed l)); held = refl }
  unfed_memory (TrialMade l interfaces seed packets) =
      record { briefs = []; feeds = none_made _ seed packets refl; held = refl }
