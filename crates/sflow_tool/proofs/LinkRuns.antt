-- How runs of the commands that use a link end.
use Rattle.std.proofs.Common.{◌≡◌, ◌⊎◌, ℕ, inl, inr, List, Some, refl, sym, ap, ◌∙◌, subst, arith}
use Rattle.wire_spec.specs.Bytes.{AreBytes}
use Rattle.byte_ends.specs.Seen.{Rose, Seen, next_count}
use Rattle.wire_spec.specs.Captures.{Entry}
use Rattle.datagram_links.specs.Links.{LinkSeen}
use Rattle.report_lines.specs.HeaderLines.{ShownTaps}
use Rattle.command_words.specs.declared.collection.Collection.{Collection}
use Rattle.command_runs.specs.declared.status.Status.{Status}
use Rattle.command_runs.specs.declared.status.Status.TheVariants.{Done, Found, Usage, ReadFault, WriteFault, BadInput, Memory, LinkFault, Spent}
use Rattle.command_runs.specs.Endings.{Flushed, whole, part}
use Rattle.command_runs.specs.Grammars.{Capture, captures}
use Rattle.command_runs.specs.Outside.{Outside}
use Rattle.command_runs.specs.Readings.{Decides, Reads}
use Rattle.command_runs.specs.Runs.{Ends, MayEnd}
use Rattle.command_runs.proofs.CaptureEndings.{captures_once}
use Rattle.sflow_tool.specs.Collects.{CollectsOver, not_listening, not_received, reported}
use Rattle.sflow_tool.specs.Collects as collects
use Rattle.sflow_tool.specs.Sends.{Sends, all_sent, captures_of, not_aimed, not_sent, send_act}
use Rattle.sflow_tool.specs.Sends as sends
use Rattle.sflow_tool.specs.Surroundings.{Surroundings}

rose : (n m : ℕ) → m ≡ next_count n → Rose n m
rose n m is = omega (arith, is)

-- ---- `collect`

pub collect_lacks : (asked : Collection) (text : ShownTaps → List Entry → List ℕ) (before : Surroundings)
    → CollectsOver asked text before before Memory
collect_lacks asked text before = collects.lacks_memory refl refl

pub one_done : (input : List ℕ) (one other : Status) → AreBytes input → one ≡ Done → other ≡ Done → one ≡ other
one_done input one other are first second = first ∙ sym second

pub flushed_usage : (old new : Seen) (text : List ℕ) → Flushed old new text Done Usage → ⊥
flushed_usage old new text (whole is taken) = cc
flushed_usage old new text (part is taken) = cc

pub collects_usage : (asked : Collection) (text : ShownTaps → List Entry → List ℕ) (before after : Surroundings)
    → CollectsOver asked text before after Usage → ⊥
collects_usage asked text before after (collects.lacks_memory is kept) = cc
collects_usage asked text before after (not_listening is kept) = cc
collects_usage asked text before after (not_received turns is fewer link kept) = cc
collects_usage asked text before after (reported entries came link kept flush) =
    flushed_usage before.ends.sink after.ends.sink _ flush

pub flushed_done : (old new : Seen) (text : List ℕ) (status : Status) → Flushed old new text Done status
    → ¬ Rose old.faults new.faults → (status ≡ Done) ⊎ (status ≡ Memory)
flushed_done old new text status (whole is taken) no_write = inl is
flushed_done old new text status (part is taken) no_write = absurd (no_write (rose _ _ taken.failed))

pub turns_done : (asked : Collection) (text : ShownTaps → List Entry → List ℕ) (before after : Surroundings) (status : Status)
    → CollectsOver asked text before after status → ¬ Rose before.ends.sink.faults after.ends.sink.faults
    → ¬ Rose before.link.faults after.link.faults → (status ≡ Done) ⊎ (status ≡ Memory)
turns_done asked text before after status (collects.lacks_memory is kept) no_write no_link = inr is
turns_done asked text before after status (not_listening is kept) no_write no_link =
    absurd (no_link (rose _ _ (ap (λ (s : Surroundings). s.link.faults) kept)))
turns_done asked text before after status (not_received turns is fewer link kept) no_write no_link =
    absurd (no_link (rose _ _ (ap (λ (l : LinkSeen). l.faults) link)))
turns_done asked text before after status (reported entries came link kept flush) no_write no_link =
    flushed_done before.ends.sink after.ends.sink _ status flush no_write

pub completes_collect : (asked : Collection) (text : ShownTaps → List Entry → List ℕ) (input : List ℕ)
    (before after : Surroundings) (status ending : Status)
    → CollectsOver asked text before after status → AreBytes input → before.ends.source.told ≡ Some input → ending ≡ Done
    → ¬ Rose before.ends.source.faults after.ends.source.faults → ¬ Rose before.ends.sink.faults after.ends.sink.faults → ¬ Rose before.link.faults after.link.faults
    → (status ≡ ending) ⊎ (status ≡ Memory)
completes_collect asked text input before after status ending ran are told is no_read no_write no_link =
    subst (λ (s : Status). (status ≡ s) ⊎ (status ≡ Memory)) (sym is) (turns_done asked text before after status ran no_write no_link)

-- ---- `send`

pub send_lacks : (to : List ℕ) (before : Surroundings) → Sends to before before Memory
send_lacks to before = sends.lacks_memory refl refl

pub sends_usage : (to : List ℕ) (before after : Surroundings) → Sends to before after Usage → ⊥
sends_usage to before after (sends.lacks_memory is kept) = cc
sends_usage to before after (not_aimed is kept) = cc
sends_usage to before after (not_sent datagrams next is begun link kept) = cc
sends_usage to before after (all_sent datagrams ran memory link kept) = ran.may

-- what was read of captures with just these bytes was read of captures
reads_any : (datagrams : List (List ℕ)) (input : List ℕ) (x : Capture) (status : Status)
    → Reads (captures_of datagrams) send_act input x status → Reads captures send_act input x status
reads_any datagrams input x Done h = record { all = h.all.1; found_is = h.found_is }
reads_any datagrams input x Found h = record { all = h.all.1; found_is = h.found_is }
reads_any datagrams input x Usage h = h
reads_any datagrams input x ReadFault h = h
reads_any datagrams input x WriteFault h = h
reads_any datagrams input x (BadInput at kind) h = h.1
reads_any datagrams input x Memory h = h
reads_any datagrams input x LinkFault h = h
reads_any datagrams input x Spent h = h.1

module _ (datagrams : List (List ℕ)) (input : List ℕ) (are : AreBytes input) (before after : Outside) where
  by_status : (status ending : Status) → MayEnd send_act status → Ends (captures_of datagrams) send_act input before after status
      → Decides captures send_act input ending → (status ≡ ReadFault → ⊥) → (status ≡ WriteFault → ⊥)
      → (status ≡ ending) ⊎ (status ≡ Memory)
  by_status Done ending may ends decides read write =
      inl (captures_once.one send_act input Done ending are (ends.read, reads_any datagrams input ends.read Done ends.reads) decides)
  by_status Found ending may ends decides read write =
      inl (captures_once.one send_act input Found ending are (ends.read, reads_any datagrams input ends.read Found ends.reads) decides)
  by_status Usage ending may ends decides read write = absurd may
  by_status ReadFault ending may ends decides read write = absurd (read refl)
  by_status WriteFault ending may ends decides read write = absurd (write refl)
  by_status (BadInput at kind) ending may ends decides read write =
      inl (captures_once.one send_act input (BadInput at kind) ending are
      (ends.read, reads_any datagrams input ends.read (BadInput at kind) ends.reads) decides)
  by_status Memory ending may ends decides read write = inr refl
  by_status LinkFault ending may ends decides read write = absurd may
  by_status Spent ending may ends decides read write =
      inl (captures_once.one send_act input Spent ending are (ends.read, reads_any datagrams input ends.read Spent ends.reads) decides)

pub completes_send : (to : List ℕ) (input : List ℕ) (before after : Surroundings) (status ending : Status)
    → Sends to before after status → AreBytes input → before.ends.source.told ≡ Some input
    → Decides captures send_act input ending
    → ¬ Rose before.ends.source.faults after.ends.source.faults
    → ¬ Rose before.ends.sink.faults after.ends.sink.faults → ¬ Rose before.link.faults after.link.faults
    → (status ≡ ending) ⊎ (status ≡ Memory)
completes_send to input before after status ending (sends.lacks_memory is kept) are told decides no_read no_write no_link = inr is
completes_send to input before after status ending (not_aimed is kept) are told decides no_read no_write no_link =
    absurd (no_link (rose _ _ (ap (λ (s : Surroundings). s.link.faults) kept)))
completes_send to input before after status ending (not_sent datagrams next is begun link kept) are told decides no_read no_write no_link =
    absurd (no_link (rose _ _ (ap (λ (l : LinkSeen). l.faults) link)))
completes_send to input before after status ending (all_sent datagrams ran memory link kept) are told decides no_read no_write no_link =
    by_status datagrams input are before.ends after.ends status ending ran.may (ran.ends input are told) decides
    (λ e. no_read (rose _ _ (ran.read_fault e))) (λ e. no_write (rose _ _ (ran.write_fault e)))
