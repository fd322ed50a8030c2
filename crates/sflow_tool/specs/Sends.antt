-- What `send` does: it sends the bytes of each entry of a capture over a link, and writes how many it sent.
use Rattle.std.specs.Prelude.{◌≡◌, ◌≢◌, ℕ, List, [], ◌∷◌, ◌++◌, length, map, codes, decimal, false, true, Some, Result, Ok, Err}
use Rattle.std.specs.List.{concat}
use Rattle.wire_spec.specs.Bytes.{AreBytes}
use Rattle.byte_ends.specs.Seen.{Seen}
use Rattle.datagram_links.specs.Links.{LinkSeen, aimed, failed, told_as}
use Rattle.capture_spec.specs.Items.{Received}
use Rattle.sflow_io.specs.CaptureSteps.{BeginsWithEntries}
use Rattle.sflow_io.specs.declared.capture.ReadRefusal.TheVariants as refusals
use Rattle.command_runs.specs.declared.status.Status.{Status}
use Rattle.command_runs.specs.declared.status.Status.TheVariants.{LinkFault, Memory}
use Rattle.command_runs.specs.Acts.{Act}
use Rattle.command_runs.specs.Grammars.{Capture, Grammar, captures}
use Rattle.command_runs.specs.Outside.{Outside}
use Rattle.command_runs.specs.Runs.{Runs}
use Rattle.sflow_tool.specs.declared.send.SendStop.{SendStop}
use Rattle.sflow_tool.specs.declared.send.SendStop.TheVariants as stops
use Rattle.sflow_tool.specs.Replays.{TookAll, TookSome}
use Rattle.sflow_tool.specs.Surroundings.{Surroundings}
use Rattle.sflow_tool.specs.WalkEnds.{HasCause}

-- the link took these datagrams to send, in order
abbrev pub sent_all : List (List ℕ) → LinkSeen → LinkSeen
sent_all datagrams seen = told_as (λ told. record told { sent = told.sent ++ datagrams }) seen

-- the bytes of each entry
abbrev pub datagrams_of : List Received → List (List ℕ)
datagrams_of entries = map (λ (e : Received). e.bytes) entries

-- ---- a run from the source to the sink

-- a form of input of which reading gives only what is such
abbrev pub such_as : {X : Type 0} → (X → Type 0) → Grammar X → Grammar X
such_as {X} P g = record {
  begins = λ x input. P x × g.begins x input;
  all = λ x input. P x × g.all x input;
  fault = λ x input at kind. P x × g.fault x input at kind;
  goes_on = λ x input. P x × g.goes_on x input;
  stops = λ x input left. P x × g.stops x input left;
}

-- captures whose entries have just these bytes
abbrev pub captures_of : List (List ℕ) → Grammar Capture
captures_of datagrams = such_as (λ (c : Capture). datagrams_of c.entries ≡ datagrams) captures

-- the line that is written at the end
unfoldable pub sent_line : ℕ → List ℕ
sent_line count = concat (codes "sent " ∷ decimal count ∷ codes "\n" ∷ [])

abbrev pub send_act : Act Capture
send_act = record {
  whole = λ c. sent_line (length c.entries);
  part = λ c. [];
  finds = λ c. false;
  may_find = false;
  at_end = true;
  memory_first = true;
}

-- entries with these bytes were read, and more may come; nothing was written, and no call of the source failed
pub record HasBegun (datagrams : List (List ℕ)) (before after : Outside) : Type 0 where
  pub begins : (input : List ℕ) → AreBytes input → before.source.told ≡ Some input
      → (entries : List Received) × (datagrams_of entries ≡ datagrams) × BeginsWithEntries input entries
  pub source_kept : after.source.faults ≡ before.source.faults
  pub sink_kept : after.sink ≡ before.sink

-- ---- a run

-- a run of `send` to this place, from what its surroundings showed before it to what they show after it
pub data Sends (to : List ℕ) (before after : Surroundings) (status : Status) : Type 0 where
  -- nothing was touched
  lacks_memory : status ≡ Memory → after ≡ before → Sends to before after status
  -- the link wasn't aimed, and nothing else was done
  not_aimed : status ≡ LinkFault → after ≡ record before { link = failed before.link } → Sends to before after status
  -- these datagrams were sent, and the one behind them, which was read as well, wasn't
  not_sent : (datagrams : List (List ℕ)) (next : List ℕ) → status ≡ LinkFault
      → HasBegun (datagrams ++ next ∷ []) before.ends after.ends
      → after.link ≡ failed (sent_all datagrams (aimed to before.link)) → after.taps ≡ before.taps
      → Sends to before after status
  -- reading ended, and these are the datagrams of all entries that were read; they were sent
  all_sent : (datagrams : List (List ℕ)) → Runs (captures_of datagrams) send_act before.ends after.ends status
      → status ≢ Memory → after.link ≡ sent_all datagrams (aimed to before.link) → after.taps ≡ before.taps
      → Sends to before after status

-- ---- entries that are sent as they are read

-- the link took the datagrams of these entries
abbrev pub HasSent : LinkSeen → LinkSeen → List Received → Type 0
HasSent link link' entries = link' ≡ sent_all (datagrams_of entries) link

-- these are so many
abbrev pub HasSentAll : LinkSeen → LinkSeen → ℕ → List Received → Type 0
HasSentAll link link' count entries = (count ≡ length entries) × HasSent link link' entries

-- the datagram of an entry behind these wasn't sent
pub record SendFailed (source : Seen) (link link' : LinkSeen) : Type 0 where
  pub entries : List Received
  pub next : Received
  pub begins : (input : List ℕ) → AreBytes input → source.told ≡ Some input → BeginsWithEntries input (entries ++ next ∷ [])
  pub link_is : link' ≡ failed (sent_all (datagrams_of entries) link)

-- how it may end: all entries were read and sent, or some and reading was refused, or a datagram wasn't sent
abbrev pub SendsEnd : Seen → Seen → LinkSeen → LinkSeen → Result ℕ SendStop → Type 0
SendsEnd source source' link link' (Ok count) = TookAll (HasSentAll link link' count) source
SendsEnd source source' link link' (Err (stops.Read refusal)) = TookSome (HasSent link link') source source' refusal
SendsEnd source source' link link' (Err stops.Link) = SendFailed source link link'

-- at a read fault one call of the source failed, and else none
abbrev pub HasSendCause : Seen → Seen → Result ℕ SendStop → Type 0
HasSendCause source source' result = HasCause (result ≡ Err (stops.Read refusals.ReadFault)) source source'
