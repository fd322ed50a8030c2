-- Runs of `send`.
use Rattle.std.proofs.Common.{◌≡◌, ◌≢◌, ℕ, false, List, [], ◌∷◌, ◌++◌, take, Option, Some, None, Ok, Err, inl, inr, refl, sym, ap, ◌∙◌, append_assoc, append-nil}
use Rattle.std.proofs.lemmas.List.{map-append}
use Rattle.std.specs.Io.KnownBytes.{IsAtEnd}
use Rattle.wire_spec.specs.Bytes.{AreBytes}
use Rattle.byte_ends.specs.Seen.{Seen}
use Rattle.byte_ends.specs.Unread.{unread}
use Rattle.byte_ends.proofs.Prefixes.{takes-nil}
use Rattle.datagram_links.specs.Links.{LinkSeen, LinkTold, aimed, failed, sent_one}
use Rattle.capture_spec.specs.declared.capture_version.CaptureVersion.{CaptureVersion}
use Rattle.capture_spec.specs.declared.capture_version.CaptureVersion.TheVariants.{One}
use Rattle.capture_spec.specs.Items.{Received}
use Rattle.sflow_io.specs.CaptureAnswers.{HasEnded, ReaderState}
use Rattle.sflow_io.specs.CaptureSteps.{BeginsWithEntries, EndsAt, HasGiven, HasGivenAt, with_answer}
use Rattle.sflow_io.specs.Senders.{sender_in}
use Rattle.sflow_io.specs.declared.capture.Next.TheVariants as next
use Rattle.sflow_io.specs.declared.sender.Sender.{Sender}
use Rattle.command_runs.specs.Walks.{Moved}
use Rattle.command_runs.proofs.Walked.{SoFar}
use Rattle.sflow_tool.proofs.Silent.{silent}
use Rattle.sflow_io.specs.declared.capture.ReadRefusal.{ReadRefusal}
use Rattle.sflow_io.specs.declared.capture.ReadRefusal.TheVariants as refusals
use Rattle.sflow_io.specs.declared.capture.Stage.{Stage}
use Rattle.sflow_io.specs.declared.capture.Stage.TheVariants as stage
use Rattle.report_lines.specs.HeaderLines.{ShownTaps}
use Rattle.command_runs.specs.declared.status.Status.{Status}
use Rattle.command_runs.specs.declared.status.Status.TheVariants.{Done, LinkFault, Memory, WriteFault}
use Rattle.command_runs.specs.Endings.{Flushed, refusal_status, whole, part}
use Rattle.command_runs.specs.Readings.{ReadsTo}
use Rattle.command_runs.proofs.ReadRuns as runs
use Rattle.sflow_tool.specs.declared.send.SendStop.TheVariants as stops
use Rattle.sflow_tool.specs.Replays.{TookAll, TookSome}
use Rattle.sflow_tool.specs.Sends.{HasSent, HasSentAll, HasSendCause, SendFailed, Sends, captures_of, datagrams_of, not_sent, all_sent, send_act, sent_all, sent_line}
use Rattle.sflow_tool.specs.Surroundings.{surroundings}

-- ---- what the link took

sent_more : (datagrams : List (List ℕ)) (next : List ℕ) (told : Option LinkTold) (faults : ℕ)
    → sent_one next (sent_all datagrams (record { told = told; faults = faults }))
    ≡ sent_all (datagrams ++ next ∷ []) (record { told = told; faults = faults })
sent_more datagrams next None faults = refl
sent_more datagrams next (Some told) faults =
    ap (λ (sent : List (List ℕ)). record { told = Some (record told { sent = sent }); faults = faults })
    (append_assoc told.sent datagrams (next ∷ []))

-- a further datagram was sent
pub one_sent : (link now now' : LinkSeen) (entries : List Received) (e : Received) → HasSent link now entries
    → now' ≡ sent_one e.bytes now → HasSent link now' (entries ++ e ∷ [])
one_sent link now now' entries e so_far is =
    is ∙ ap (sent_one e.bytes) so_far ∙ sent_more (datagrams_of entries) e.bytes link.told link.faults
    ∙ ap (λ (datagrams : List (List ℕ)). sent_all datagrams link) (sym (map-append (λ (x : Received). x.bytes) entries (e ∷ [])))

none_more : (told : Option LinkTold) (faults : ℕ)
    → record { told = told; faults = faults } ≡ sent_all [] (record { told = told; faults = faults })
none_more None faults = refl
none_more (Some told) faults =
    ap (λ (sent : List (List ℕ)). record { told = Some (record told { sent = sent }); faults = faults }) (sym (append-nil told.sent))

-- none was sent yet
pub none_sent : (link : LinkSeen) → HasSent link link []
none_sent link = none_more link.told link.faults

-- a datagram wasn't sent, behind others that were
pub not_this : (link now now' : LinkSeen) (entries : List Received) → HasSent link now entries → now' ≡ failed now
    → now' ≡ failed (sent_all (datagrams_of entries) link)
not_this link now now' entries so_far is = is ∙ ap failed so_far

-- what was given before the end stands at the front of the input
pub given_front : (input : List ℕ) (entries : List Received) (at : Stage) (more left : Option (List ℕ))
    → ¬ (HasEnded at) → HasGivenAt input entries at more left → BeginsWithEntries input entries
given_front input entries stage.Start more left going given = inl given.0
given_front input entries (stage.Within v count offset) more left going given = inr (v, given.rest, given.before)
given_front input entries (stage.Ended v last) more left going given = absurd (going tt)

-- so many were sent
pub counted : (link now : LinkSeen) (source source' : Seen) (m : Moved) (reader : ReaderState) (count : ℕ)
    → SoFar silent (HasSent link now) source source' m reader count 0
    → SoFar silent (HasSentAll link now count) source source' m reader count 0
counted link now source source' m reader count far = record {
  entries = far.entries;
  given = far.given;
  number = far.number;
  marked_are = far.marked_are;
  were = (far.number, far.were);
  put = far.put;
}

-- the next one was read and wasn't sent
pub unsent : (source source' source'' : Seen) (link now now' : LinkSeen) (m : Moved) (reader reader' : ReaderState)
    (count at : ℕ) (from : Option Sender) (len : ℕ) (room : List ℕ)
    → (far : SoFar silent (HasSent link now) source source' m reader count 0)
    → ((bytes : List ℕ) (entries : List Received) → AreBytes bytes → HasGiven bytes entries reader source'
    → HasGiven bytes (with_answer entries room (Ok (next.Entry at from len))) reader' source'')
    → ¬ (HasEnded reader'.stage) → now' ≡ failed now → SendFailed source link now'
unsent source source' source'' link now now' m reader reader' count at from len room far given going is = record {
  entries = far.entries;
  next = record { arrival = at; sender = sender_in from; bytes = take len room };
  begins = λ input are told.
      given_front input (with_answer far.entries room (Ok (next.Entry at from len))) reader'.stage
      (unread reader'.held source'') source''.told going (given input far.entries are (far.given input are told));
  link_is = not_this link now now' far.entries far.were is;
}

-- ---- a run

-- the last answer of a reader says how reading ended
ends_so : (v : Option CaptureVersion) (entries : List Received) (input : List ℕ) (left : Option (List ℕ)) (r : ReadRefusal)
    → EndsAt v entries input left (Err r)
    → ReadsTo (captures_of (datagrams_of entries)) send_act input left (record { version = One; entries = entries })
    (refusal_status r)
ends_so v entries input left refusals.ReadFault h = (refl, h)
ends_so v entries input left (refusals.BadInput at kind) h = (refl, h)
ends_so v entries input left refusals.Spent h = (refl, h)

no_memory : (r : ReadRefusal) → refusal_status r ≢ Memory
no_memory refusals.ReadFault e = cc
no_memory (refusals.BadInput at kind) e = cc
no_memory refusals.Spent e = cc

flushed_memory : (old new : Seen) (text : List ℕ) (result : Status) → Flushed old new text Done result → result ≢ Memory
flushed_memory old new text result (whole is taken) e = let both : Done ≡ Memory = sym is ∙ e in cc
flushed_memory old new text result (part is taken) e = let both : WriteFault ≡ Memory = sym is ∙ e in cc

module _ (to : List ℕ) (source source' sink sink' : Seen) (before link link' : LinkSeen) (at : link ≡ aimed to before)
    (taps : ShownTaps) where
  -- reading was refused
  pub refused : (r : ReadRefusal) (status : Status) → status ≡ refusal_status r
      → TookSome (HasSent link link') source source' r → HasSendCause source source' (Err (stops.Read r))
      → Sends to (surroundings source sink before taps) (surroundings source' sink link' taps) status
  refused r status named took cause =
      all_sent (datagrams_of took.entries)
      (runs.refused (captures_of (datagrams_of took.entries)) send_act (record { source = source; sink = sink })
      (record { source = source'; sink = sink }) (record { version = One; entries = took.entries }) [] r status
      (λ input are told. ends_so took.version took.entries input source'.told r (took.ends input are told))
      (λ input are told. refl)
      (record {
        failed = λ e. cause.failed (ap (λ (q : ReadRefusal). Err (stops.Read q)) e);
        kept = λ other. cause.kept (λ e. other cc);
      })
      (whole named (takes-nil sink)) (λ late. (named, refl)))
      (λ e. no_memory r (sym named ∙ e))
      (took.were ∙ ap (sent_all (datagrams_of took.entries)) at) refl

  -- all entries were read and sent
  pub finished : (page : List ℕ) → page ≡ [] → (count : ℕ) (result : Status)
      → TookAll (HasSentAll link link' count) source → IsAtEnd source'.told → HasSendCause source source' (Ok count)
      → Flushed sink sink' (page ++ sent_line count) Done result
      → Sends to (surroundings source sink before taps) (surroundings source' sink' link' taps) result
  finished page empty count result took at_end cause flush =
      all_sent (datagrams_of took.capture.entries)
      (runs.finished (captures_of (datagrams_of took.capture.entries)) send_act (record { source = source; sink = sink })
      (record { source = source'; sink = sink' }) took.capture _ (λ input are told. (refl, took.all input are told))
      (λ input are told. ap (λ p. p ++ sent_line count) empty ∙ ap sent_line took.were.0)
      (λ found. absurd cc) at_end (cause.kept (λ e. cc)) false result refl flush)
      (flushed_memory sink sink' _ result flush)
      (took.were.1 ∙ ap (sent_all (datagrams_of took.capture.entries)) at) refl

  -- a datagram wasn't sent
  pub link_failed : SendFailed source link link' → HasSendCause source source' (Err stops.Link)
      → Sends to (surroundings source sink before taps) (surroundings source' sink link' taps) LinkFault
  link_failed failing cause =
      not_sent (datagrams_of failing.entries) failing.next.bytes refl
      (record {
        begins = λ input are told. (
          failing.entries ++ failing.next ∷ [],
          map-append (λ (x : Received). x.bytes) failing.entries (failing.next ∷ []),
          failing.begins input are told,
        );
        source_kept = cause.kept (λ e. cc);
        sink_kept = refl;
      })
      (failing.link_is ∙ ap (λ (l : LinkSeen). failed (sent_all (datagrams_of failing.entries) l)) at) refl
