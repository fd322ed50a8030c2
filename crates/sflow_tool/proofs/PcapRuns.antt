-- Runs of `pcap`.
use Rattle.std.proofs.Common.{◌≡◌, ℕ, true, false, List, [], ◌++◌, Option, Ok, Err, refl, ap, ◌∙◌}
use Rattle.std.specs.Io.KnownBytes.{IsAtEnd}
use Rattle.byte_ends.specs.Seen.{Seen}
use Rattle.capture_spec.specs.PcapFiles.{Packet}
use Rattle.capture_spec.specs.declared.pcap_output.PcapOutput.{PcapOutput}
use Rattle.capture_spec.specs.declared.pcap_output.PcapOutput.TheVariants.{Capture, Counts}
use Rattle.pcap_file.specs.PcapSteps.{EndsAt}
use Rattle.pcap_payloads.specs.declared.packet_counts.PacketCounts.{PacketCounts}
use Rattle.pcap_payloads.specs.declared.packets.WalkStop.TheVariants as stops
use Rattle.pcap_payloads.specs.Outcomes.{counts_of, last_text, part_text, whole_text}
use Rattle.pcap_payloads.specs.Walks.{HasCause, Moved, TakeFailed, TookAll, TookSome}
use Rattle.pcap_payloads.proofs.Texts.{whole-ends}
use Rattle.sflow_io.specs.declared.capture.ReadRefusal.{ReadRefusal}
use Rattle.sflow_io.specs.declared.capture.ReadRefusal.TheVariants as refusals
use Rattle.command_runs.specs.declared.status.Status.{Status}
use Rattle.command_runs.specs.declared.status.Status.TheVariants.{Done, WriteFault}
use Rattle.command_runs.specs.Endings.{Flushed, refusal_status}
use Rattle.command_runs.specs.Grammars.{pcap_files}
use Rattle.command_runs.specs.Outside.{Outside}
use Rattle.command_runs.specs.Readings.{ReadsTo}
use Rattle.command_runs.specs.Runs.{Runs}
use Rattle.command_runs.proofs.Ends.{flushed_after, flushed_more}
use Rattle.command_runs.proofs.ReadRuns as runs
use Rattle.sflow_tool.specs.Pcaps.{is_counted, pcap_act}

-- the last answer of a reader says how reading ended
ends_so : (output : PcapOutput) (packets : List Packet) (input : List ℕ) (left : Option (List ℕ)) (r : ReadRefusal)
    → EndsAt packets input left (Err r) → ReadsTo pcap_files (pcap_act output) input left packets (refusal_status r)
ends_so output packets input left refusals.ReadFault h = h
ends_so output packets input left (refusals.BadInput at kind) h = h
ends_so output packets input left refusals.Spent h = h

refusal_cause : (source source' : Seen) (r : ReadRefusal) → HasCause source source' (Err (stops.Read r))
    → runs.HasRefusalCause source source' r
refusal_cause source source' r cause = record {
  failed = λ e. cause.failed (ap (λ (q : ReadRefusal). Err (stops.Read q)) e);
  kept = λ other. cause.kept (λ e. other cc);
}

counts_at_end : (output : PcapOutput) → is_counted output ≡ true → output ≡ Counts
counts_at_end Capture late = absurd cc
counts_at_end Counts late = refl

module _ (output : PcapOutput) (source source' sink sink' sink'' : Seen) (page held : List ℕ) (empty : page ≡ []) where
  abbrev before : Outside
  before = record { source = source; sink = sink }

  abbrev after : Outside
  after = record { source = source'; sink = sink'' }

  abbrev moved : Moved
  moved = record { sink = sink; sink' = sink'; page = page; page' = held }

  -- a write failed at a packet
  pub write_failed : TakeFailed output source moved → HasCause source source' (Err stops.Write)
      → Runs pcap_files (pcap_act output) before (record { source = source'; sink = sink' }) WriteFault
  write_failed seen cause =
      runs.write_failed pcap_files (pcap_act output) before (record { source = source'; sink = sink' }) seen.packets _
      (λ input are told. seen.begins input told)
      (λ input are told. ap (λ l. l ++ part_text output seen.packets) empty) (cause.kept (λ e. cc)) seen.put

  -- reading was refused
  pub refused : (refusal : ReadRefusal) (status result : Status) → status ≡ refusal_status refusal
      → TookSome output source source' moved refusal → HasCause source source' (Err (stops.Read refusal))
      → Flushed sink' sink'' held status result
      → (output ≡ Counts → (result ≡ status) × (sink''.told ≡ sink.told))
      → Runs pcap_files (pcap_act output) before after result
  refused refusal status result named seen cause flush waits =
      runs.refused pcap_files (pcap_act output) before after seen.packets _ refusal result
      (λ input are told. ends_so output seen.packets input source'.told refusal (seen.ends input told))
      (λ input are told. ap (λ l. l ++ part_text output seen.packets) empty)
      (refusal_cause source source' refusal cause)
      (flushed_after sink sink' sink'' page held _ status (refusal_status refusal) result seen.put named flush)
      (λ late.
      let quiet = waits (counts_at_end output late) in
      (quiet.0 ∙ named, quiet.1))

  whole_put : (packets : List Packet) (counts : PacketCounts) → counts ≡ counts_of packets
      → page ++ (part_text output packets ++ last_text output counts) ≡ whole_text output packets
  whole_put packets counts counted =
      ap (λ l. l ++ (part_text output packets ++ last_text output counts)) empty
      ∙ ap (λ (c : PacketCounts). part_text output packets ++ last_text output c) counted
      ∙ whole-ends output packets

  -- all packets were taken
  pub finished : (counts : PacketCounts) (result : Status) → TookAll output source moved counts → IsAtEnd source'.told
      → HasCause source source' (Ok counts) → Flushed sink' sink'' (held ++ last_text output counts) Done result
      → Runs pcap_files (pcap_act output) before after result
  finished counts result seen at_end cause flush =
      runs.finished pcap_files (pcap_act output) before after seen.packets _ (λ input are told. seen.all input told)
      (λ input are told. whole_put seen.packets counts seen.counted)
      (λ found. absurd cc) at_end (cause.kept (λ e. cc)) false result refl
      (flushed_more sink sink' sink'' page held _ Done Done result seen.put refl _ flush)
