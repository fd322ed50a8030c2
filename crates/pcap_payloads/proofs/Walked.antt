-- A walk over the packets of an input, one packet after the other.
use Rattle.std.proofs.Common.{◌≡◌, ℕ, List, [], ◌∷◌, ◌++◌, length, take, Some, Ok, Err, refl, sym, ap, subst, ◌∙◌, arith, length-append}
use Rattle.std.specs.Io.KnownBytes.{prepend_known}
use Rattle.capture_spec.specs.Payloads.{payload_of}
use Rattle.capture_spec.specs.PcapFiles.{Packet}
use Rattle.capture_spec.specs.declared.pcap_output.PcapOutput.{PcapOutput}
use Rattle.capture_spec.specs.declared.pcap_output.PcapOutput.TheVariants.{Capture, Counts}
use Rattle.pcap_file.specs.declared.reading.PcapNext.TheVariants as next
use Rattle.pcap_file.specs.declared.reading.PcapStage.{PcapStage}
use Rattle.pcap_file.specs.declared.reading.PcapStage.TheVariants as stage
use Rattle.pcap_file.specs.PcapAnswers.{HasEnded, IsFresh, IsStageAfter, ReaderState}
use Rattle.pcap_file.specs.PcapSteps.{HasGiven, packets_given, with_answer}
use Rattle.pcap_file.proofs.PcapSteps.{given_front}
use Rattle.sflow_io.specs.declared.capture.ReadRefusal.{ReadRefusal}
use Rattle.byte_ends.specs.Unread.{unread}
use Rattle.byte_ends.specs.Seen.{Seen, TakesPart}
use Rattle.text_lines.specs.Pages.{Puts}
use Rattle.text_lines.proofs.PageLaws.{puts_none, puts_both, puts_part}
use Rattle.pcap_payloads.specs.declared.packet_counts.PacketCounts.{PacketCounts}
use Rattle.pcap_payloads.specs.Outcomes.{counts_of, packet_text, part_text, total_of, with_outcome}
use Rattle.pcap_payloads.specs.Walks.{Moved, PutsPart, TakeFailed}
use Rattle.pcap_payloads.proofs.Texts.{counts-push, part-push, total-push}

-- of what the source told these packets were read and counted, and what is written of them was put
pub record SoFar (output : PcapOutput) (source source' : Seen) (m : Moved) (reader : ReaderState)
    (counts : PacketCounts) : Type 0 where
  pub packets : List Packet
  pub given : (input : List ℕ) → source.told ≡ Some input → HasGiven input packets reader source'
  pub counted : counts ≡ counts_of packets
  pub number : total_of (counts_of packets) ≡ length packets
  pub put : PutsPart output m packets

no_part : (output : PcapOutput) → part_text output [] ≡ []
no_part Capture = refl
no_part Counts = refl

no_packets : total_of (counts_of []) ≡ 0
unfolding counts_of
no_packets = refl

pub nothing_yet : (output : PcapOutput) (source sink : Seen) (page : List ℕ) (reader : ReaderState)
    (counts : PacketCounts) → IsFresh reader → counts ≡ counts_of []
    → SoFar output source source (record { sink = sink; sink' = sink; page = page; page' = page }) reader counts
nothing_yet output source sink page reader counts fresh none = record {
  packets = [];
  given = λ input is.
      let start : HasGiven input [] (record { stage = stage.Start; held = [] }) source =
      (refl, ap (prepend_known []) is) in
      subst (λ (r : ReaderState). HasGiven input [] r source) (sym fresh) start;
  counted = none;
  number = no_packets;
  put = subst (Puts sink sink page page) (sym (no_part output)) (puts_none sink page);
}

pub not_ended : (reader : ReaderState) → IsFresh reader → ¬ (HasEnded reader.stage)
not_ended reader fresh = subst (λ (r : ReaderState). ¬ (HasEnded r.stage)) (sym fresh) (λ h. h)

pub none_given : (reader : ReaderState) → IsFresh reader → packets_given reader.stage ≡ 0
none_given reader fresh = ap (λ (r : ReaderState). packets_given r.stage) fresh

pub none_counted : (counts : PacketCounts) → counts ≡ counts_of [] → total_of counts ≡ 0
none_counted counts is = ap (λ (c : PacketCounts). total_of c) is ∙ no_packets

-- ---- the end

pub ended_by_end : (before after : PcapStage) → ¬ (HasEnded before) → IsStageAfter before after (Ok next.End)
    → after ≡ stage.Ended (Ok next.End)
ended_by_end stage.Start after going (order, is) = is
ended_by_end (stage.Within order count offset) after going is = is
ended_by_end (stage.Ended last) after going is = absurd (going tt)

pub ended_by_refusal : (before after : PcapStage) (e : ReadRefusal) → ¬ (HasEnded before)
    → IsStageAfter before after (Err e) → after ≡ stage.Ended (Err e)
ended_by_refusal stage.Start after e going (order, is) = is
ended_by_refusal (stage.Within order count offset) after e going is = is
ended_by_refusal (stage.Ended last) after e going is = absurd (going tt)

-- ---- a further packet

module _ (output : PcapOutput) (source now now' a b : Seen) (p q : List ℕ) (reader reader' : ReaderState)
    (counts : PacketCounts) (at len : ℕ) (room : List ℕ)
    (far : SoFar output source now (record { sink = a; sink' = b; page = p; page' = q }) reader counts)
    (given : (bytes : List ℕ) (packets : List Packet) → HasGiven bytes packets reader now
    → HasGiven bytes (with_answer packets room (Ok (next.Packet at len))) reader' now') where
  abbrev pub packet : Packet
  packet = record { arrival = at; bytes = take len room }

  abbrev pub packets : List Packet
  packets = far.packets ++ packet ∷ []

  text : part_text output packets
      ≡ part_text output far.packets ++ packet_text output counts.taken at (payload_of (take len room))
  text =
      part-push output far.packets packet
      ∙ ap (λ (c : PacketCounts). part_text output far.packets ++ packet_text output c.taken at (payload_of (take len room))) (sym far.counted)

  pub one_more : (c : Seen) (r : List ℕ) (counts' : PacketCounts)
      → Puts b c q r (packet_text output counts.taken at (payload_of (take len room)))
      → counts' ≡ with_outcome (payload_of (take len room)) counts
      → SoFar output source now' (record { sink = a; sink' = c; page = p; page' = r }) reader' counts'
  one_more c r counts' put is = record {
    packets = packets;
    given = λ input told. given input far.packets (far.given input told);
    counted = is ∙ ap (λ (c : PacketCounts). with_outcome (payload_of (take len room)) c) far.counted
        ∙ sym (counts-push far.packets packet);
    number = omega (arith, total-push far.packets packet, far.number, length-append far.packets (packet ∷ []));
    put = subst (Puts a c p r) (sym text) (puts_both a b c p q r _ _ far.put put);
  }

  pub not_written : (c : Seen) (r : List ℕ) → ¬ (HasEnded reader'.stage)
      → TakesPart b c (q ++ packet_text output counts.taken at (payload_of (take len room)))
      → TakeFailed output source (record { sink = a; sink' = c; page = p; page' = r })
  not_written c r going part = record {
    packets = packets;
    begins = λ input told.
        given_front input packets reader'.stage (unread reader'.held now') now'.told going
        (given input far.packets (far.given input told));
    put = subst (λ l. TakesPart a c (p ++ l)) (sym text) (puts_part a b c p q _ _ far.put part);
  }
