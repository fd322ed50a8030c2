-- The first answer, from the reading of the header.
use Rattle.std.proofs.Common.{ℕ, List, drop, Option, Err, refl, subst, arith}
use Rattle.capture_spec.specs.declared.byte_order.ByteOrder.{ByteOrder}
use Rattle.capture_spec.specs.PcapFiles.{HasHeader}
use Rattle.sflow_io.specs.declared.capture.ReadRefusal.{ReadRefusal}
use Rattle.sflow_io.specs.declared.capture.ReadRefusal.TheVariants.{ReadFault, BadInput, Spent}
use Rattle.pcap_file.specs.PcapAnswers.{Answer, AnswersBehind, AnswersStart, AnswersWithin, ReadsHeader, behind_header, stage_after}
use Rattle.pcap_file.specs.declared.reading.PcapStage.TheVariants.{Ended}
use Rattle.pcap_file.proofs.Headers.{one_order}

pub starts_with_packet : (order : ByteOrder) (bytes room : List ℕ) (left : Option (List ℕ)) (answer : Answer)
    → HasHeader order bytes → AnswersWithin order 0 24 (drop 24 bytes) room left answer
    → AnswersStart bytes room left (stage_after (behind_header order) answer) answer
starts_with_packet order bytes room left answer header h = record {
  goes_on = λ o has. subst
      (λ (p : ByteOrder). AnswersBehind p bytes room left (stage_after (behind_header order) answer) answer)
      (one_order order o _ header.magic_is has.magic_is)
      (record { front = h.goes_on (omega arith); stage_is = refl });
  refuses = λ none. absurd (none order header);
}

pub starts_with_refusal : (bytes room : List ℕ) (mid left : Option (List ℕ)) (e : ReadRefusal)
    → ReadsHeader bytes mid (Err e) → AnswersStart bytes room left (Ended (Err e)) (Err e)
starts_with_refusal bytes room mid left (BadInput at kind) h =
    record { goes_on = λ o has. absurd (h.0 o has); refuses = λ none. h.1 }
starts_with_refusal bytes room mid left ReadFault h =
    record { goes_on = λ o has. record { front = tt; stage_is = refl }; refuses = λ none. tt }
starts_with_refusal bytes room mid left Spent h = absurd h
