-- The headers that are read of what was delivered are those of the packets that were sampled.
use Rattle.std.proofs.Common.{◌≡◌, ℕ, List, [], ◌∷◌, take, map, refl, ap, ◌∙◌}
use Rattle.std.specs.Prelude.{Result}
use Rattle.std.specs.List.{AllByRecursion}
use Rattle.std.specs.declared.option.Option.{Option}
use Rattle.std.specs.declared.option.Option.TheVariants.{Some, None}
use Rattle.wire_spec.specs.declared.pad.Pad.TheVariants.{Any}
use Rattle.wire_spec.specs.declared.fault.Fault.{Fault}
use Rattle.wire_spec.specs.Shapes.{Tree, Trees, none}
use Rattle.wire_spec.specs.Whole.{whole_reading}
use Rattle.datagram_core.specs.Tables.{datagram_read}
use Rattle.books_spec.specs.Items as items
use Rattle.books_spec.specs.SampledHeaders.{SampledHeader}
use Rattle.agent_spec.specs.Samples.{Packet, Content, Sampled, Counted, Sample}
use Rattle.agent_spec.specs.Spelled.{Form, Compact, Expanded, switch_records, flow_records, sample_tree, sample_trees}
use Rattle.account_spec.specs.Histories.{SubAgent, agent_of}
use Rattle.account_spec.specs.Deliveries.{Delivery, entry_of}
use Rattle.delivered_items.specs.Readers.{IsReader}
use Rattle.delivered_items.specs.PacketHeaders.{packet_header, content_headers, sample_headers, headered, IsHeaderReader, headers_by, headered_entry}
use Rattle.delivered_items.proofs.Read.{IsGood, read-again, one-item}

module _ (records : Trees → List SampledHeader) (read : Tree → List SampledHeader) (reads : Trees → List (List SampledHeader))
    (r : IsHeaderReader records read reads) where
  no-more : (vlan : Option ℕ) → records (switch_records vlan) ≡ []
  no-more None = r.no_records
  no-more (Some vlan) = r.switch vlan 0 vlan 0 none ∙ r.no_records

  of-records : (p : Packet) → records (flow_records p) ≡ packet_header p ∷ []
  of-records p =
      r.raw_header 1 p.frame_length 4 (take 128 p.header) (switch_records p.vlan)
      ∙ ap (λ (hs : List SampledHeader). packet_header p ∷ hs) (no-more p.vlan)

  one-headers : (form : Form) (s : Sample) (c : Content) → read (sample_tree form s.turn.source s c) ≡ content_headers c
  one-headers Compact s (Sampled p) = r.flow _ _ _ _ _ _ _ (flow_records p) ∙ of-records p
  one-headers Compact s (Counted reading) = r.counters _ _ reading
  one-headers Expanded s (Sampled p) = r.expanded_flow _ _ _ _ _ _ _ _ _ _ (flow_records p) ∙ of-records p
  one-headers Expanded s (Counted reading) = r.expanded_counters _ _ _ reading

  headers-shown : (form : Form) (xs : List Sample) → reads (sample_trees form xs) ≡ map sample_headers xs
  headers-shown form [] = r.no_samples
  headers-shown form (x ∷ more) =
      r.samples (sample_tree form x.turn.source x x.content) (sample_trees form more)
      ∙ (λ j. one-headers form x x.content j ∷ headers-shown form more j)

  headers-of : (history : List SubAgent) (d : Delivery) → IsGood history d
      → headers_by reads (whole_reading Any datagram_read (entry_of history d).bytes) ≡ map sample_headers d.datagram.samples
  headers-of history d g =
      ap (λ (x : Result Tree Fault). headers_by reads x) (read-again history d g)
      ∙ headers-shown (agent_of history d.stream).sender.form d.datagram.samples

  pub all-headered : (read' : Tree → items.Sample) (reads' : Trees → List items.Sample) → IsReader read' reads'
      → (history : List SubAgent) (ds : List Delivery) → AllByRecursion (IsGood history) ds
      → map (headered_entry reads' reads) (map (entry_of history) ds) ≡ map headered ds
  all-headered read' reads' r' history [] g = refl
  all-headered read' reads' r' history (d ∷ before) g = λ j.
      record { item = one-item read' reads' r' history d g.0 j; headers = headers-of history d g.0 j }
      ∷ all-headered read' reads' r' history before g.1 j
