-- A packet that isn't refused, and readings of which a sample fits.
use Rattle.std.proofs.Common.{◌≡◌, ℕ, ◌+◌, ◌<◌, inl, inr, Bool, true, not, ◌||◌, cond, List, [], ◌∷◌, length, map, Some, None, refl, sym, ap, subst, ◌∙◌, arith}
use Rattle.std.specs.Prelude.{nat_le, nat_lt, ◌==◌}
use Rattle.std.specs.declared.option.Option.{Option}
use Rattle.std.specs.List.{AllByRecursion}
use Rattle.std.proofs.lemmas.Bool.{cases_Bool, and_parts, eqb-true, ltb-true, not-false}
use Rattle.wire_spec.specs.Heads.{address_tree}
use Rattle.wire_spec.specs.Spelling.{spell, IsLawful}
use Rattle.wire_spec.specs.Tables.{interface_counters}
use Rattle.data_format.specs.Addresses.{address_of}
use Rattle.data_format.specs.declared.heads.Form.{Form}
use Rattle.data_format.specs.declared.heads.Form.TheVariants.{Compact, Expanded}
use Rattle.data_format.specs.declared.port.Port.{Port}
use Rattle.data_format.specs.declared.source.SourceId.{SourceId}
use Rattle.rec_counters.specs.Contents.{interface_content}
use Rattle.rec_counters.specs.declared.interface.IfCounters.{IfCounters}
use Rattle.agent_spec.specs.Sources.{Source, FlowSetup}
use Rattle.agent_spec.specs.Samples.{Sampled, Counted, Sample}
use Rattle.agent_spec.specs.Spelled.{fits_in, sample_tree}
use Rattle.agent_setups.specs.Ids.{is_among}
use Rattle.sub_agents.specs.declared.packet.Packet.{Packet}
use Rattle.sub_agents.specs.declared.packet.ObserveRefusal.{ObserveRefusal}
use Rattle.sub_agents.specs.declared.packet.ObserveRefusal.TheVariants.{NoSource, BadPort, TooLarge}
use Rattle.sub_agents.specs.Setups.{form_of, flow_source}
use Rattle.sub_agents.specs.Packets.{port_of, packet_of, port_fits, ports_fit}
use Rattle.sub_agents.specs.Counts.{flow_sources}
use Rattle.sub_agents.specs.Answers.{a_sample, refusal}
use Rattle.sub_agents.specs.Sizes.{counters_bytes}
use Rattle.sub_agents.specs.Polls.{counters_fit}
use Rattle.sub_agents.specs.SubAgents.{SubAgentState, sender_of}
use Rattle.sub_agents.proofs.Fits.{fits-by-size}
use Rattle.delivered_items.specs.Accepted.{IsPortIn, alone, IsObserved, IsPolled}
use Rattle.accepted_calls.specs.Words.{IsPortOfWords, IsPacketOfWords}
use Rattle.accepted_calls.proofs.Tests.{past}

-- ---- packets

port-in : (form : Form) (q : Port) → port_fits form q ≡ true → IsPortOfWords q → IsPortIn (form_of form) (port_of q)
port-in Compact q e w =
    let parts = and_parts (nat_lt q.form 4) (nat_lt q.value 1073741824) e in
    (ltb-true q.form 4 parts.0, ltb-true q.value 1073741824 parts.1)
port-in Expanded q e w = w

pub observed : (s : SubAgentState) (id : SourceId) (p : Packet) (f : FlowSetup) → IsPacketOfWords p
    → f.source ≡ flow_source id → refusal s id p ≡ None → IsObserved (sender_of s) f.source (packet_of p)
observed s id p f words source allowed =
    let fits : Bool = fits_in (sender_of s) (a_sample (flow_source id) (packet_of p) ∷ []) in
    let after_ports : Option ObserveRefusal = cond (not fits) (Some TooLarge) None in
    let after_source : Option ObserveRefusal = cond (not (ports_fit s.form p)) (Some BadPort) after_ports in
    let known = past (not (is_among id (flow_sources s.flows))) NoSource after_source allowed in
    let ports = past (not (ports_fit s.form p)) BadPort after_ports known.1 in
    let small = past (not fits) TooLarge None ports.1 in
    let both = and_parts (port_fits s.form p.input) (port_fits s.form p.output) (not-false (ports_fit s.form p) ports.0) in
    record {
      packet = record {
        input = port-in s.form p.input both.0 words.input;
        output = port-in s.form p.output both.1 words.output;
        frame_length = words.frame_length;
        vlan = words.vlan;
      };
      fits = subst (λ (of : Source). fits_in (sender_of s) (alone of (Sampled (packet_of p)) ∷ []) ≡ true) (sym source)
          (not-false fits small.0);
    }

-- ---- readings

counters-length : (form : Form) (source : Source) (x : Sample) (c : IfCounters)
    → length (spell (sample_tree (form_of form) source x (Counted (interface_content c).0))) ≡ counters_bytes form
counters-length Compact source x c = refl
counters-length Expanded source x c = refl

not-none : (n : ℕ) (b : Bool) → 0 < n → ((n == 0) || b) ≡ true → b ≡ true
not-none n b some e = elim (cases_Bool (n == 0)) [
  | inl none ↦ absurd (omega (arith, some, eqb-true n 0 none))
  | inr other ↦ ap (λ (k : Bool). k || b) (sym other) ∙ e
]

module _ (s : SubAgentState) (some : 0 < length s.pollers) (fit : counters_fit s ≡ true) where
  abbrev base : ℕ
  base = 20 + length (spell (address_tree (address_of s.agent)))

  reading-fits : (source : Source) (c : IfCounters)
      → fits_in (sender_of s) (alone source (Counted (interface_content c).0) ∷ []) ≡ true
  reading-fits source c =
      let x : Sample = alone source (Counted (interface_content c).0) in
      fits-by-size s (sample_tree (form_of s.form) source x (Counted (interface_content c).0))
      ∙ ap (λ (n : ℕ). nat_le (base + n) s.max_datagram) (counters-length s.form source x c)
      ∙ not-none (length s.pollers) (nat_le (base + counters_bytes s.form) s.max_datagram) some fit

  pub polled : (read : List IfCounters)
      → AllByRecursion (λ (c : IfCounters). IsLawful interface_counters (interface_content c).0) read
      → AllByRecursion (IsPolled (sender_of s)) (map (λ (c : IfCounters). (interface_content c).0) read)
  polled [] h = tt
  polled (c ∷ more) h = (record { lawful = h.0; fits = λ source. reading-fits source c }, polled more h.1)
