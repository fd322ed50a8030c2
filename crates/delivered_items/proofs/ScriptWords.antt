-- What lawful lines of a script say is within the ranges of its words.
use Rattle.std.proofs.Common.{◌≡◌, ◌%◌, ◌≤◌, ◌<◌, ◌^◌, ◌==◌, ◌&&◌, ℕ, true, not, List, [], ◌∷◌, length, replicate, filter_map, Option, Some, None, refl, subst, arith, nat_le, length-append}
use Rattle.std.specs.List.{AllByRecursion, cons_option}
use Rattle.std.proofs.lemmas.Bool.{and_parts, eqb-true, leb-true}
use Rattle.std.proofs.lemmas.List.{length-replicate}
use Rattle.wire_spec.specs.Heads.{AgentAddress, unknown, ipv4, ipv6, address_tree}
use Rattle.wire_spec.specs.Padding.{padding_of}
use Rattle.wire_spec.specs.Spelling.{padded, spell}
use Rattle.agent_spec.specs.Sources.{Source, FlowSetup}
use Rattle.agent_spec.specs.Samples.{Packet, Port}
use Rattle.agent_spec.specs.Spelled.{Form, Compact, Expanded}
use Rattle.script_spec.specs.Words.{may_be_vlan, number32}
use Rattle.script_spec.specs.Values.{Place, dotted, grouped, in_eight, in_four, may_be_address, place}
use Rattle.script_spec.specs.Forms.{interface}
use Rattle.script_spec.specs.Lines.{Line, MaxLine, SubLine, FlowLine, CounterLine, PacketLine, PollLine, SendLine, RestartLine, ResetLine, DeliverLine, SubAgent, place_of}
use Rattle.script_spec.specs.Agents.{Owned, first_or, flow_in, max_in, max_of, sources_in, sub_in, subs_in}
use Rattle.script_laws.specs.Written.{is_single, may_be_written}
use Rattle.script_laws.specs.Lawful.{AreLawful}
use Rattle.script_histories.proofs.LineKinds.{flow_line, max_line, sub_line}
use Rattle.delivered_items.specs.Accepted.{IsAddress, IsPacketIn, IsPortIn, IsVlan}

-- ---- the most bytes

abbrev pub IsMax : ℕ → Type 0
IsMax n = (512 ≤ n) × (n ≤ 65535)

max_told : (line : Line) (n : ℕ) → max_in line ≡ Some n → may_be_written line ≡ true → IsMax n
max_told line n e written =
    let range = and_parts (nat_le 512 n) (nat_le n 65535)
    (subst (λ (l : Line). may_be_written l ≡ true) (max_line line n e) written) in
    (leb-true 512 n range.0, leb-true n 65535 range.1)

pub max_is : (lines : List Line) → AreLawful lines → IsMax (max_of lines)
max_is [] l = (omega arith, omega arith)
max_is (line ∷ before) l = go (max_in line) refl (max_is before l.2)
  where
    go : (o : Option ℕ) → max_in line ≡ o → IsMax (max_of before)
        → IsMax (first_or 1400 (cons_option o (filter_map max_in before)))
    go None is h = h
    go (Some n) is h = max_told line n is l.0

-- ---- sub-agents

padded_long : (n : ℕ) (bytes : List ℕ) → length bytes ≡ n → n % 4 ≡ 0 → length (padded bytes) ≡ n
padded_long n bytes is words = omega (
  arith,
  is,
  words,
  length-append bytes (replicate (padding_of (length bytes)) 0),
  length-replicate {A = ℕ} (padding_of (length bytes)) 0,
)

-- an address of four or sixteen bytes
pub record IsWritten (s : SubAgent) : Type 0 where
  pub id : s.id < 2 ^ 32
  pub address : IsAddress s.address
  pub front : length (spell (address_tree s.address)) ≤ 20

address_is : (a : AgentAddress) → may_be_address a ≡ true → IsAddress a × (length (spell (address_tree a)) ≤ 20)
address_is unknown e = absurd cc
address_is (ipv4 bytes) e =
    let is : length bytes ≡ 4 = eqb-true (length bytes) 4 (and_parts (length bytes == 4) (dotted.may (in_four bytes)) e).0 in
    (is, omega (arith, padded_long 4 bytes is refl))
address_is (ipv6 bytes) e =
    let is : length bytes ≡ 16 = eqb-true (length bytes) 16 (and_parts (length bytes == 16) (grouped.may (in_eight bytes)) e).0 in
    (is, omega (arith, padded_long 16 bytes is refl))

sub_told : (line : Line) (s : SubAgent) → sub_in line ≡ Some s → may_be_written line ≡ true → IsWritten s
sub_told line s e written =
    let a = and_parts (number32.may s.id) _ (subst (λ (l : Line). may_be_written l ≡ true) (sub_line line s e) written) in
    let b = and_parts (may_be_address s.address) _ a.1 in
    let id : s.id ≤ 4294967295 = leb-true s.id 4294967295 (and_parts (nat_le 0 s.id) (nat_le s.id 4294967295) a.0).1 in
    let address = address_is s.address b.0 in
    record { id = omega (arith, id); address = address.0; front = address.1 }

pub subs_are : (lines : List Line) → AreLawful lines → AllByRecursion IsWritten (subs_in lines)
subs_are [] l = tt
subs_are (line ∷ before) l = go (sub_in line) refl (subs_are before l.2)
  where
    go : (o : Option SubAgent) → sub_in line ≡ o → AllByRecursion IsWritten (subs_in before)
        → AllByRecursion IsWritten (cons_option o (subs_in before))
    go None is h = h
    go (Some s) is h = (sub_told line s is l.0, h)

-- ---- sources

abbrev pub IsPlaced : Source → Type 0
IsPlaced s = (s.class < 2 ^ 8) × (s.index < 2 ^ 32)

placed : (s : Source) → place.may (place_of s) ≡ true → IsPlaced s
placed s e =
    let parts = and_parts (nat_le 0 s.class && nat_le s.class 255) (nat_le 0 s.index && nat_le s.index 4294967295) e in
    let class : s.class ≤ 255 = leb-true s.class 255 (and_parts (nat_le 0 s.class) _ parts.0).1 in
    let index : s.index ≤ 4294967295 = leb-true s.index 4294967295 (and_parts (nat_le 0 s.index) _ parts.1).1 in
    (omega (arith, class), omega (arith, index))

abbrev pub OwnPlaced : List Owned → Type 0
OwnPlaced os = AllByRecursion (λ (o : Owned). IsPlaced o.source) os

pub sources_are : (lines : List Line) → AreLawful lines → OwnPlaced (sources_in lines)
sources_are [] l = tt
sources_are (FlowLine id f ∷ before) l =
    let kind = and_parts f.source.flow _ l.0 in
    let said = and_parts (place.may (place_of f.source)) _ (and_parts (number32.may id) _ kind.1).1 in
    (placed f.source said.0, sources_are before l.2)
sources_are (CounterLine id c ∷ before) l =
    let kind = and_parts (not c.source.flow) _ l.0 in
    let said = and_parts (place.may (place_of c.source)) _ (and_parts (number32.may id) _ kind.1).1 in
    (placed c.source said.0, sources_are before l.2)
sources_are (MaxLine n ∷ before) l = sources_are before l.2
sources_are (SubLine s ∷ before) l = sources_are before l.2
sources_are (PacketLine p k ∷ before) l = sources_are before l.2
sources_are (PollLine id now ∷ before) l = sources_are before l.2
sources_are (SendLine id now ∷ before) l = sources_are before l.2
sources_are (RestartLine id at ∷ before) l = sources_are before l.2
sources_are (ResetLine s ∷ before) l = sources_are before l.2
sources_are (DeliverLine d ∷ before) l = sources_are before l.2

rate_told : (id : ℕ) (line : Line) (f : FlowSetup) → flow_in id line ≡ Some f → may_be_written line ≡ true → f.rate < 2 ^ 32
rate_told id line f e written =
    let kind = and_parts f.source.flow _ (subst (λ (l : Line). may_be_written l ≡ true) (flow_line id line f e) written) in
    let behind = and_parts (place.may (place_of f.source)) _ (and_parts (number32.may id) _ kind.1).1 in
    let rate = and_parts (nat_le 1 f.rate && nat_le f.rate 4294967295) _ behind.1 in
    let most : f.rate ≤ 4294967295 = leb-true f.rate 4294967295 (and_parts (nat_le 1 f.rate) _ rate.0).1 in
    omega (arith, most)

pub rates_are : (id : ℕ) (lines : List Line) → AreLawful lines
    → AllByRecursion (λ (f : FlowSetup). f.rate < 2 ^ 32) (filter_map (flow_in id) lines)
rates_are id [] l = tt
rates_are id (line ∷ before) l = go (flow_in id line) refl (rates_are id before l.2)
  where
    go : (o : Option FlowSetup) → flow_in id line ≡ o
        → AllByRecursion (λ (f : FlowSetup). f.rate < 2 ^ 32) (filter_map (flow_in id) before)
        → AllByRecursion (λ (f : FlowSetup). f.rate < 2 ^ 32) (cons_option o (filter_map (flow_in id) before))
    go None is h = h
    go (Some f) is h = (rate_told id line f is l.0, h)

-- ---- packets

port_in : (form : Form) (p : Port) → p.form ≡ 0 → p.value ≤ 1073741823 → IsPortIn form p
port_in Compact p e most = (omega (arith, e), omega (arith, most))
port_in Expanded p e most = (omega (arith, e), omega (arith, most))

vlan_in : (v : Option ℕ) → may_be_vlan v ≡ true → IsVlan v
vlan_in None e = tt
vlan_in (Some id) e =
    let most : id ≤ 4095 = leb-true id 4095 (and_parts (nat_le 0 id) (nat_le id 4095) e).1 in
    omega (arith, most)

within : (most n : ℕ) → (nat_le 0 n && nat_le n most) ≡ true → n ≤ most
within most n e = leb-true n most (and_parts (nat_le 0 n) (nat_le n most) e).1

pub packet_in : (form : Form) (p : Place) (k : Packet) → may_be_written (PacketLine p k) ≡ true → IsPacketIn form k
packet_in form p k written =
    let a = and_parts (is_single k.input) _ written in
    let b = and_parts (is_single k.output) _ a.1 in
    let c = and_parts (place.may p) _ b.1 in
    let input = and_parts (interface.may k.input.value) _ c.1 in
    let output = and_parts (interface.may k.output.value) _ input.1 in
    let vlan = and_parts (may_be_vlan k.vlan) _ output.1 in
    let long = and_parts (number32.may k.frame_length) _ vlan.1 in
    let few : k.frame_length ≤ 4294967295 = within 4294967295 k.frame_length long.0 in
    record {
      input = port_in form k.input (eqb-true k.input.form 0 a.0) (within 1073741823 k.input.value input.0);
      output = port_in form k.output (eqb-true k.output.form 0 b.0) (within 1073741823 k.output.value output.0);
      frame_length = omega (arith, few);
      vlan = vlan_in k.vlan vlan.0;
    }

pub moment_in : (id now : ℕ) → may_be_written (SendLine id now) ≡ true → now < 2 ^ 32
moment_in id now written =
    let most : now ≤ 4294967295 = within 4294967295 now (and_parts (number32.may id) (number32.may now) written).1 in
    omega (arith, most)
