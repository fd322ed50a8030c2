-- A datagram of a script has room for each sample.
use Rattle.std.proofs.Common.{◌≡◌, ◌∙◌, ◌+◌, ◌%◌, ◌≤◌, ◌==◌, ◌&&◌, inl, inr, ℕ, zero, suc, true, List, [], ◌∷◌, length, reverse, take, replicate, filter_map, Option, Some, None, refl, sym, subst, arith, slice_get, nat_le, length-append, length-take}
use Rattle.std.specs.List.{AllByRecursion, cons_option}
use Rattle.std.proofs.lemmas.Bool.{and_parts, eqb-true, leb-true, le-leb, or_right}
use Rattle.std.proofs.lemmas.Option.{same_Some}
use Rattle.std.proofs.lemmas.List.{length-replicate}
use Rattle.wire_spec.specs.Heads.{AgentAddress, unknown, ipv4, ipv6, address_tree}
use Rattle.wire_spec.specs.Padding.{padding_of}
use Rattle.wire_spec.specs.Spelling.{padded, spell}
use Rattle.data_format.specs.declared.heads.Form.{Form}
use Rattle.data_format.specs.declared.heads.Form.TheVariants.{Compact, Expanded}
use Rattle.agent_spec.specs.Spelled.{Sender, fits_in}
use Rattle.agent_spec.specs.Sources as spec
use Rattle.agent_spec.specs.Samples as samples
use Rattle.agent_spec.specs.Boots.{IsAmong}
use Rattle.script_spec.specs.Words.{number32}
use Rattle.script_spec.specs.Values.{dotted, grouped, in_eight, in_four, may_be_address}
use Rattle.script_spec.specs.Lines.{Line, MaxLine, SubLine, FlowLine, CounterLine, PacketLine, PollLine, SendLine, RestartLine, ResetLine, DeliverLine, SubAgent}
use Rattle.script_spec.specs.Agents.{first_or, max_in, max_of, sender_of, sub_in, subs_in}
use Rattle.script_laws.specs.Written.{may_be_written}
use Rattle.script_laws.specs.Lawful.{AreLawful}
use Rattle.script_tables.proofs.ListTests.{all_turned}
use Rattle.sub_agents.specs.Answers.{a_sample}
use Rattle.sub_agents.specs.Polls.{counters_fit}
use Rattle.sub_agents.specs.Sizes.{counters_bytes, flow_bytes, vlan_size}
use Rattle.sub_agents.specs.SubAgents as subs
use Rattle.sub_agents.specs.SubAgents.{SubAgentState}
use Rattle.sub_agents.proofs.Fits.{packet-fits}

pub record IsRoomy (s : Sender) : Type 0 where
  pub least : 512 ≤ s.max_datagram
  pub most : s.max_datagram ≤ 65535
  pub front : length (spell (address_tree s.agent)) ≤ 20

-- ---- the most bytes

abbrev IsMax : ℕ → Type 0
IsMax n = (512 ≤ n) × (n ≤ 65535)

max_told : (line : Line) (n : ℕ) → max_in line ≡ Some n → may_be_written line ≡ true → IsMax n
max_told (MaxLine m) n e written =
    let range = and_parts (nat_le 512 m) (nat_le m 65535) written in
    subst IsMax (same_Some _ _ e) (leb-true 512 m range.0, leb-true m 65535 range.1)
max_told (SubLine s) n e written = absurd cc
max_told (FlowLine id f) n e written = absurd cc
max_told (CounterLine id c) n e written = absurd cc
max_told (PacketLine p k) n e written = absurd cc
max_told (PollLine owner now) n e written = absurd cc
max_told (SendLine owner now) n e written = absurd cc
max_told (RestartLine owner at) n e written = absurd cc
max_told (ResetLine s) n e written = absurd cc
max_told (DeliverLine d) n e written = absurd cc

max_is : (lines : List Line) → AreLawful lines → IsMax (max_of lines)
max_is [] l = (omega arith, omega arith)
max_is (line ∷ before) l = go (max_in line) refl (max_is before l.2)
  where
    go : (o : Option ℕ) → max_in line ≡ o → IsMax (max_of before) → IsMax (first_or 1400 (cons_option o (filter_map max_in before)))
    go None is h = h
    go (Some n) is h = max_told line n is l.0

-- ---- addresses

padded_long : (n : ℕ) (bytes : List ℕ) → length bytes ≡ n → n % 4 ≡ 0 → length (padded bytes) ≡ n
padded_long n bytes is words =
    omega (arith, is, words, length-append bytes (replicate (padding_of (length bytes)) 0), length-replicate {A = ℕ} (padding_of (length bytes)) 0)

address_few : (a : AgentAddress) → may_be_address a ≡ true → length (spell (address_tree a)) ≤ 20
address_few unknown e = absurd cc
address_few (ipv4 bytes) e =
    let is : length bytes ≡ 4 = eqb-true (length bytes) 4 (and_parts (length bytes == 4) (dotted.may (in_four bytes)) e).0 in
    omega (arith, padded_long 4 bytes is refl)
address_few (ipv6 bytes) e =
    let is : length bytes ≡ 16 = eqb-true (length bytes) 16 (and_parts (length bytes == 16) (grouped.may (in_eight bytes)) e).0 in
    omega (arith, padded_long 16 bytes is refl)

abbrev pub HasAddress : SubAgent → Type 0
HasAddress s = (length (spell (address_tree s.address)) ≤ 20) × (s.stage ≤ 1024)

sub_told : (line : Line) (s : SubAgent) → sub_in line ≡ Some s → may_be_written line ≡ true → HasAddress s
sub_told (SubLine t) s e written =
    let a = and_parts (number32.may t.id) _ written in
    let b = and_parts (may_be_address t.address) _ a.1 in
    let c = and_parts (number32.may t.first) _ b.1 in
    let d = and_parts _ (nat_le 1 t.stage && nat_le t.stage 1024) c.1 in
    let stage = and_parts (nat_le 1 t.stage) (nat_le t.stage 1024) d.1 in
    subst HasAddress (same_Some _ _ e) (address_few t.address b.0, leb-true t.stage 1024 stage.1)
sub_told (MaxLine n) s e written = absurd cc
sub_told (FlowLine id f) s e written = absurd cc
sub_told (CounterLine id c) s e written = absurd cc
sub_told (PacketLine p k) s e written = absurd cc
sub_told (PollLine owner now) s e written = absurd cc
sub_told (SendLine owner now) s e written = absurd cc
sub_told (RestartLine owner at) s e written = absurd cc
sub_told (ResetLine t) s e written = absurd cc
sub_told (DeliverLine d) s e written = absurd cc

have_addresses : (lines : List Line) → AreLawful lines → AllByRecursion HasAddress (subs_in lines)
have_addresses [] l = tt
have_addresses (line ∷ before) l = go (sub_in line) refl (have_addresses before l.2)
  where
    go : (o : Option SubAgent) → sub_in line ≡ o → AllByRecursion HasAddress (subs_in before)
        → AllByRecursion HasAddress (cons_option o (subs_in before))
    go None is h = h
    go (Some s) is h = (sub_told line s is l.0, h)

pub all_at : {X : Type 0} (P : X → Type 0) (xs : List X) (k : ℕ) (x : X) → AllByRecursion P xs → slice_get xs k ≡ Some x → P x
all_at P [] k x h e = absurd cc
all_at P (y ∷ more) zero x h e = subst P (same_Some _ _ e) h.0
all_at P (y ∷ more) (suc k) x h e = all_at P more k x h.1 e

-- of one of them
pub all_among : (lines : List Line) (s : SubAgent) → AreLawful lines → IsAmong s (subs_in lines) → HasAddress s
all_among lines s lawful among = go (subs_in lines) (have_addresses lines lawful) among
  where
    go : (xs : List SubAgent) → AllByRecursion HasAddress xs → IsAmong s xs → HasAddress s
    go [] h a = absurd a
    go (x ∷ more) h (inl a) = subst HasAddress (sym a) h.0
    go (x ∷ more) h (inr a) = go more h.1 a

pub roomy : (lines : List Line) → AreLawful lines → (s : SubAgent) → HasAddress s → IsRoomy (sender_of lines s)
roomy lines lawful s h =
    let m = max_is lines lawful in
    record { least = m.0; most = m.1; front = h.0 }

pub each_has : (lines : List Line) → AreLawful lines → AllByRecursion HasAddress (reverse (subs_in lines))
each_has lines lawful = all_turned HasAddress (subs_in lines) (have_addresses lines lawful)

pub roomy_at : (lines : List Line) (k : ℕ) (s : SubAgent) → AreLawful lines → slice_get (reverse (subs_in lines)) k ≡ Some s
    → IsRoomy (sender_of lines s)
roomy_at lines k s lawful at =
    roomy lines lawful s (all_at HasAddress (reverse (subs_in lines)) k s (each_has lines lawful) at)

pub stage_few : (lines : List Line) (k : ℕ) (s : SubAgent) → AreLawful lines → slice_get (reverse (subs_in lines)) k ≡ Some s
    → s.stage ≤ 1024
stage_few lines k s lawful at = (all_at HasAddress (reverse (subs_in lines)) k s (each_has lines lawful) at).1

-- ---- samples

bytes_few : (n v : ℕ) → n ≤ 128 → v ≤ 24 → 24 + (n + padding_of n) + v ≤ 176
bytes_few n v few vlan = omega (arith, few, vlan)

vlan_few : (v : Option ℕ) → vlan_size v ≤ 24
vlan_few None = omega arith
vlan_few (Some n) = omega arith

pub flow_few : (form : Form) (n : ℕ) (v : Option ℕ) → n ≤ 128 → flow_bytes form n v ≤ 228
flow_few Compact n v few = omega (arith, bytes_few n (vlan_size v) few (vlan_few v))
flow_few Expanded n v few = omega (arith, bytes_few n (vlan_size v) few (vlan_few v))

pub packets_fit : (s : SubAgentState) (source : spec.Source) (p : samples.Packet) → IsRoomy (subs.sender_of s)
    → fits_in (subs.sender_of s) (a_sample source p ∷ []) ≡ true
packets_fit s source p r =
    let few : length (take 128 p.header) ≤ 128 = omega (arith, length-take 128 p.header) in
    let bytes = flow_few s.form (length (take 128 p.header)) p.vlan few in
    packet-fits s source p ∙ le-leb _ _ (omega (arith, bytes, r.front, r.least))

counters_few : (form : Form) → counters_bytes form ≤ 120
counters_few Compact = omega arith
counters_few Expanded = omega arith

pub counters_have_room : (s : SubAgentState) → IsRoomy (subs.sender_of s) → counters_fit s ≡ true
counters_have_room s r =
    let bytes = counters_few s.form in
    or_right (length s.pollers == 0) _ (le-leb _ _ (omega (arith, bytes, r.front, r.least)))
