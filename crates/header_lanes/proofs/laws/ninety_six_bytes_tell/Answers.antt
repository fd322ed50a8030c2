use Rattle.std.proofs.Common.{◌∙◌, ◌≡◌, sym, ap, take, Some, None, Option, ℕ, refl, arith}
use Rattle.header_lanes.specs.Facts.{facts, facts_in}
use Rattle.header_lanes.specs.Rows.{tagged_header, tagged_facts}
use Rattle.header_lanes.specs.Ethernet.{ethernet, vlan_of, type_behind, from_type, by_type, by_ethertype}
use Rattle.header_lanes.specs.Internet.{ipv4_at, with_ipv4, behind_ipv4, with_transport}
use Rattle.header_lanes.proofs.Fronts.{same_facts}
use Rattle.header_lanes.proofs.laws.ninety_six_bytes_tell.Goals as goal

pub returns-clause-any_more : goal.returns-clause-any_more
returns-clause-any_more c = λ n protocol header le. same_facts n protocol header le

pub returns-clause-facts : goal.returns-clause-facts
returns-clause-facts c = λ protocol header. same_facts 128 protocol header (omega arith) ∙ sym (same_facts 96 protocol header (omega arith))

without_flags : facts 1 (take 95 (tagged_header 0)) ≡ tagged_facts (Some 8080) (Some 443) None
unfolding facts_in ethernet vlan_of type_behind from_type by_type by_ethertype ipv4_at with_ipv4 behind_ipv4 with_transport
without_flags = refl

with_flags : facts 1 (tagged_header 0) ≡ tagged_facts (Some 8080) (Some 443) (Some 0x12)
unfolding facts_in ethernet vlan_of type_behind from_type by_type by_ethertype ipv4_at with_ipv4 behind_ipv4 with_transport
with_flags = refl

differs : ◌≡◌ {A = Option ℕ} None (Some 0x12) → ⊥
differs e = cc

pub returns-clause-no_fewer : goal.returns-clause-no_fewer
returns-clause-no_fewer c = λ same. differs (ap (λ f. f.tcp_flags) (sym without_flags ∙ same ∙ with_flags))
