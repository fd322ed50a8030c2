-- What the tables of the records that are read have for each format.
use Rattle.std.proofs.Common.{◌≡◌, ℕ, ne_eqb, Result, Ok, Err, refl, sym, subst, ap, ◌∙◌}
use Rattle.wire_spec.specs.declared.pad.Pad.{Pad}
use Rattle.wire_spec.specs.declared.fault.Fault.{Fault}
use Rattle.wire_spec.specs.Shapes.{Shape, Table, empty, row, Tree, known, other}
use Rattle.wire_spec.specs.Spells.{IsAbsent}
use Rattle.wire_spec.specs.Tables as tables
use Rattle.wire_spec.specs.Tables.{flow_table, counter_table}
use Rattle.wire_spec.specs.Fails.{Remaining}
use Rattle.wire_spec.specs.Reading.{◌>>=◌, reading, inside_at}
use Rattle.xdr_words.specs.Readers.{Gives}
use Rattle.data_format.specs.Records.{Content, record_reading}
use Rattle.datagram_core.specs.Records.{as_known}
use Rattle.datagram_core.specs.Tables.{flow_records_read, counter_records_read}

-- the table has this shape for the format
pub record IsRow (T : Table) (n : ℕ) (s : Shape) : Type 0 where
  pub inside : (p : Pad) (b : Remaining)
      → inside_at p T n b ≡ (reading p s b >>= λ x. Ok (known n x.0 x.1.bytes))

as_inside : (n : ℕ) (r : Result (Tree × Remaining) Fault)
    → (r >>= λ x. let o : Result Tree Fault = Ok (known n x.0 x.1.bytes) in o)
    ≡ ((r >>= λ x. let o : Result Content Fault = Ok (x.0, x.1.bytes) in o) >>= λ x. Ok (as_known n x))
as_inside n (Ok x) = refl
as_inside n (Err f) = refl

-- what was read of the body of a frame of that format is the value of the frame
pub row_read : {X : Type 0} {T : Table} {n : ℕ} {s : Shape} (content : X → Content) (p : Pad) (k : ℕ) (b : Remaining)
    (r : Result X Fault) → IsRow T n s → k ≡ n → Gives content (λ f. f) r (record_reading p s b)
    → Gives (λ x. as_known n (content x)) (λ f. f) r (inside_at p T k b)
row_read {X = X} {T = T} {n = n} {s = s} content p k b r this e h =
    let P : ℕ → Type 0 = λ k. Gives (λ x. as_known n (content x)) (λ f. f) r (inside_at p T k b) in
    subst P (sym e) (at_row r h)
  where
    step : Result Content Fault → Result Tree Fault
    step q = q >>= λ x. Ok (as_known n x)

    same : inside_at p T n b ≡ step (record_reading p s b)
    same = this.inside p b ∙ as_inside n (reading p s b)

    at_row : (r : Result X Fault) → Gives content (λ f. f) r (record_reading p s b)
        → Gives (λ x. as_known n (content x)) (λ f. f) r (inside_at p T n b)
    at_row (Ok x) h = same ∙ ap step h
    at_row (Err f) h = same ∙ ap step h

-- ---- flow records

pub raw_row : IsRow flow_records_read 1 tables.raw_header
unfolding flow_records_read
raw_row = record { inside = λ p b. refl }

pub ethernet_row : IsRow flow_records_read 2 tables.ethernet_frame
unfolding flow_records_read
ethernet_row = record { inside = λ p b. refl }

pub ipv4_row : IsRow flow_records_read 3 tables.ipv4_header
unfolding flow_records_read
ipv4_row = record { inside = λ p b. refl }

pub ipv6_row : IsRow flow_records_read 4 tables.ipv6_header
unfolding flow_records_read
ipv6_row = record { inside = λ p b. refl }

pub switch_row : IsRow flow_records_read 1001 tables.extended_switch
unfolding flow_records_read
switch_row = record { inside = λ p b. refl }

pub router_row : IsRow flow_records_read 1002 tables.extended_router
unfolding flow_records_read
router_row = record { inside = λ p b. refl }

pub gateway_row : IsRow flow_records_read 1003 tables.extended_gateway
unfolding flow_records_read
gateway_row = record { inside = λ p b. refl }

pub user_row : IsRow flow_records_read 1004 tables.extended_user
unfolding flow_records_read
user_row = record { inside = λ p b. refl }

pub url_row : IsRow flow_records_read 1005 tables.extended_url
unfolding flow_records_read
url_row = record { inside = λ p b. refl }

pub mpls_row : IsRow flow_records_read 1006 tables.extended_mpls
unfolding flow_records_read
mpls_row = record { inside = λ p b. refl }

pub nat_row : IsRow flow_records_read 1007 tables.extended_nat
unfolding flow_records_read
nat_row = record { inside = λ p b. refl }

-- ---- counter records

pub interface_row : IsRow counter_records_read 1 tables.interface_counters
unfolding counter_records_read
interface_row = record { inside = λ p b. refl }

pub ethernet_counters_row : IsRow counter_records_read 2 tables.ethernet_counters
unfolding counter_records_read
ethernet_counters_row = record { inside = λ p b. refl }

pub vlan_row : IsRow counter_records_read 5 tables.vlan_counters
unfolding counter_records_read
vlan_row = record { inside = λ p b. refl }

pub processor_row : IsRow counter_records_read 1001 tables.processor_counters
unfolding counter_records_read
processor_row = record { inside = λ p b. refl }

-- ---- any other format

absent_row : (p : Pad) (T : Table) (k : ℕ) (b : Remaining) → IsAbsent k T → inside_at p T k b ≡ Ok (other k b.bytes)
absent_row p empty k b none = refl
absent_row p (row j s T) k b none = rw (ne_eqb k j none.0) (absent_row p T k b none.1)

pub no_flow_row : (p : Pad) (k : ℕ) (b : Remaining) → IsAbsent k flow_table
    → inside_at p flow_records_read k b ≡ Ok (other k b.bytes)
unfolding flow_records_read
no_flow_row p k b none = absent_row p flow_table k b none

pub no_counters_row : (p : Pad) (k : ℕ) (b : Remaining) → IsAbsent k counter_table
    → inside_at p counter_records_read k b ≡ Ok (other k b.bytes)
unfolding counter_records_read
no_counters_row p k b none = absent_row p counter_table k b none
