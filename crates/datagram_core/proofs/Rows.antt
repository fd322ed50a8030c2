-- What the table of the samples that are read has for each format.
use Rattle.std.proofs.Common.{◌≡◌, ◌≢◌, ℕ, ne_eqb, Result, Ok, refl, sym, subst}
use Rattle.wire_spec.specs.declared.pad.Pad.{Pad}
use Rattle.wire_spec.specs.declared.fault.Fault.{Fault}
use Rattle.wire_spec.specs.Shapes.{other}
use Rattle.wire_spec.specs.Fails.{Remaining}
use Rattle.wire_spec.specs.Reading.{inside_at}
use Rattle.xdr_words.specs.Readers.{Gives}
use Rattle.data_format.specs.declared.heads.Form.TheVariants.{Compact, Expanded}
use Rattle.data_format.specs.declared.heads.FlowHead.{FlowHead}
use Rattle.data_format.specs.declared.heads.CountersHead.{CountersHead}
use Rattle.data_format.specs.Samples.{SampleView, flow_members, flow_trees, flow_parts, counters_members, counters_trees, counters_parts, sample_reading}
use Rattle.data_format.specs.Trees.{table_test}
use Rattle.data_format.proofs.Samples.{sample_value}
use Rattle.datagram_core.specs.declared.sample.Sample.{Sample}
use Rattle.datagram_core.specs.declared.sample.Sample.TheVariants as samples
use Rattle.datagram_core.specs.Samples.{sample_tree}
use Rattle.datagram_core.specs.Tables.{flow_records_read, counter_records_read, samples_read}

-- what was read of the body of a frame of format k is the sample of this variant
abbrev pub IsRead : {H : Type 0} → (SampleView H → Sample) → Pad → ℕ → Remaining → Result (SampleView H) Fault → Type 0
IsRead variant p k b r = Gives (λ s. sample_tree (variant s)) (λ f. f) r (inside_at p samples_read k b)

pub flow_row : (p : Pad) (k : ℕ) (b : Remaining) (r : Result (SampleView FlowHead) Fault) → k ≡ 1
    → Gives (flow_parts Compact) (λ f. f) r (sample_reading p (flow_members Compact) (table_test p flow_records_read) b)
    → IsRead (λ s. samples.Flow s) p k b r
unfolding samples_read
flow_row p k b r e h =
    let T = flow_records_read in
    let P : ℕ → Type 0 = λ k. IsRead (λ s. samples.Flow s) p k b r in
    subst P (sym e)
    (sample_value (flow_trees Compact) (flow_members Compact) p (table_test p T) b r h T (λ f. refl) 1)

pub counters_row : (p : Pad) (k : ℕ) (b : Remaining) (r : Result (SampleView CountersHead) Fault) → k ≡ 2
    → Gives (counters_parts Compact) (λ f. f) r (sample_reading p (counters_members Compact) (table_test p counter_records_read) b)
    → IsRead (λ s. samples.Counters s) p k b r
unfolding samples_read
counters_row p k b r e h =
    let T = counter_records_read in
    let P : ℕ → Type 0 = λ k. IsRead (λ s. samples.Counters s) p k b r in
    subst P (sym e)
    (sample_value (counters_trees Compact) (counters_members Compact) p (table_test p T) b r h T (λ f. refl) 2)

pub expanded_flow_row : (p : Pad) (k : ℕ) (b : Remaining) (r : Result (SampleView FlowHead) Fault) → k ≡ 3
    → Gives (flow_parts Expanded) (λ f. f) r (sample_reading p (flow_members Expanded) (table_test p flow_records_read) b)
    → IsRead (λ s. samples.FlowX s) p k b r
unfolding samples_read
expanded_flow_row p k b r e h =
    let T = flow_records_read in
    let P : ℕ → Type 0 = λ k. IsRead (λ s. samples.FlowX s) p k b r in
    subst P (sym e)
    (sample_value (flow_trees Expanded) (flow_members Expanded) p (table_test p T) b r h T (λ f. refl) 3)

pub expanded_counters_row : (p : Pad) (k : ℕ) (b : Remaining) (r : Result (SampleView CountersHead) Fault) → k ≡ 4
    → Gives (counters_parts Expanded) (λ f. f) r (sample_reading p (counters_members Expanded) (table_test p counter_records_read) b)
    → IsRead (λ s. samples.CountersX s) p k b r
unfolding samples_read
expanded_counters_row p k b r e h =
    let T = counter_records_read in
    let P : ℕ → Type 0 = λ k. IsRead (λ s. samples.CountersX s) p k b r in
    subst P (sym e)
    (sample_value (counters_trees Expanded) (counters_members Expanded) p (table_test p T) b r h T (λ f. refl) 4)

-- any other format
pub no_row : (p : Pad) (k : ℕ) (b : Remaining) → k ≢ 1 → k ≢ 2 → k ≢ 3 → k ≢ 4
    → inside_at p samples_read k b ≡ Ok (other k b.bytes)
unfolding samples_read
no_row p k b one two three four = rw (ne_eqb k 1 one, ne_eqb k 2 two, ne_eqb k 3 three, ne_eqb k 4 four) refl
