-- A value has the parts that it was made of.
use Rattle.std.proofs.Common.{◌≡◌, suc, ℕ, ◌+◌, ◌*◌, ◌/◌, ◌%◌, ◌^◌, List, [], ◌∷◌, length, refl, ap, ◌∙◌, arith}
use Rattle.wire_spec.specs.Shapes.{Tree, Trees, count_of}
use Rattle.wire_spec.specs.Heads.{AgentAddress, unknown, ipv4, ipv6, Head, address_tree, datagram_tree}
use Rattle.wire_spec.specs.Members.{with_last_tree}
use Rattle.data_format.specs.declared.format.Format.{Format}
use Rattle.data_format.specs.declared.heads.Form.{Form}
use Rattle.data_format.specs.declared.heads.Form.TheVariants.{Compact, Expanded}
use Rattle.data_format.specs.declared.heads.FlowHead.{FlowHead}
use Rattle.data_format.specs.declared.heads.CountersHead.{CountersHead}
use Rattle.data_format.specs.declared.port.Port.{Port}
use Rattle.data_format.specs.declared.source.SourceId.{SourceId}
use Rattle.data_format.specs.Compact.{source_word, source_of, IsCompactSource, port_word, port_of, IsCompactPort}
use Rattle.data_format.specs.Samples.{flow_trees, IsFlowHead, counters_trees, IsCountersHead}
use Rattle.data_format.specs.Trees.{trees_of}
use Rattle.data_format.specs.Values.{format_of, behind_version, address_in, head_in, flow_head_in, counters_head_in, flow_records_in, counter_records_in}
use Rattle.data_format.specs.Views.{IsFormat, format_word}

-- ---- numbers of one word

pub format_of-word : (f : Format) → IsFormat f → format_of (format_word f) ≡ f
format_of-word f fits =
    let top : (f.enterprise * 4096 + f.number) / 4096 ≡ f.enterprise = omega (arith, fits.1) in
    let low : (f.enterprise * 4096 + f.number) % 4096 ≡ f.number = omega (arith, fits.1) in
    let A : ℕ → ℕ → Format = λ e n. record { enterprise = e; number = n } in
    ap (λ e. A e ((f.enterprise * 4096 + f.number) % 4096)) top ∙ ap (A f.enterprise) low

pub source_of-word : (s : SourceId) → IsCompactSource s → source_of (source_word s) ≡ s
source_of-word s fits =
    let top : (s.class * 2 ^ 24 + s.index) / 2 ^ 24 ≡ s.class = omega (arith, fits.1) in
    let low : (s.class * 2 ^ 24 + s.index) % 2 ^ 24 ≡ s.index = omega (arith, fits.1) in
    let A : ℕ → ℕ → SourceId = λ c i. record { class = c; index = i } in
    ap (λ c. A c ((s.class * 2 ^ 24 + s.index) % 2 ^ 24)) top ∙ ap (A s.class) low

pub port_of-word : (p : Port) → IsCompactPort p → port_of (port_word p) ≡ p
port_of-word p fits =
    let top : (p.form * 2 ^ 30 + p.value) / 2 ^ 30 ≡ p.form = omega (arith, fits.1) in
    let low : (p.form * 2 ^ 30 + p.value) % 2 ^ 30 ≡ p.value = omega (arith, fits.1) in
    let A : ℕ → ℕ → Port = λ f v. record { form = f; value = v } in
    ap (λ f. A f ((p.form * 2 ^ 30 + p.value) % 2 ^ 30)) top ∙ ap (A p.form) low

-- ---- datagrams

pub address_in-tree : (a : AgentAddress) → address_in (address_tree a) ≡ a
address_in-tree unknown = refl
address_in-tree (ipv4 bytes) = refl
address_in-tree (ipv6 bytes) = refl

pub head_in-tree : (h : Head) (samples : Trees) → head_in (behind_version (datagram_tree h samples)) ≡ h
head_in-tree h samples = ap (λ (a : AgentAddress). record h { agent = a }) (address_in-tree h.agent)

-- ---- samples

pub flow_head_in-trees : (form : Form) (h : FlowHead) (t : Tree) → IsFlowHead form h
    → flow_head_in form (with_last_tree (flow_trees form h) t) ≡ h
flow_head_in-trees Compact h t (source, input, output) =
    let A : SourceId → Port → Port → FlowHead = λ s i o. record h { source = s; input = i; output = o } in
    ap (λ s. A s (port_of (port_word h.input)) (port_of (port_word h.output))) (source_of-word h.source source)
    ∙ ap (λ i. A h.source i (port_of (port_word h.output))) (port_of-word h.input input)
    ∙ ap (A h.source h.input) (port_of-word h.output output)
flow_head_in-trees Expanded h t any = refl

pub counters_head_in-trees : (form : Form) (h : CountersHead) (t : Tree) → IsCountersHead form h
    → counters_head_in form (with_last_tree (counters_trees form h) t) ≡ h
counters_head_in-trees Compact h t source =
    ap (λ (s : SourceId). record h { source = s }) (source_of-word h.source source)
counters_head_in-trees Expanded h t any = refl

pub flow_records_in-trees : (form : Form) (h : FlowHead) (ts : Trees)
    → flow_records_in form (with_last_tree (flow_trees form h) (Tree.array ts)) ≡ ts
flow_records_in-trees Compact h ts = refl
flow_records_in-trees Expanded h ts = refl

pub counter_records_in-trees : (form : Form) (h : CountersHead) (ts : Trees)
    → counter_records_in form (with_last_tree (counters_trees form h) (Tree.array ts)) ≡ ts
counter_records_in-trees Compact h ts = refl
counter_records_in-trees Expanded h ts = refl

-- ---- lists

pub count_of-trees : {A : Type 0} (view : A → Tree) (xs : List A) → count_of (trees_of view xs) ≡ length xs
count_of-trees view [] = refl
count_of-trees view (x ∷ xs) = ap suc (count_of-trees view xs)
