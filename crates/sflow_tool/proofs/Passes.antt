-- Which of the datagrams that come are First, one after the other.
use Rattle.std.proofs.Common.{◌≡◌, ◌∙◌, ◌≤◌, ℕ, List, [], ◌∷◌, ◌++◌, length, map, Option, Some, None, Result, Ok, Err, refl, sym, ap, ap₂, append_assoc, append-nil, length-append, arith}
use Rattle.std.specs.Prelude.{reverse}
use Rattle.std.proofs.lemmas.List.{reverse-append}
use Rattle.wire_spec.specs.declared.fault.Fault.{Fault}
use Rattle.wire_spec.specs.Heads.{AgentAddress}
use Rattle.wire_spec.specs.Shapes.{Tree}
use Rattle.capture_spec.specs.Items.{Received}
use Rattle.datagram_core.specs.Heads.{DatagramView}
use Rattle.datagram_core.specs.Trees.{tree_of}
use Rattle.books_spec.specs.Items.{Datagram, Got, Item}
use Rattle.books_spec.specs.Books.{taken}
use Rattle.books_spec.specs.declared.limits.Limits.{Limits}
use Rattle.books_spec.specs.declared.taken.Taken.{Taken}
use Rattle.flow_collector.specs.Items.{datagram_in, item_of}
use Rattle.flow_collector.specs.Steps.{is_first}
use Rattle.flow_collector.proofs.Readings.{datagram-in-tree}
use Rattle.relay_out.specs.Routes.{AgentDatagram}
use Rattle.sflow_tool.specs.Passing.{agent_where, first_agent, passed_behind, passed_on, with_agent}
use Rattle.sflow_tool.specs.Replays.{entry_item, items_in}

-- ---- one entry

-- the bytes were read as this datagram, and a collector answered so
pub agent_answered : (l : Limits) (before : List Item) (at : ℕ) (read : Result Tree Fault) (d : DatagramView) (t : Taken)
    (agent : Option AgentAddress) → read ≡ Ok (tree_of d) → t ≡ taken l before (Got (datagram_in at (tree_of d)))
    → agent ≡ agent_where (is_first t) d.head.agent → agent ≡ first_agent l before (item_of at read)
agent_answered l before at read d t agent is answer agent_is =
    agent_is
    ∙ ap₂ agent_where (ap is_first answer) (sym (ap (λ (x : Datagram). x.head.agent) (datagram-in-tree at d)))
    ∙ sym (ap (λ (r : Result Tree Fault). first_agent l before (item_of at r)) is)

-- they are no datagram
pub no_agent : (l : Limits) (before : List Item) (at : ℕ) (read : Result Tree Fault) (f : Fault) → read ≡ Err f
    → None ≡ first_agent l before (item_of at read)
no_agent l before at read f is = sym (ap (λ (r : Result Tree Fault). first_agent l before (item_of at r)) is)

-- ---- many entries

few_of_one : (agent : Option AgentAddress) (bytes : List ℕ) → length (with_agent agent bytes) ≤ 1
few_of_one None bytes = omega arith
few_of_one (Some agent) bytes = omega arith

few_behind : (l : Limits) (before : List Item) (entries : List Received)
    → length (passed_behind l before entries) ≤ length entries
few_behind l before [] = omega arith
few_behind l before (e ∷ entries) =
    let here : List AgentDatagram = with_agent (first_agent l before (entry_item e)) e.bytes in
    omega (
      arith,
      few_of_one (first_agent l before (entry_item e)) e.bytes,
      few_behind l (entry_item e ∷ before) entries,
      length-append here (passed_behind l (entry_item e ∷ before) entries),
    )

pub few_passed : (l : Limits) (entries : List Received) → length (passed_on l entries) ≤ length entries
few_passed l entries = few_behind l [] entries

onto_before : (i : Item) (items before : List Item) → reverse items ++ (i ∷ before) ≡ reverse (i ∷ items) ++ before
onto_before i items before =
    sym (append_assoc (reverse items) (i ∷ []) before) ∙ ap (λ (is : List Item). is ++ before) (sym (reverse-append (i ∷ []) items))

behind-append : (l : Limits) (before : List Item) (es fs : List Received) → passed_behind l before (es ++ fs)
    ≡ passed_behind l before es ++ passed_behind l (reverse (map entry_item es) ++ before) fs
behind-append l before [] fs = refl
behind-append l before (e ∷ es) fs =
    let here : List AgentDatagram = with_agent (first_agent l before (entry_item e)) e.bytes in
    let more : List AgentDatagram = passed_behind l (entry_item e ∷ before) es in
    ap (λ (ds : List AgentDatagram). here ++ ds) (behind-append l (entry_item e ∷ before) es fs)
    ∙ sym (append_assoc here more (passed_behind l (reverse (map entry_item es) ++ (entry_item e ∷ before)) fs))
    ∙ ap (λ (items : List Item). (here ++ more) ++ passed_behind l items fs) (onto_before (entry_item e) (map entry_item es) before)

pub passed-append : (l : Limits) (es fs : List Received)
    → passed_on l (es ++ fs) ≡ passed_on l es ++ passed_behind l (items_in es) fs
passed-append l es fs =
    behind-append l [] es fs
    ∙ ap (λ (items : List Item). passed_on l es ++ passed_behind l items fs) (append-nil (items_in es))
