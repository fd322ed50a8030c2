-- Samples are written into a datagram, while there is room.
use Rattle.std.proofs.Common.{◌≡◌, ℕ, zero, suc, ◌+◌, ◌≤◌, min, List, [], ◌∷◌, ◌++◌, length, map, take, drop, refl, sym, ap, subst, ◌∙◌, arith, length-append, take-append-drop}
use Rattle.std.specs.Prelude.{slice_get, Ok}
use Rattle.std.specs.declared.option.Option.{Option}
use Rattle.std.specs.declared.option.Option.TheVariants.{Some, None}
use Rattle.wire_spec.specs.Heads.{Head, datagram_tree}
use Rattle.wire_spec.specs.Shapes.{Tree, known, Trees, none, ◌&◌}
use Rattle.wire_spec.specs.Spelling.{spell, spell_all}
use Rattle.data_format.specs.declared.heads.FlowHead.{FlowHead}
use Rattle.data_format.specs.declared.heads.CountersHead.{CountersHead}
use Rattle.data_format.specs.declared.heads.Form.{Form}
use Rattle.data_format.specs.declared.heads.Form.TheVariants.{Compact, Expanded}
use Rattle.datagram_core.specs.Written.{and_then, begun_bytes, begun_flow, begun_counters, closed_sample, with_record}
use Rattle.datagram_core.specs.Writers.{left_of, IsClosed, Has, Grows, SameRoom}
use Rattle.datagram_core.specs.declared.writer.DatagramWriter.{DatagramWriter}
use Rattle.datagram_core.proofs.WriterSteps.{size_so_far}
use Rattle.agent_spec.proofs.Sized.{datagram-size}
use Rattle.datagram_core.proofs.Filling.{adds_room, same_room}
use Rattle.agent_spec.specs.Spelled.{switch_records}
use Rattle.sub_agents.specs.declared.staged.StagedFlow.{StagedFlow}
use Rattle.rec_counters.specs.Contents.{interface_content}
use Rattle.rec_counters.specs.declared.interface.IfCounters.{IfCounters}
use Rattle.datagram_core.specs.Records.{record_tree}
use Rattle.datagram_core.specs.declared.records.Record.TheVariants as records
use Rattle.sub_agents.specs.declared.staged.StagedCounters.{StagedCounters}
use Rattle.sub_agents.specs.declared.staged.Staged.TheVariants.{Flow, Counters}
use Rattle.sub_agents.specs.Sizes.{flow_front, vlan_size}
use Rattle.sub_agents.specs.Staged.{flow_value, counters_value, staged_size, values, datagram_bytes, header_value}
use Rattle.sub_agents.specs.Written.{Appended, Filled, size_of, with_vlan}
use Rattle.sub_agents.proofs.Lists.{map-last}
use Rattle.sub_agents.proofs.PollLists.{take-next}
use Rattle.sub_agents.proofs.Sizes.{flow-size, raw-size}

pub grown : (a b : DatagramWriter) (n : ℕ) → Grows a b n → SameRoom a b
grown a b n h = adds_room a b (Ok tt) n h

-- ---- samples

pub flow-closed : (form : Form) (h : FlowHead) (t : Tree) (vlan : Option ℕ)
    → closed_sample (with_vlan (with_record (begun_flow form h) t) vlan) [] ≡ flow_value form h (t & switch_records vlan)
flow-closed Compact h t None = refl
flow-closed Compact h t (Some vlan) = refl
flow-closed Expanded h t None = refl
flow-closed Expanded h t (Some vlan) = refl

pub counters-closed : (form : Form) (h : CountersHead) (t : Tree)
    → closed_sample (with_record (begun_counters form h) t) [] ≡ counters_value form h (t & none)
counters-closed Compact h t = refl
counters-closed Expanded h t = refl

pub flow-begun : (form : Form) (h : FlowHead) → length (begun_bytes (begun_flow form h)) ≡ flow_front form
flow-begun Compact h = refl
flow-begun Expanded h = refl

-- how many bytes its pieces have
pub flow-parts : (form : Form) (s : StagedFlow) → staged_size form (Flow s)
    ≡ length (begun_bytes (begun_flow form s.head)) + length (spell (header_value s)) + vlan_size s.vlan
flow-parts form s =
    omega (arith, flow-size form s, flow-begun form s.head, raw-size s.frame_length s.header.items)

pub counters-parts : (form : Form) (s : StagedCounters) → staged_size form (Counters s)
    ≡ length (begun_bytes (begun_counters form s.head)) + length (spell (known 1 (interface_content s.counters).0 []))
counters-parts Compact s = refl
counters-parts Expanded s = refl

-- the front of a packet, by the bytes that were read of it
pub header-tree : (s : StagedFlow) (bytes : List ℕ) → bytes ≡ s.header.items
    → known 1 (Tree.structure (Tree.word 1 & Tree.word s.frame_length & Tree.word 4 & Tree.opaque bytes & none)) []
    ≡ header_value s
header-tree s bytes e =
    ap (λ (b : List ℕ). known 1 (Tree.structure (Tree.word 1 & Tree.word s.frame_length & Tree.word 4 & Tree.opaque b & none)) []) e

pub counters-tree : (r : IfCounters) → r.tail.now ≡ [] → record_tree (records.IfCounters r) ≡ known 1 (interface_content r).0 []
counters-tree r e = ap (λ (t : List ℕ). known 1 (interface_content r).0 t) e

pub filled-as : (a b : DatagramWriter) (t u : Tree) → t ≡ u → Filled a b t → Filled a b u
filled-as a b t u e h = subst (λ (v : Tree). Filled a b v) e h

-- ---- one after the other

pub values-last : (ts : List Tree) (t : Tree) → values (ts ++ t ∷ []) ≡ and_then (values ts) t
values-last [] t = refl
values-last (u ∷ more) t = ap (λ (us : Trees). u & us) (values-last more t)

pub size-append : (ts us : List Tree) → size_of (ts ++ us) ≡ size_of ts + size_of us
size-append [] us = omega arith
size-append (t ∷ more) us = omega (
  arith,
  size-append more us,
  length-append (spell t) (spell_all (values (more ++ us))),
  length-append (spell t) (spell_all (values more)),
)

pub size-one : (t : Tree) → size_of (t ∷ []) ≡ length (spell t)
size-one t = omega (arith, length-append (spell t) [])

take-less : {X : Type 0} (m n : ℕ) (xs : List X) → m ≤ n → take m (take n xs) ≡ take m xs
take-less zero n xs h = refl
take-less (suc m) zero xs h = absurd (omega (arith, h))
take-less (suc m) (suc n) [] h = refl
take-less {X} (suc m) (suc n) (x ∷ more) h = ap (λ (l : List X). x ∷ l) (take-less m n more (omega (arith, h)))

-- one sample more
module _ {X : Type 0} (f : X → Tree) where
  pub next-values : (xs : List X) (i : ℕ) (x : X) → slice_get xs i ≡ Some x
      → map f (take (i + 1) xs) ≡ map f (take i xs) ++ f x ∷ []
  next-values xs i x at =
      let next : i + 1 ≡ suc i = omega arith in
      ap (λ (n : ℕ). map f (take n xs)) next ∙ ap (map f) (take-next xs i x at) ∙ map-last f (take i xs) x

  pub next-size : (xs : List X) (i : ℕ) (x : X) → slice_get xs i ≡ Some x
      → size_of (map f (take (i + 1) xs)) ≡ size_of (map f (take i xs)) + length (spell (f x))
  next-size xs i x at =
      ap size_of (next-values xs i x at) ∙ size-append (map f (take i xs)) (f x ∷ [])
      ∙ ap (λ (n : ℕ). size_of (map f (take i xs)) + n) (size-one (f x))

  map-append : (xs ys : List X) → map f (xs ++ ys) ≡ map f xs ++ map f ys
  map-append [] ys = refl
  map-append (x ∷ more) ys = ap (λ (l : List Tree). f x ∷ l) (map-append more ys)

  -- fewer samples have no more bytes
  pub fewer : (xs : List X) (m n : ℕ) → m ≤ n → size_of (map f (take m xs)) ≤ size_of (map f (take n xs))
  fewer xs m n h =
      let front : List X = take m (take n xs) in
      let parts : map f (take n xs) ≡ map f (take m xs) ++ map f (drop m (take n xs)) =
      ap (map f) (sym (take-append-drop m (take n xs))) ∙ map-append front (drop m (take n xs))
      ∙ ap (λ (l : List X). map f l ++ map f (drop m (take n xs))) (take-less m n xs h) in
      omega (arith, ap size_of parts, size-append (map f (take m xs)) (map f (drop m (take n xs))))

  -- the first so many are written
  pub record IsWriting (start now : DatagramWriter) (xs : List X) (i : ℕ) : Type 0 where
    pub room : SameRoom start now
    pub closed : IsClosed now
    pub has : (h : Head) → Has start h none → Has now h (values (map f (take i xs)))
    pub left : left_of now + size_of (map f (take i xs)) ≡ left_of start

  pub writing-step : (start now new : DatagramWriter) (xs : List X) (i : ℕ) (x : X) → IsWriting start now xs i
      → slice_get xs i ≡ Some x → Appended now new (f x) → IsWriting start new xs (i + 1)
  writing-step start now new xs i x w at h = record {
    room = same_room start now new w.room h.room;
    closed = h.closed;
    has = λ head begun.
        subst (λ (ts : Trees). Has new head ts)
        (sym (ap values (next-values xs i x at) ∙ values-last (map f (take i xs)) (f x)))
        (h.has head (values (map f (take i xs))) (w.has head begun));
    left = omega (arith, w.left, h.left, next-size xs i x at);
  }

-- ---- a datagram

pub front-room : (h : Head) (ts : List Tree) (n : ℕ) → length (datagram_bytes h ts) ≤ n → n ≤ 65535
    → length (spell (datagram_tree h none)) ≤ min 65535 n
front-room h ts n room most = omega (arith, room, most, datagram-size h (values ts), datagram-size h none)

pub left-room : (w : DatagramWriter) (h : Head) (ts : List Tree) → Has w h none
    → length (datagram_bytes h ts) ≤ length w.room.now → length w.room.now ≤ 65535 → size_of ts ≤ left_of w
left-room w h ts has room most = omega (
  arith,
  room,
  most,
  size_so_far w,
  ap length has.bytes,
  datagram-size h (values ts),
  datagram-size h none,
)
