-- A datagram that was sent fits the words of the wire.
use Rattle.std.proofs.Common.{◌≡◌, ℕ, ◌+◌, ◌*◌, ◌%◌, ◌<◌, ◌≤◌, ◌^◌, inl, inr, List, [], ◌∷◌, ◌++◌, length, take, replicate, refl, sym, ◌∙◌, arith}
use Rattle.std.specs.List.{AllByRecursion}
use Rattle.std.specs.declared.option.Option.{Option}
use Rattle.std.specs.declared.option.Option.TheVariants.{Some, None}
use Rattle.std.proofs.lemmas.List.{length-append, length-replicate, length-take}
use Rattle.std.proofs.lemmas.Bool.{leb-true}
use Rattle.wire_spec.specs.Padding.{padding_of}
use Rattle.wire_spec.specs.Shapes.{Shape, frame, Tree, known, Trees, none, ◌&◌, count_of}
use Rattle.wire_spec.specs.Heads.{AgentAddress, unknown, ipv4, ipv6, Head, address_tree}
use Rattle.wire_spec.specs.Spelling.{spell, spell_all, AllTrees, IsLawful, IsLawfulRow}
use Rattle.wire_spec.specs.Tables.{agent_address, interface_counters, flow_table, counter_table, flow_sample, counters_sample, expanded_flow_sample, expanded_counters_sample, sample_table, datagram_body, datagram}
use Rattle.agent_spec.specs.Sources.{Source}
use Rattle.agent_spec.specs.Samples.{Port, Packet, Content, Sampled, Counted, Sample, Datagram}
use Rattle.agent_spec.specs.Spelled.{Form, Compact, Expanded, Sender, raw_header_of, switch_records, flow_records, sample_tree, sample_trees, sent_tree, sent_bytes}
use Rattle.agent_spec.proofs.Sized.{datagram-size, fits-whatever}
use Rattle.delivered_items.specs.Accepted.{IsAddress, IsSender, IsSourceIn, IsPortIn, IsVlan, IsPacketIn}
use Rattle.delivered_items.proofs.Kept.{IsSaid, IsSound, IsSoundDatagram}

-- ---- lengths

-- the body of a frame is shorter than the frame
record Fits (k : ℕ) (t : Tree) : Type 0 where
  some : 1 ≤ length (spell (known k t []))
  few : length (spell t ++ []) ≤ 65535
  body : length (spell t ++ []) < 2 ^ 32

body-fits : (k : ℕ) (t : Tree) → length (spell (known k t [])) ≤ 65535 → Fits k t
body-fits k t few =
    let n = length (spell t ++ []) in
    let size : length (spell (known k t [])) ≡ 8 + (n + padding_of n) = omega (
      arith,
      length-append (spell t ++ []) (replicate (padding_of n) 0),
      length-replicate {A = ℕ} (padding_of n) 0,
    ) in
    record { some = omega (arith, size); few = omega (arith, size, few); body = omega (arith, size, few) }

within : (a b c : ℕ) → a ≤ b → b ≤ c → a ≤ c
within a b c x y = omega (arith, x, y)

tail-fits : (front behind whole most : ℕ) → whole ≡ 20 + front + behind → whole ≤ most → behind ≤ most
tail-fits front behind whole most e few = omega (arith, e, few)

-- ---- records

raw-lawful : (p : Packet) → p.frame_length < 2 ^ 32 → IsLawful (frame flow_table) (raw_header_of p)
raw-lawful p h =
    let v : List ℕ = take 128 p.header in
    let shown : length v ≤ 128 = omega (arith, length-take 128 p.header) in
    let pad : ℕ = padding_of (length v) in
    let padding : pad ≤ 3 = omega arith in
    let t : Tree = Tree.structure (Tree.word 1 & Tree.word p.frame_length & Tree.word 4 & Tree.opaque v & none) in
    let size : length (spell t ++ []) ≤ 147 = omega (
      arith,
      shown,
      padding,
      length-append (spell t) [],
      length-append (v ++ replicate pad 0) [],
      length-append v (replicate pad 0),
      length-replicate {A = ℕ} pad 0,
    ) in
    (omega arith, omega (arith, size), inl (refl, (omega arith, (h, (omega arith, (omega (arith, shown), tt))))))

switch-lawful : (vlan : Option ℕ) → IsVlan vlan
    → (count_of (switch_records vlan) ≤ 1) × AllTrees (IsLawful (frame flow_table)) (switch_records vlan)
switch-lawful None h = (omega arith, tt)
switch-lawful (Some vlan) h =
    let small : vlan < 2 ^ 32 = omega (arith, h) in (
      omega arith,
      (
        (
          omega arith,
          omega arith,
          inr (
            λ e. absurd (omega (arith, e)),
            inr (
              λ e. absurd (omega (arith, e)),
              inr (
                λ e. absurd (omega (arith, e)),
                inr (
                  λ e. absurd (omega (arith, e)),
                  inl (refl, (small, (omega arith, (small, (omega arith, tt))))),
                ),
              ),
            ),
          ),
        ),
        tt,
      ),
    )

records-lawful : (form : Form) (p : Packet) → IsPacketIn form p
    → IsLawful (Shape.array (frame flow_table)) (Tree.array (flow_records p))
records-lawful form p h =
    let switch = switch-lawful p.vlan h.vlan in
    (omega (arith, switch.0), (raw-lawful p h.frame_length, switch.1))

counters-lawful : (reading : Tree) → length (spell (known 1 reading [])) ≤ 65535
    → IsLawful interface_counters reading
    → IsLawful (Shape.array (frame counter_table)) (Tree.array (known 1 reading [] & none))
counters-lawful reading few h =
    let fits : Fits 1 reading = body-fits 1 reading few in
    (omega arith, ((omega arith, fits.body, inl (refl, h)), tt))

-- ---- samples

word-fits : (n : ℕ) → n % 2 ^ 32 < 2 ^ 32
word-fits n = omega arith

source-fits : (s : Source) → IsSourceIn Compact s → s.class * 2 ^ 24 + s.index < 2 ^ 32
source-fits s h = omega (arith, h.0, h.1)

port-fits : (p : Port) → IsPortIn Compact p → p.form * 2 ^ 30 + p.value < 2 ^ 32
port-fits p h = omega (arith, h.0, h.1)

array-size : (t : Tree) → length (spell t) ≤ length (spell (Tree.array (t & none)))
array-size t = omega (arith, length-append (spell t) [])

two-words : (a b : ℕ) (t : Tree)
    → length (spell t) ≤ length (spell (Tree.structure (Tree.word a & Tree.word b & t & none)) ++ [])
two-words a b t = omega (arith, length-append (spell t ++ []) [], length-append (spell t) [])

three-words : (a b c : ℕ) (t : Tree)
    → length (spell t) ≤ length (spell (Tree.structure (Tree.word a & Tree.word b & Tree.word c & t & none)) ++ [])
three-words a b c t = omega (arith, length-append (spell t ++ []) [], length-append (spell t) [])

-- so is a reading in its sample
reading-within : (reading t : Tree)
    → length (spell (Tree.array (known 1 reading [] & none))) ≤ length (spell t ++ []) → length (spell t ++ []) ≤ 65535
    → length (spell (known 1 reading [])) ≤ 65535
reading-within reading t less few =
    within (length (spell (known 1 reading []))) (length (spell (Tree.array (known 1 reading [] & none)))) 65535
    (array-size (known 1 reading []))
    (within (length (spell (Tree.array (known 1 reading [] & none)))) (length (spell t ++ [])) 65535 less few)

-- a sample of at most 65,535 bytes
abbrev IsFrame : Tree → Type 0
IsFrame t = (1 ≤ length (spell t)) × IsLawful (frame sample_table) t

-- a sample whose body fits, in its row of the table
framed : (k : ℕ) (t : Tree) → k < 2 ^ 32 → Fits k t → IsLawfulRow sample_table k t → IsFrame (known k t [])
framed k t small fits row = (fits.some, (small, fits.body, row))

one-lawful : (form : Form) (s : Sample) (c : Content) → IsSourceIn form s.turn.source → IsSaid form s c
    → length (spell (sample_tree form s.turn.source s c)) ≤ 65535 → IsFrame (sample_tree form s.turn.source s c)
one-lawful Compact s (Sampled p) source said few =
    let src : Source = s.turn.source in
    let t : Tree = Tree.structure (
    Tree.word (s.number % 2 ^ 32) & Tree.word (src.class * 2 ^ 24 + src.index) & Tree.word s.rate &
    Tree.word (s.pool % 2 ^ 32) & Tree.word (s.drops % 2 ^ 32) &
    Tree.word (p.input.form * 2 ^ 30 + p.input.value) & Tree.word (p.output.form * 2 ^ 30 + p.output.value) &
    Tree.array (flow_records p) & none) in
    let members : IsLawful flow_sample t = (
      word-fits s.number,
      (
        source-fits src source,
        (
          said.1,
          (
            word-fits s.pool,
            (
              word-fits s.drops,
              (port-fits p.input said.2.input, (port-fits p.output said.2.output, (records-lawful Compact p said.2, tt))),
            ),
          ),
        ),
      ),
    ) in
    framed 1 t (omega arith) (body-fits 1 t few) (inl (refl, members))
one-lawful Compact s (Counted reading) source said few =
    let src : Source = s.turn.source in
    let counters : Tree = Tree.array (known 1 reading [] & none) in
    let t : Tree = Tree.structure (
    Tree.word (s.number % 2 ^ 32) & Tree.word (src.class * 2 ^ 24 + src.index) & counters & none) in
    let fits : Fits 2 t = body-fits 2 t few in
    let inner : length (spell (known 1 reading [])) ≤ 65535 =
    reading-within reading t (two-words (s.number % 2 ^ 32) (src.class * 2 ^ 24 + src.index) counters) fits.few in
    let members : IsLawful counters_sample t =
    (word-fits s.number, (source-fits src source, (counters-lawful reading inner said.4, tt))) in
    framed 2 t (omega arith) fits (inr (λ e. absurd (omega (arith, e)), inl (refl, members)))
one-lawful Expanded s (Sampled p) source said few =
    let src : Source = s.turn.source in
    let t : Tree = Tree.structure (
    Tree.word (s.number % 2 ^ 32) & Tree.word src.class & Tree.word src.index & Tree.word s.rate &
    Tree.word (s.pool % 2 ^ 32) & Tree.word (s.drops % 2 ^ 32) &
    Tree.word p.input.form & Tree.word p.input.value & Tree.word p.output.form & Tree.word p.output.value &
    Tree.array (flow_records p) & none) in
    let members : IsLawful expanded_flow_sample t = (
      word-fits s.number,
      (
        source.0,
        (
          source.1,
          (
            said.1,
            (
              word-fits s.pool,
              (
                word-fits s.drops,
                (
                  said.2.input.0,
                  (
                    said.2.input.1,
                    (
                      said.2.output.0,
                      (
                        said.2.output.1,
                        (records-lawful Expanded p said.2, tt),
                      ),
                    ),
                  ),
                ),
              ),
            ),
          ),
        ),
      ),
    ) in
    framed 3 t (omega arith) (body-fits 3 t few)
    (inr (λ e. absurd (omega (arith, e)), inr (λ e. absurd (omega (arith, e)), inl (refl, members))))
one-lawful Expanded s (Counted reading) source said few =
    let src : Source = s.turn.source in
    let counters : Tree = Tree.array (known 1 reading [] & none) in
    let t : Tree = Tree.structure (
    Tree.word (s.number % 2 ^ 32) & Tree.word src.class & Tree.word src.index & counters & none) in
    let fits : Fits 4 t = body-fits 4 t few in
    let inner : length (spell (known 1 reading [])) ≤ 65535 =
    reading-within reading t (three-words (s.number % 2 ^ 32) src.class src.index counters) fits.few in
    let members : IsLawful expanded_counters_sample t =
    (word-fits s.number, (source.0, (source.1, (counters-lawful reading inner said.4, tt)))) in
    framed 4 t (omega arith) fits
    (inr (
      λ e. absurd (omega (arith, e)),
      inr (
        λ e. absurd (omega (arith, e)),
        inr (λ e. absurd (omega (arith, e)), inl (refl, members)),
      ),
    ))

abbrev AreFrames : Trees → Type 0
AreFrames ts = (count_of ts ≤ length (spell_all ts)) × AllTrees (IsLawful (frame sample_table)) ts

samples-lawful : (sender : Sender) (xs : List Sample) → AllByRecursion (IsSound sender) xs
    → length (spell_all (sample_trees sender.form xs)) ≤ 65535 → AreFrames (sample_trees sender.form xs)
samples-lawful sender [] h few = (omega arith, tt)
samples-lawful sender (x ∷ more) h few =
    let t : Tree = sample_tree sender.form x.turn.source x x.content in
    let rest : Trees = sample_trees sender.form more in
    let size = length-append (spell t) (spell_all rest) in
    let one : IsFrame t = one-lawful sender.form x x.content h.0.source h.0.said (omega (arith, size, few)) in
    let others : AreFrames rest = samples-lawful sender more h.1 (omega (arith, size, few)) in
    (omega (arith, size, one.0, others.0), (one.1, others.1))

-- ---- datagrams

address-lawful : (a : AgentAddress) → IsAddress a → IsLawful agent_address (address_tree a)
address-lawful unknown h = (omega arith, inl (refl, tt))
address-lawful (ipv4 bytes) h = (omega arith, inr (λ e. absurd (omega (arith, e)), inl (refl, h)))
address-lawful (ipv6 bytes) h =
    (omega arith, inr (λ e. absurd (omega (arith, e)), inr (λ e. absurd (omega (arith, e)), inl (refl, h))))

pub record IsReadable (sender : Sender) (d : Datagram) : Type 0 where
  pub few : length (sent_bytes sender d) ≤ 65535
  pub lawful : IsLawful datagram (sent_tree sender d)

pub readable : (sender : Sender) (d : Datagram) → IsSender sender → IsSoundDatagram sender d → IsReadable sender d
readable sender d s h =
    let room : length (sent_bytes sender d) ≤ sender.max_datagram =
    leb-true (length (sent_bytes sender d)) sender.max_datagram (sym (fits-whatever sender d) ∙ h.fits) in
    let few : length (sent_bytes sender d) ≤ 65535 = omega (arith, room, s.most) in
    let ts : Trees = sample_trees sender.form d.samples in
    let head : Head =
    record { agent = sender.agent; sub_agent = sender.sub_agent; sequence = d.number % 2 ^ 32; uptime = d.uptime } in
    let small : length (spell_all ts) ≤ 65535 =
    tail-fits (length (spell (address_tree sender.agent))) (length (spell_all ts)) (length (sent_bytes sender d)) 65535
    (datagram-size head ts) few in
    let frames : AreFrames ts = samples-lawful sender d.samples h.samples small in
    let members : IsLawful datagram_body (Tree.structure (
    address_tree sender.agent & Tree.word sender.sub_agent & Tree.word (d.number % 2 ^ 32) & Tree.word d.uptime &
    Tree.array ts & none)) = (
      address-lawful sender.agent s.agent,
      (
        s.sub_agent,
        (
          word-fits d.number,
          (
            h.uptime,
            ((omega (arith, frames.0, small), frames.1), tt),
          ),
        ),
      ),
    ) in
    record { few = few; lawful = (omega arith, inl (refl, members)) }
