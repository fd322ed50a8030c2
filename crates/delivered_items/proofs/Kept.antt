-- What holds of the samples and datagrams of a boot: each sample is of a source that was set up, and has room in a
-- datagram of its own, and each datagram has room for its samples.
use Rattle.std.proofs.Common.{◌≡◌, ℕ, ◌+◌, ◌<◌, ◌^◌, Bool, true, false, cond, List, [], ◌∷◌, length, reverse, take, drop, refl, sym, ap, subst, ◌∙◌}
use Rattle.std.specs.Prelude.{nat_le, nat_lt}
use Rattle.std.specs.List.{AllByRecursion, sum_by}
use Rattle.wire_spec.specs.Shapes.{Tree, none, ◌&◌}
use Rattle.wire_spec.specs.Spelling.{spell, spell_all, IsLawful}
use Rattle.wire_spec.specs.Tables.{interface_counters}
use Rattle.wire_spec.specs.Heads.{Head, address_tree}
use Rattle.agent_spec.specs.Sources.{Source, Turn, FlowSetup, CounterSetup}
use Rattle.agent_spec.specs.Samples.{Packet, Content, Sampled, Counted, Sample, Datagram, Setup}
use Rattle.agent_spec.specs.Events.{Event, Observe, Poll, Send, Reset, turn_after}
use Rattle.agent_spec.specs.Marks.{is_marked}
use Rattle.agent_spec.specs.Packing.{cut}
use Rattle.agent_spec.specs.Boots.{Boot, seen_in, issue, flow_sample, with_seen, with_dropped, after_packet, is_due, due_sources, counter_sample, with_polled, after_poll, packed, with_sent, happened, MayHappen}
use Rattle.agent_spec.specs.Spelled.{Form, Compact, Expanded, Sender, sample_tree, sample_trees, fits_in}
use Rattle.agent_spec.proofs.Lists.{all-filter, all-imply}
use Rattle.agent_spec.proofs.Prefixes.{cut-joins, cut-fits}
use Rattle.agent_spec.proofs.Sized.{datagram-size}
use Rattle.delivered_items.specs.Accepted.{IsSourceIn, IsFlowSetup, alone, IsPacketIn, IsObserved, IsPolled, IsTaken}
use Rattle.delivered_items.proofs.Lists.{all-reverse, all-drop, all-take, all-among, all-parts, all-both}

-- ---- one size

-- samples of one content have one size, whatever their sources, numbers and counts
one-size : (form : Form) (s t : Source) (x y : Sample) (c : Content)
    → length (spell_all (sample_tree form s x c & none)) ≡ length (spell_all (sample_tree form t y c & none))
one-size Compact s t x y (Sampled p) = refl
one-size Compact s t x y (Counted reading) = refl
one-size Expanded s t x y (Sampled p) = refl
one-size Expanded s t x y (Counted reading) = refl

pub fits-alone : (sender : Sender) (x y : Sample) → x.content ≡ y.content → fits_in sender (x ∷ []) ≡ fits_in sender (y ∷ [])
fits-alone sender x y e =
    let h : Head = record { agent = sender.agent; sub_agent = sender.sub_agent; sequence = 0; uptime = 0 } in
    let form : Form = sender.form in
    let one : length (spell_all (sample_trees form (x ∷ []))) ≡ length (spell_all (sample_trees form (y ∷ []))) =
    ap (λ (c : Content). length (spell_all (sample_tree form x.turn.source x c & none))) e
    ∙ one-size form x.turn.source y.turn.source x y y.content in
    let front : ℕ = 20 + length (spell (address_tree sender.agent)) in
    ap (λ (n : ℕ). nat_le n sender.max_datagram)
    (datagram-size h (sample_trees form (x ∷ []))
    ∙ ap (λ (n : ℕ). front + n) one
    ∙ sym (datagram-size h (sample_trees form (y ∷ []))))

-- ---- samples

-- what a sample says fits its words
abbrev pub IsSaid : Form → Sample → Content → Type 0
IsSaid form s (Sampled p) = (s.turn.source.flow ≡ true) × (s.rate < 2 ^ 32) × IsPacketIn form p
IsSaid form s (Counted reading) = (s.turn.source.flow ≡ false) × (s.pool ≡ 0) × (s.drops ≡ 0) × (s.rate ≡ 0)
    × IsLawful interface_counters reading

pub record IsSound (sender : Sender) (s : Sample) : Type 0 where
  pub source : IsSourceIn sender.form s.turn.source
  pub said : IsSaid sender.form s s.content
  pub alone_fits : fits_in sender (s ∷ []) ≡ true

pub record IsSoundDatagram (sender : Sender) (d : Datagram) : Type 0 where
  pub uptime : d.uptime < 2 ^ 32
  pub samples : AllByRecursion (IsSound sender) d.samples
  pub fits : fits_in sender d.samples ≡ true

pub record IsSoundBoot (sender : Sender) (b : Boot) : Type 0 where
  pub staged : AllByRecursion (IsSound sender) b.staged
  pub sent : AllByRecursion (IsSoundDatagram sender) b.sent

-- flow samples are taken of some sources, and counters samples of others
pub record AreSources (sender : Sender) (s : Setup) : Type 0 where
  pub fits : (samples : List Sample) → s.fits samples ≡ fits_in sender samples
  pub flows : AllByRecursion (λ (f : FlowSetup). (f.source.flow ≡ true) × IsFlowSetup sender.form f) s.flows
  pub counters : AllByRecursion (λ (c : CounterSetup). (c.source.flow ≡ false) × IsSourceIn sender.form c.source) s.counters

module _ (sender : Sender) (s : Setup) (ok : AreSources sender s) where
  flow-sound : (f : FlowSetup) (own : Turn) (packet : Packet) (b : Boot) → own.source ≡ f.source
      → (f.source.flow ≡ true) × IsFlowSetup sender.form f → IsObserved sender f.source packet
      → IsSound sender (flow_sample f own packet b)
  flow-sound f own packet b e h o = record {
    source = subst (IsSourceIn sender.form) (sym e) h.1.source;
    said = (ap (λ (k : Source). k.flow) e ∙ h.0, h.1.rate, o.packet);
    alone_fits = fits-alone sender (flow_sample f own packet b) (alone f.source (Sampled packet)) refl ∙ o.fits;
  }

  observed : (f : FlowSetup) (own : Turn) (packet : Packet) (b : Boot) → IsSound sender (flow_sample f own packet b)
      → IsSoundBoot sender b → IsSoundBoot sender (after_packet s f own packet b)
  observed f own packet b x h = go (is_marked f.skips (1 + seen_in own b)) (nat_lt (length b.staged) s.stage)
    where
      go : (m r : Bool) → IsSoundBoot sender (with_seen own (cond m
          (cond r (issue (flow_sample f own packet b) b) (with_dropped own b)) b))
      go true true = record { staged = (x, h.staged); sent = h.sent }
      go true false = record { staged = h.staged; sent = h.sent }
      go false r = record { staged = h.staged; sent = h.sent }

  counter-sound : (c : CounterSetup) (own : Turn) (reading : Tree) (b : Boot) → own.source ≡ c.source
      → (c.source.flow ≡ false) × IsSourceIn sender.form c.source → IsPolled sender reading
      → IsSound sender (counter_sample c own reading b)
  counter-sound c own reading b e h p = record {
    source = subst (IsSourceIn sender.form) (sym e) h.1;
    said = (ap (λ (k : Source). k.flow) e ∙ h.0, refl, refl, refl, p.lawful);
    alone_fits = fits-alone sender (counter_sample c own reading b) (alone c.source (Counted reading)) refl ∙ p.fits c.source;
  }

  polled : (now : ℕ) (before : List Event) (due : List CounterSetup) (readings : List Tree) (b : Boot)
      → AllByRecursion (λ (c : CounterSetup). (c.source.flow ≡ false) × IsSourceIn sender.form c.source) due
      → AllByRecursion (IsPolled sender) readings → IsSoundBoot sender b
      → IsSoundBoot sender (after_poll now before due readings b)
  polled now before [] readings b d r h = h
  polled now before (c ∷ due) [] b d r h = h
  polled now before (c ∷ due) (reading ∷ more) b d r h =
      let own : Turn = turn_after c.source before in
      polled now before due more (with_polled own now (issue (counter_sample c own reading b) b)) d.1 r.1
      (record { staged = (counter-sound c own reading b refl d.0 r.0, h.staged); sent = h.sent })

  -- ---- datagrams

  abbrev IsPart : List Sample → Type 0
  IsPart d = AllByRecursion (IsSound sender) d × (fits_in sender d ≡ true)

  sent-more : (now : ℕ) (ds : List (List Sample)) (sent : List Datagram) → now < 2 ^ 32 → AllByRecursion IsPart ds
      → AllByRecursion (IsSoundDatagram sender) sent → AllByRecursion (IsSoundDatagram sender) (with_sent s.first now ds sent)
  sent-more now [] sent n p h = h
  sent-more now (d ∷ more) sent n p h =
      sent-more now more (record { number = s.first + length sent; uptime = now; samples = d } ∷ sent) n p.1
      (record { uptime = n; samples = p.0.0; fits = p.0.1 }, h)

  parts : (items : List Sample) → AllByRecursion (IsSound sender) items → AllByRecursion IsPart (cut s.fits items)
  parts items h =
      all-both (AllByRecursion (IsSound sender)) (λ (d : List Sample). s.fits d ≡ true) IsPart
      (λ d a e. (a, sym (ok.fits d) ∙ e)) (cut s.fits items)
      (all-parts (IsSound sender) (cut s.fits items) (subst (AllByRecursion (IsSound sender)) (sym (cut-joins s.fits items)) h))
      (cut-fits s.fits items (all-imply (IsSound sender) (λ (x : Sample). s.fits (x ∷ []) ≡ true)
      (λ x k. ok.fits (x ∷ []) ∙ k.alone_fits) items h))

  pub sound : (events : List Event) → MayHappen s events → AllByRecursion (IsTaken sender) events
      → IsSoundBoot sender (happened s events)
  sound [] may t = record { staged = tt; sent = tt }
  sound (Observe f packet ∷ before) may t =
      let own : Turn = turn_after f.source before in
      let b : Boot = happened s before in
      observed f own packet b (flow-sound f own packet b refl
      (all-among (λ (g : FlowSetup). (g.source.flow ≡ true) × IsFlowSetup sender.form g) f s.flows may.0 ok.flows) t.0)
      (sound before may.1 t.1)
  sound (Poll now readings ∷ before) may t =
      let b : Boot = happened s before in
      polled now before (due_sources s now before b) readings b
      (all-filter (λ (c : CounterSetup). (c.source.flow ≡ false) × IsSourceIn sender.form c.source) (is_due now before b) s.counters ok.counters)
      t.0 (sound before may.2 t.1)
  sound (Send now count ∷ before) may t =
      let b : Boot = happened s before in
      let h : IsSoundBoot sender b = sound before may.1 t.1 in
      let items : List Sample = reverse b.staged in
      let leaving : List (List Sample) = take count (packed s b) in
      record {
        staged = all-reverse (IsSound sender) (drop (sum_by length leaving) items)
            (all-drop (IsSound sender) (sum_by length leaving) items (all-reverse (IsSound sender) b.staged h.staged));
        sent = sent-more now leaving b.sent t.0
            (all-take IsPart count (packed s b) (parts items (all-reverse (IsSound sender) b.staged h.staged))) h.sent;
      }
  sound (Reset source ∷ before) may t = sound before may.1 t.1
