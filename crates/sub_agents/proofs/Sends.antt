-- What a sub-agent stands for once it has sent.
use Rattle.std.proofs.Common.{◌≡◌, ℕ, ◌+◌, ◌%◌, ◌≤◌, Bool, List, [], ◌∷◌, ◌++◌, length, map, reverse, take, drop, refl, sym, ap, subst, ◌∙◌, arith, append_assoc, length-append, take_at, drop_at}
use Rattle.std.proofs.lemmas.List.{append-nil, reverse-reverse}
use Rattle.std.proofs.lemmas.List.Sums.{sum_by-cons}
use Rattle.std.specs.Prelude.{nat_le}
use Rattle.std.specs.List.{sum_by}
use Rattle.std.specs.declared.option.Option.{Option}
use Rattle.std.specs.declared.option.Option.TheVariants.{Some}
use Rattle.wire_spec.specs.Shapes.{Tree, Trees, ◌&◌}
use Rattle.wire_spec.specs.Heads.{datagram_tree}
use Rattle.wire_spec.specs.Spelling.{spell}
use Rattle.data_format.specs.Addresses.{address_of}
use Rattle.circular_buffer.specs.Buffer.{buffer}
use Rattle.agent_spec.specs.Samples.{Sample, Datagram, Setup}
use Rattle.agent_spec.specs.Spelled.{Sender, sample_trees, fits_in, sent_bytes}
use Rattle.agent_spec.specs.Events.{Send}
use Rattle.agent_spec.specs.Packing.{joined, longest, cut}
use Rattle.agent_spec.specs.Boots.{packed, with_sent}
use Rattle.agent_spec.proofs.Prefixes.{cut-joins}
use Rattle.agent_sampler.specs.Following as flows
use Rattle.agent_sampler.proofs.Follows as sampled
use Rattle.agent_poller.specs.Following as polls
use Rattle.agent_poller.specs.Polling.{PollerState}
use Rattle.agent_poller.proofs.Follows as polled
use Rattle.sub_agents.specs.declared.sources.FlowSource.{FlowSource}
use Rattle.sub_agents.specs.declared.staged.Staged.{Staged}
use Rattle.sub_agents.specs.Setups.{form_of, flow_source, counter_source}
use Rattle.sub_agents.specs.Staged.{values, staged_value, sample_value, datagram_bytes}
use Rattle.sub_agents.specs.Counts.{HasCounts, HasPolls}
use Rattle.sub_agents.specs.SubAgents.{SubAgentState, sender_of, BootSoFar, with_event, so_far, StandsFor, trees_fit}
use Rattle.agent_outlets.specs.Outlets.{PutView, Took}
use Rattle.sub_agents.specs.Outlets.{puts_behind, puts_of}
use Rattle.sub_agents.specs.Sent.{staged_values, next_size, next_put, moved, after_one}
use Rattle.sub_agents.proofs.Lists.{each-map}
use Rattle.sub_agents.proofs.Cuts.{cut-next, map-take, map-drop, map-length, cut-map}

-- ---- values and samples

values-are : (s : SubAgentState) (ys : List Sample)
    → sample_trees (form_of s.form) ys ≡ values (map (sample_value (form_of s.form)) ys)
values-are s [] = refl
values-are s (y ∷ more) = ap (λ (ts : Trees). sample_value (form_of s.form) y & ts) (values-are s more)

fits-are : (s : SubAgentState) (ys : List Sample)
    → fits_in (sender_of s) ys ≡ trees_fit s (map (sample_value (form_of s.form)) ys)
fits-are s ys =
    ap (λ (ts : Trees). nat_le (length (spell (datagram_tree
    (record { agent = address_of s.agent; sub_agent = s.sub_agent; sequence = 0; uptime = 0 }) ts))) s.max_datagram)
    (values-are s ys)

-- the datagrams of what is staged, as values
pub packed-are : (s : SubAgentState) (b : BootSoFar) → StandsFor s b
    → map (map (sample_value (form_of s.form))) (packed b.setup (so_far b)) ≡ cut (trees_fit s) (staged_values s)
packed-are s b h =
    let f : Sample → Tree = sample_value (form_of s.form) in
    let samples : List Sample = reverse (so_far b).staged in
    let same : b.setup.fits ≡ (λ (ys : List Sample). trees_fit s (map f ys)) =
    sym (ap (λ (k : Setup). k.fits) h.setup) ∙ (λ i ys. fits-are s ys i) in
    ap (λ (fits : List Sample → Bool). map (map f) (cut fits samples)) same
    ∙ cut-map f (trees_fit s) samples
    ∙ ap (cut (trees_fit s)) (sym h.counts.staged)

-- ---- puts

abbrev pub put_of : SubAgentState → ℕ → ℕ → List Tree → PutView
put_of s uptime count d = record {
  boot = s.boot;
  number = 1 + count;
  bytes = datagram_bytes
      (record { agent = address_of s.agent; sub_agent = s.sub_agent; sequence = (s.first + count) % 4294967296; uptime = uptime }) d;
}

abbrev pub tree_puts : SubAgentState → ℕ → ℕ → List (List Tree) → List PutView
tree_puts s uptime count [] = []
tree_puts s uptime count (d ∷ more) = put_of s uptime count d ∷ tree_puts s uptime (1 + count) more

puts-last : (s : SubAgentState) (uptime count : ℕ) (ds : List (List Tree)) (d : List Tree) (n : ℕ) → n ≡ count + length ds
    → tree_puts s uptime count (ds ++ d ∷ []) ≡ tree_puts s uptime count ds ++ put_of s uptime n d ∷ []
puts-last s uptime count [] d n e =
    let same : count ≡ n = omega (arith, e) in
    ap (λ (k : ℕ). put_of s uptime k d ∷ []) same
puts-last s uptime count (c ∷ more) d n e =
    ap (λ (ps : List PutView). put_of s uptime count c ∷ ps) (puts-last s uptime (1 + count) more d n (omega (arith, e)))

puts-are : (s : SubAgentState) (b : BootSoFar) → StandsFor s b → (uptime count : ℕ) (ds : List (List Sample))
    → puts_behind b uptime count ds ≡ tree_puts s uptime count (map (map (sample_value (form_of s.form))) ds)
puts-are s b h uptime count [] = refl
puts-are s b h uptime count (d ∷ more) =
    let first : b.setup.first ≡ s.first = sym (ap (λ (k : Setup). k.first) h.setup) in
    let bytes : sent_bytes b.sender (record { number = b.setup.first + count; uptime = uptime; samples = d })
    ≡ (put_of s uptime count (map (sample_value (form_of s.form)) d)).bytes =
    ap (λ (k : Sender). sent_bytes k (record { number = b.setup.first + count; uptime = uptime; samples = d })) (sym h.sender)
    ∙ ap (λ (n : ℕ). sent_bytes (sender_of s) (record { number = n + count; uptime = uptime; samples = d })) first
    ∙ ap (λ (ts : Trees). spell (datagram_tree (record { agent = address_of s.agent; sub_agent = s.sub_agent; sequence = (s.first + count) % 4294967296; uptime = uptime }) ts))
    (values-are s d) in
    let number : b.number ≡ s.boot = sym h.number in
    ap (λ (ps : List PutView). record { boot = b.number; number = 1 + count; bytes = sent_bytes b.sender (record { number = b.setup.first + count; uptime = uptime; samples = d }) } ∷ ps)
    (puts-are s b h uptime (1 + count) more)
    ∙ (λ i. record { boot = number i; number = 1 + count; bytes = bytes i }
    ∷ tree_puts s uptime (1 + count) (map (map (sample_value (form_of s.form))) more))

pub took-more : (old mid new : Option (List PutView)) (xs ys : List PutView) → Took old mid xs → Took mid new ys
    → Took old new (xs ++ ys)
took-more old mid new xs ys first second = λ before e.
    second (before ++ xs) (first before e)
    ∙ ap (λ (l : List PutView). Some l) (append_assoc before xs ys)

pub took-none : (old : Option (List PutView)) → Took old old []
took-none old = λ before e. e ∙ ap (λ (l : List PutView). Some l) (sym (append-nil before))

-- ---- while it sends

-- these datagrams have left
pub record HasLeft (start now : SubAgentState) (done : List (List Tree)) : Type 0 where
  pub same : now ≡ moved start (buffer now.stage.items start.stage.capacity) (start.numbered + length done)
  pub parts : cut (trees_fit start) (staged_values start)
      ≡ done ++ cut (trees_fit start) (map (staged_value start.form) now.stage.items)

-- and the outlet took them
pub record IsSending (start now : SubAgentState) (old new : Option (List PutView)) (uptime count : ℕ) : Type 0 where
  pub done : List (List Tree)
  pub counted : length done ≡ count
  pub left : HasLeft start now done
  pub took : Took old new (tree_puts start uptime start.numbered done)

pub sending-start : (s : SubAgentState) (old : Option (List PutView)) (uptime : ℕ) → IsSending s s old old uptime 0
sending-start s old uptime =
    let e : s.numbered ≡ s.numbered + 0 = omega arith in
    record {
      done = [];
      counted = refl;
      left = record { same = λ i. moved s s.stage (e i); parts = refl };
      took = took-none old;
    }

-- a sub-agent whose next datagram has left
abbrev pub next_values : SubAgentState → List Tree
next_values s = take (next_size s) (staged_values s)

pub left-step : (start s : SubAgentState) (done : List (List Tree)) → HasLeft start s done → 1 ≤ length s.stage.items
    → HasLeft start (after_one s) (done ++ next_values s ∷ [])
left-step start s done h some =
    let items : List Staged = s.stage.items in
    let mid : SubAgentState = moved start (buffer items start.stage.capacity) (start.numbered + length done) in
    let n : ℕ = next_size mid in
    let trees : List Tree = map (staged_value start.form) items in
    let size : length trees ≡ length items = map-length (staged_value start.form) items in
    let at : n ≡ longest (trees_fit start) trees (length trees) = ap (longest (trees_fit start) trees) (sym size) in
    let next : cut (trees_fit start) trees ≡ take n trees ∷ cut (trees_fit start) (drop n trees) =
    cut-next (trees_fit start) trees (omega (arith, some, size))
    ∙ ap (λ (k : ℕ). take k trees ∷ cut (trees_fit start) (drop k trees)) (sym at) in
    let numbers : 1 + (start.numbered + length done) ≡ start.numbered + length (done ++ take n trees ∷ []) =
    omega (arith, length-append done (take n trees ∷ [])) in
    let one : HasLeft start (after_one mid) (done ++ next_values mid ∷ []) = record {
      same = λ i. moved start (buffer (drop n items) start.stage.capacity) (numbers i);
      parts = h.parts ∙ ap (λ (ds : List (List Tree)). done ++ ds) next
          ∙ sym (append_assoc done (take n trees ∷ []) (cut (trees_fit start) (drop n trees)))
          ∙ ap (λ (l : List Tree). (done ++ take n trees ∷ []) ++ cut (trees_fit start) l)
          (sym (map-drop (staged_value start.form) n items));
    } in
    subst (λ (x : SubAgentState). HasLeft start (after_one x) (done ++ next_values x ∷ [])) (sym h.same) one

put-same : (start s : SubAgentState) (uptime : ℕ) (done : List (List Tree)) → HasLeft start s done
    → next_put s uptime ≡ put_of start uptime (start.numbered + length done) (next_values s)
put-same start s uptime done h =
    subst (λ (x : SubAgentState). next_put x uptime ≡ put_of start uptime (start.numbered + length done) (next_values x))
    (sym h.same) refl

pub numbers-less : (start s : SubAgentState) (done : List (List Tree)) → HasLeft start s done
    → s.numbered ≡ start.numbered + length done
numbers-less start s done h = ap (λ (x : SubAgentState). x.numbered) h.same

pub sending-step : (start s : SubAgentState) (old mid new : Option (List PutView)) (uptime count : ℕ)
    → IsSending start s old mid uptime count → 1 ≤ length s.stage.items → Took mid new (next_put s uptime ∷ [])
    → IsSending start (after_one s) old new uptime (count + 1)
sending-step start s old mid new uptime count h some took =
    let d : List Tree = next_values s in
    let puts : tree_puts start uptime start.numbered h.done ++ next_put s uptime ∷ []
    ≡ tree_puts start uptime start.numbered (h.done ++ d ∷ []) =
    ap (λ (p : PutView). tree_puts start uptime start.numbered h.done ++ p ∷ []) (put-same start s uptime h.done h.left)
    ∙ sym (puts-last start uptime start.numbered h.done d (start.numbered + length h.done) refl) in
    record {
      done = h.done ++ d ∷ [];
      counted = length-append h.done (d ∷ []) ∙ ap (λ (k : ℕ). k + 1) h.counted;
      left = left-step start s h.done h.left some;
      took = subst (λ (ps : List PutView). Took old new ps) puts
          (took-more old mid new (tree_puts start uptime start.numbered h.done) (next_put s uptime ∷ []) h.took took);
    }

-- ---- what it stands for then

sum-lengths : (ds : List (List Sample)) (f : Sample → Tree) → sum_by length ds ≡ length (joined (map (map f) ds))
sum-lengths [] f = refl
sum-lengths (d ∷ more) f = omega (
  arith,
  sum_by-cons length d more,
  sum-lengths more f,
  length-append (map f d) (joined (map (map f) more)),
  map-length f d,
)

joined-append : {X : Type 0} (first then_on : List (List X)) → joined (first ++ then_on) ≡ joined first ++ joined then_on
joined-append [] then_on = refl
joined-append (a ∷ more) then_on =
    ap (λ l. a ++ l) (joined-append more then_on) ∙ sym (append_assoc a (joined more) (joined then_on))

sent-length : (first now : ℕ) (ds : List (List Sample)) (sent : List Datagram)
    → length (with_sent first now ds sent) ≡ length sent + length ds
sent-length first now [] sent = omega arith
sent-length first now (d ∷ more) sent = omega (
  arith,
  sent-length first now more (record { number = first + length sent; uptime = now; samples = d } ∷ sent),
)

module _ (start now : SubAgentState) (b : BootSoFar) (done : List (List Tree)) (h : StandsFor start b)
    (l : HasLeft start now done) where
  abbrev count : ℕ
  count = length done

  abbrev f : Sample → Tree
  f = sample_value (form_of start.form)

  abbrev all : List (List Sample)
  all = packed b.setup (so_far b)

  abbrev rest : List (List Tree)
  rest = cut (trees_fit start) (map (staged_value start.form) now.stage.items)

  parts-are : map (map f) all ≡ done ++ rest
  parts-are = packed-are start b h ∙ l.parts

  pub no-more : count ≤ length all
  no-more = omega (
    arith,
    map-length (map f) all,
    ap length parts-are,
    length-append done rest,
  )

  pub all-sent : now.stage.items ≡ [] → count ≡ length all
  all-sent e =
      let none : length rest ≡ 0 = ap (λ xs. length (cut (trees_fit start) (map (staged_value start.form) xs))) e in
      omega (
        arith,
        none,
        map-length (map f) all,
        ap length parts-are,
        length-append done rest,
      )

  first-are : map (map f) (take count all) ≡ done
  first-are = map-take (map f) count all ∙ ap (take count) parts-are ∙ take_at done rest count refl

  pub puts-of : (uptime : ℕ) → tree_puts start uptime start.numbered done ≡ puts_of b uptime count
  puts-of uptime =
      ap (tree_puts start uptime start.numbered) (sym first-are)
      ∙ sym (puts-are start b h uptime start.numbered (take count all))
      ∙ ap (λ (k : ℕ). puts_behind b uptime k (take count all)) h.counts.numbered

  left-are : map (staged_value start.form) now.stage.items
      ≡ map f (drop (sum_by length (take count all)) (reverse (so_far b).staged))
  left-are =
      let m : ℕ = sum_by length (take count all) in
      let trees : List Tree = map (staged_value start.form) now.stage.items in
      let size : m ≡ length (joined done) =
      sum-lengths (take count all) f ∙ ap (λ (ds : List (List Tree)). length (joined ds)) first-are in
      let whole : staged_values start ≡ joined done ++ trees =
      sym (cut-joins (trees_fit start) (staged_values start)) ∙ ap joined l.parts
      ∙ joined-append done rest ∙ ap (λ (ts : List Tree). joined done ++ ts) (cut-joins (trees_fit start) trees) in
      sym (map-drop f m (reverse (so_far b).staged)
      ∙ ap (drop m) (sym h.counts.staged ∙ whole)
      ∙ drop_at (joined done) trees m (sym size))

  pub sent : (uptime : ℕ) → StandsFor now (with_event (Send uptime count) b)
  sent uptime =
      let left : List Sample = drop (sum_by length (take count all)) (reverse (so_far b).staged) in
      let P : FlowSource → Type 0 = λ z. HasCounts (flows.counts_after b.setup (flow_source z.source) b.events) z in
      let Q : FlowSource → Type 0 = λ z. HasCounts (flows.counts_after b.setup (flow_source z.source) (Send uptime count ∷ b.events)) z in
      let R : PollerState → Type 0 = λ z. HasPolls (polls.counts_after b.setup (counter_source z.source) b.events) z in
      let S : PollerState → Type 0 = λ z. HasPolls (polls.counts_after b.setup (counter_source z.source) (Send uptime count ∷ b.events)) z in
      let one : StandsFor (moved start (buffer now.stage.items start.stage.capacity) (start.numbered + count))
      (with_event (Send uptime count) b) = record {
        sender = h.sender;
        setup = h.setup;
        number = h.number;
        lawful = (no-more, h.lawful);
        counts = record {
          flows = each-map P Q start.flows (λ z c. subst (λ (k : flows.FlowCounts). HasCounts k z)
              (sym (sampled.send-counts b.setup (flow_source z.source) uptime count b.events)) c) h.counts.flows;
          pollers = each-map R S start.pollers (λ z c. subst (λ (k : polls.PollCounts). HasPolls k z)
              (sym (polled.send-counts b.setup (counter_source z.source) uptime count b.events)) c) h.counts.pollers;
          staged = left-are ∙ ap (map f) (sym (reverse-reverse left));
          numbered = omega (
            arith,
            h.counts.numbered,
            sent-length b.setup.first uptime (take count all) (so_far b).sent,
            map-length (map f) (take count all),
            ap length first-are,
          );
        };
      } in
      subst (λ (x : SubAgentState). StandsFor x (with_event (Send uptime count) b)) (sym l.same) one
