-- What was issued is staged or was sent, each sample once and in order; and datagrams count up.
use Rattle.std.proofs.Common.{◌≡◌, ℕ, zero, suc, ◌+◌, Bool, true, false, cond, List, [], ◌∷◌, ◌++◌, length, reverse, take, drop, refl, ◌∙◌, ap, sym, append_assoc}
use Rattle.std.proofs.lemmas.List.{drop_at, reverse-append, reverse-reverse, length-append}
use Rattle.std.proofs.lemmas.List.Sums.{sum_by-cons}
use Rattle.std.specs.Prelude.{nat_lt}
use Rattle.std.specs.List.{sum_by}
use Rattle.wire_spec.specs.Shapes.{Tree}
use Rattle.agent_spec.specs.Sources.{Turn, FlowSetup, CounterSetup}
use Rattle.agent_spec.specs.Samples.{Packet, Sample, Datagram, Setup}
use Rattle.agent_spec.specs.Events.{Event, Observe, Poll, Send, Reset, turn_after}
use Rattle.agent_spec.specs.Marks.{is_marked}
use Rattle.agent_spec.specs.Packing.{joined}
use Rattle.agent_spec.specs.Boots.{Boot, seen_in, issue, flow_sample, with_seen, with_dropped, after_packet, due_sources, counter_sample, with_polled, after_poll, packed, with_sent, happened}
use Rattle.agent_spec.specs.Sending.{samples_sent, AreCountedFrom}
use Rattle.agent_spec.proofs.Prefixes.{cut-joins}

length-joined : (ds : List (List Sample)) → length (joined ds) ≡ sum_by length ds
length-joined [] = refl
length-joined (d ∷ more) = length-append d (joined more) ∙ ap (λ (n : ℕ). length d + n) (length-joined more)
    ∙ sym (sum_by-cons length d more)

joined-parts : (n : ℕ) (ds : List (List Sample)) → joined (take n ds) ++ joined (drop n ds) ≡ joined ds
joined-parts zero ds = refl
joined-parts (suc n) [] = refl
joined-parts (suc n) (d ∷ more) = append_assoc d (joined (take n more)) (joined (drop n more))
    ∙ ap (λ (r : List Sample). d ++ r) (joined-parts n more)

-- the samples of further datagrams come before those sent
with_sent-samples : (first now : ℕ) (ds : List (List Sample)) (sent : List Datagram)
    → samples_sent (with_sent first now ds sent) ≡ reverse (joined ds) ++ samples_sent sent
with_sent-samples first now [] sent = refl
with_sent-samples first now (d ∷ more) sent =
    with_sent-samples first now more (record { number = first + length sent; uptime = now; samples = d } ∷ sent)
    ∙ sym (ap (λ (r : List Sample). r ++ samples_sent sent) (reverse-append d (joined more))
    ∙ append_assoc (reverse (joined more)) (reverse d) (samples_sent sent))

-- the first datagrams leave, and the rest stays
leaving : (staged : List Sample) (ds : List (List Sample)) (n : ℕ) (sent : List Sample) → joined ds ≡ reverse staged
    → reverse (drop (sum_by length (take n ds)) (reverse staged)) ++ (reverse (joined (take n ds)) ++ sent)
    ≡ staged ++ sent
leaving staged ds n sent e =
    let whole : reverse staged ≡ joined (take n ds) ++ joined (drop n ds) = sym (joined-parts n ds ∙ e) in
    let rest : drop (sum_by length (take n ds)) (reverse staged) ≡ joined (drop n ds) =
    ap (drop (sum_by length (take n ds))) whole
    ∙ drop_at (joined (take n ds)) (joined (drop n ds)) (sum_by length (take n ds)) (length-joined (take n ds)) in
    let back : staged ≡ reverse (joined (drop n ds)) ++ reverse (joined (take n ds)) =
    sym (reverse-reverse staged) ∙ ap reverse whole ∙ reverse-append (joined (take n ds)) (joined (drop n ds)) in
    ap (λ (r : List Sample). reverse r ++ (reverse (joined (take n ds)) ++ sent)) rest
    ∙ sym (append_assoc (reverse (joined (drop n ds))) (reverse (joined (take n ds))) sent)
    ∙ ap (λ (r : List Sample). r ++ sent) (sym back)

abbrev IsWhole : Boot → Type 0
IsWhole b = b.issued ≡ b.staged ++ samples_sent b.sent

observed : (s : Setup) (f : FlowSetup) (own : Turn) (packet : Packet) (b : Boot) → IsWhole b
    → IsWhole (after_packet s f own packet b)
observed s f own packet b h = go (is_marked f.skips (1 + seen_in own b)) (nat_lt (length b.staged) s.stage)
  where
    go : (m r : Bool) → IsWhole (with_seen own (cond m
        (cond r (issue (flow_sample f own packet b) b) (with_dropped own b)) b))
    go true true = ap (λ (l : List Sample). flow_sample f own packet b ∷ l) h
    go true false = h
    go false r = h

polled : (now : ℕ) (before : List Event) (due : List CounterSetup) (readings : List Tree) (b : Boot) → IsWhole b
    → IsWhole (after_poll now before due readings b)
polled now before [] readings b h = h
polled now before (c ∷ due) [] b h = h
polled now before (c ∷ due) (reading ∷ more) b h =
    let own : Turn = turn_after c.source before in
    let x : Sample = counter_sample c own reading b in
    polled now before due more (with_polled own now (issue x b)) (ap (λ (l : List Sample). x ∷ l) h)

pub whole : (s : Setup) (events : List Event) → IsWhole (happened s events)
whole s [] = refl
whole s (Observe f packet ∷ before) =
    observed s f (turn_after f.source before) packet (happened s before) (whole s before)
whole s (Poll now readings ∷ before) =
    let b : Boot = happened s before in
    polled now before (due_sources s now before b) readings b (whole s before)
whole s (Send now count ∷ before) =
    let b : Boot = happened s before in
    let ds : List (List Sample) = packed s b in
    whole s before
    ∙ sym (ap (λ (r : List Sample). reverse (drop (sum_by length (take count ds)) (reverse b.staged)) ++ r)
    (with_sent-samples s.first now (take count ds) b.sent)
    ∙ leaving b.staged ds count (samples_sent b.sent) (cut-joins s.fits (reverse b.staged)))
whole s (Reset source ∷ before) = whole s before

-- ---- numbers

counted-more : (first now : ℕ) (ds : List (List Sample)) (sent : List Datagram) → AreCountedFrom first sent
    → AreCountedFrom first (with_sent first now ds sent)
counted-more first now [] sent h = h
counted-more first now (d ∷ more) sent h =
    counted-more first now more (record { number = first + length sent; uptime = now; samples = d } ∷ sent) (refl, h)

polled-sent : (now : ℕ) (before : List Event) (due : List CounterSetup) (readings : List Tree) (b : Boot)
    → (after_poll now before due readings b).sent ≡ b.sent
polled-sent now before [] readings b = refl
polled-sent now before (c ∷ due) [] b = refl
polled-sent now before (c ∷ due) (reading ∷ more) b =
    let own : Turn = turn_after c.source before in
    polled-sent now before due more (with_polled own now (issue (counter_sample c own reading b) b))

observed-sent : (s : Setup) (f : FlowSetup) (own : Turn) (packet : Packet) (b : Boot)
    → (after_packet s f own packet b).sent ≡ b.sent
observed-sent s f own packet b = go (is_marked f.skips (1 + seen_in own b)) (nat_lt (length b.staged) s.stage)
  where
    go : (m r : Bool) → (with_seen own (cond m
        (cond r (issue (flow_sample f own packet b) b) (with_dropped own b)) b)).sent ≡ b.sent
    go true true = refl
    go true false = refl
    go false r = refl

pub counted : (s : Setup) (events : List Event) → AreCountedFrom s.first (happened s events).sent
counted s [] = tt
counted s (Observe f packet ∷ before) =
    rw (observed-sent s f (turn_after f.source before) packet (happened s before)) (counted s before)
counted s (Poll now readings ∷ before) =
    rw (polled-sent now before (due_sources s now before (happened s before)) readings (happened s before))
    (counted s before)
counted s (Send now count ∷ before) =
    counted-more s.first now (take count (packed s (happened s before))) (happened s before).sent (counted s before)
counted s (Reset source ∷ before) = counted s before
