-- What is kept once datagrams were sent.
use Rattle.std.proofs.Common.{◌≡◌, ◌∙◌, ℕ, suc, ◌+◌, ◌<◌, min, List, [], ◌∷◌, ◌++◌, length, map, reverse, take, drop, refl, sym, ap, subst, take_all, arith}
use Rattle.std.specs.List.{sum_by}
use Rattle.std.proofs.lemmas.List.{take_at, drop_at, drop-drop, reverse-reverse, length-reverse, length-append}
use Rattle.std.proofs.lemmas.List.Sums.{sum_by-cons}
use Rattle.agent_spec.specs.Sources.{Source, Turn, FlowSetup, CounterSetup}
use Rattle.agent_spec.specs.Samples.{Sample, Datagram, Setup}
use Rattle.agent_spec.specs.Events.{Event, Send, turn_after}
use Rattle.agent_spec.specs.Packing.{joined}
use Rattle.agent_spec.specs.Boots.{Boot, seen_in, issued_in, dropped_in, last_poll, packed, with_sent, happened, MayHappen}
use Rattle.agent_spec.specs.Spelled.{Sender, sent_bytes}
use Rattle.agent_spec.proofs.Prefixes.{cut-joins}
use Rattle.agent_spec.proofs.Stages.{never-full}
use Rattle.agent_spec.proofs.Turns.{turn-stays}
use Rattle.agent_outlets.specs.declared.list_outlet.Put.{Put}
use Rattle.true_samples.specs.declared.counts.FlowCounts.{FlowCounts}
use Rattle.true_samples.specs.declared.counts.CounterCounts.{CounterCounts}
use Rattle.true_samples.specs.Pairs.{Each}
use Rattle.true_samples.specs.States.{TrueState}
use Rattle.true_samples.specs.Counts.{flow_counts, counter_counts}
use Rattle.true_samples.specs.Samples.{IsIssued, IsSent}
use Rattle.true_samples.specs.Words.{HasAddress, count_in}
use Rattle.true_samples.specs.Sends.{datagrams_from, leaving, after_one, after_all, bytes_of, IsNext}
use Rattle.true_samples.specs.Moves.{datagram_at, with_datagram}
use Rattle.true_samples.specs.Standing.{IsOf, Follows, StandsFor}
use Rattle.true_samples.proofs.Lists.{each-length, each-next, each-take, each-drop, map-length}
use Rattle.true_samples.proofs.Words.{count-is}

-- ---- events that begin no generation

map-equal : {X Y : Type 0} (f g : X → Y) (xs : List X) → ((x : X) → f x ≡ g x) → map f xs ≡ map g xs
map-equal f g [] to = refl
map-equal f g (x ∷ xs) to = λ i. to x i ∷ map-equal f g xs to i

abbrev flow_at : Boot → FlowSetup → Turn → FlowCounts
flow_at b f turn = record {
  first = f.first;
  pool = f.pool;
  drops = f.drops;
  generation = turn.generation;
  packets = seen_in turn b;
  issued = issued_in turn b;
  dropped = dropped_in turn b;
}

abbrev counter_at : Boot → CounterSetup → Turn → CounterCounts
counter_at b c turn = record {
  every = c.every;
  first = c.first;
  generation = turn.generation;
  issued = issued_in turn b;
  last = last_poll turn b.polled;
}

pub follows-on : (sender : Sender) (s : Setup) (t : TrueState) (e : Event) (events : List Event) (b : Boot)
    → ((source : Source) → turn_after source (e ∷ events) ≡ turn_after source events) → Follows sender s t events b
    → Follows sender s t (e ∷ events) b
follows-on sender s t e events b same h = record {
  flows_are = h.flows_are ∙ map-equal (flow_counts events b) (flow_counts (e ∷ events) b) s.flows
      (λ f. ap (λ (turn : Turn). flow_at b f turn) (sym (same f.source)));
  counters_are = h.counters_are ∙ map-equal (counter_counts events b) (counter_counts (e ∷ events) b) s.counters
      (λ c. ap (λ (turn : Turn). counter_at b c turn) (sym (same c.source)));
  staged_are = h.staged_are;
  sent_are = h.sent_are;
  issued_is = h.issued_is;
  dropped_is = h.dropped_is;
}

-- ---- one datagram

module _ (sender : Sender) (s : Setup) (t : TrueState) (before : List Event) (b : Boot) (now : ℕ) (bytes : List ℕ) (d : Datagram)
    (has : HasAddress sender.agent) (o : IsOf s t) (h : Follows sender s t before b) (next : IsNext sender s now b bytes d) where
  size-is : min (count_in bytes) (length t.staged) ≡ length d.samples
  size-is =
      let count : count_in bytes ≡ length d.samples = ap count_in next.bytes_are ∙ count-is sender d has next.few in
      let many : length t.staged ≡ length b.staged =
      each-length (IsIssued s) t.staged (reverse b.staged) h.staged_are ∙ length-reverse b.staged in
      omega (arith, count, many, next.within)

  number-is : d.number ≡ t.first + length t.current.datagrams
  number-is =
      let many : length t.current.datagrams ≡ length b.sent =
      each-length (IsSent sender s) t.current.datagrams (reverse b.sent) h.sent_are ∙ length-reverse b.sent in
      omega (arith, many, next.number, o.first_is)

  follows-left : Follows sender s (datagram_at (length d.samples) now bytes t) before (after_one d b)
  follows-left = record {
    flows_are = h.flows_are;
    counters_are = h.counters_are;
    staged_are = subst (Each (IsIssued s) (drop (length d.samples) t.staged))
        (sym (reverse-reverse (drop (length d.samples) (reverse b.staged))))
        (each-drop (IsIssued s) (length d.samples) t.staged (reverse b.staged) h.staged_are);
    sent_are = each-next (IsSent sender s) t.current.datagrams b.sent _ d h.sent_are (record {
      number = number-is;
      uptime = next.uptime;
      samples = subst (Each (IsIssued s) (take (length d.samples) t.staged)) next.front
          (each-take (IsIssued s) (length d.samples) t.staged (reverse b.staged) h.staged_are);
      bytes = next.bytes_are;
    });
    issued_is = h.issued_is;
    dropped_is = h.dropped_is;
  }

  pub follows-one : Follows sender s (with_datagram now bytes t) before (after_one d b)
  follows-one = subst (λ (n : ℕ). Follows sender s (datagram_at n now bytes t) before (after_one d b)) (sym size-is) follows-left

  pub set-up-one : IsOf s (with_datagram now bytes t)
  set-up-one = record {
    lawful = o.lawful;
    first_is = o.first_is;
    flow_ids_are = o.flow_ids_are;
    counter_ids_are = o.counter_ids_are;
  }

-- ---- one after the other

-- these are left to be sent, and the boot ends so
pub record IsSending (sender : Sender) (s : Setup) (now : ℕ) (events : List Event) (final : Boot) (puts : List Put) (t : TrueState) : Type 0 where
  pub b : Boot
  pub rest : List (List Sample)
  pub set_up : IsOf s t
  pub follows : Follows sender s t events b
  pub staged : joined rest ≡ reverse b.staged
  pub few : length b.staged < 4294967296
  pub bytes : map bytes_of puts ≡ map (sent_bytes sender) (datagrams_from (s.first + length b.sent) now rest)
  pub ends : after_all (datagrams_from (s.first + length b.sent) now rest) b ≡ final

pub sending-start : (sender : Sender) (s : Setup) (now : ℕ) (events : List Event) (puts : List Put) (t : TrueState) → IsOf s t
    → Follows sender s t events (happened s events)
    → map bytes_of puts ≡ map (sent_bytes sender) (leaving s now (happened s events)) → s.stage < 4294967296
    → MayHappen s events
    → IsSending sender s now events (after_all (leaving s now (happened s events)) (happened s events)) puts t
sending-start sender s now events puts t o h bytes few may = record {
  b = happened s events;
  rest = packed s (happened s events);
  set_up = o;
  follows = h;
  staged = cut-joins s.fits (reverse (happened s events).staged);
  few = omega (arith, few, never-full s events may);
  bytes = bytes;
  ends = refl;
}

abbrev first_of : {X : Type 0} → X → List X → X
first_of x [] = x
first_of x (z ∷ more) = z

head-of : {X : Type 0} (x y : X) (xs ys : List X) → x ∷ xs ≡ y ∷ ys → x ≡ y
head-of {X} x y xs ys e = ap (first_of x) e

tail-of : {X : Type 0} (x y : X) (xs ys : List X) → x ∷ xs ≡ y ∷ ys → xs ≡ ys
tail-of {X} x y xs ys e = ap (drop 1) e

step-with : (sender : Sender) (s : Setup) (now : ℕ) (events : List Event) (final : Boot) (p : Put) (puts : List Put) (t : TrueState)
    (has : HasAddress sender.agent) (b : Boot) (rest : List (List Sample)) → IsOf s t → Follows sender s t events b
    → joined rest ≡ reverse b.staged → length b.staged < 4294967296
    → bytes_of p ∷ map bytes_of puts ≡ map (sent_bytes sender) (datagrams_from (s.first + length b.sent) now rest)
    → after_all (datagrams_from (s.first + length b.sent) now rest) b ≡ final
    → IsSending sender s now events final puts (with_datagram now (bytes_of p) t)
step-with sender s now events final p puts t has b [] o h staged few bytes ends = absurd cc
step-with sender s now events final p puts t has b (x ∷ more) o h staged few bytes ends =
    let number : ℕ = s.first + length b.sent in
    let d : Datagram = record { number = number; uptime = now; samples = x } in
    let whole : x ++ joined more ≡ reverse b.staged = staged in
    let front : take (length x) (reverse b.staged) ≡ x = ap (take (length x)) (sym whole) ∙ take_at x (joined more) (length x) refl in
    let size : length x + length (joined more) ≡ length b.staged =
    sym (length-append x (joined more)) ∙ ap length whole ∙ length-reverse b.staged in
    let behind : drop (length x) (reverse b.staged) ≡ joined more =
    ap (drop (length x)) (sym whole) ∙ drop_at x (joined more) (length x) refl in
    let then : Boot = after_one d b in
    let left : reverse then.staged ≡ joined more = reverse-reverse (drop (length x) (reverse b.staged)) ∙ behind in
    let next : IsNext sender s now b (bytes_of p) d = record {
      number = refl;
      uptime = refl;
      front = front;
      within = omega (arith, size);
      few = omega (arith, size, few);
      bytes_are = head-of (bytes_of p) (sent_bytes sender d) (map bytes_of puts)
          (map (sent_bytes sender) (datagrams_from (1 + number) now more)) bytes;
    } in
    let up : 1 + number ≡ s.first + length then.sent = omega arith in
    record {
      b = then;
      rest = more;
      set_up = set-up-one sender s t events b now (bytes_of p) d has o h next;
      follows = follows-one sender s t events b now (bytes_of p) d has o h next;
      staged = sym left;
      few = omega (arith, few, size, sym (length-reverse then.staged) ∙ ap length left);
      bytes = tail-of (bytes_of p) (sent_bytes sender d) (map bytes_of puts)
          (map (sent_bytes sender) (datagrams_from (1 + number) now more)) bytes
          ∙ ap (λ (n : ℕ). map (sent_bytes sender) (datagrams_from n now more)) up;
      ends = sym (ap (λ (n : ℕ). after_all (datagrams_from n now more) then) up) ∙ ends;
    }

pub sending-step : (sender : Sender) (s : Setup) (now : ℕ) (events : List Event) (final : Boot) (p : Put) (puts : List Put)
    (t : TrueState) → HasAddress sender.agent → IsSending sender s now events final (p ∷ puts) t
    → IsSending sender s now events final puts (with_datagram now (bytes_of p) t)
sending-step sender s now events final p puts t has h =
    step-with sender s now events final p puts t has h.b h.rest h.set_up h.follows h.staged h.few h.bytes h.ends

end-with : (sender : Sender) (s : Setup) (now : ℕ) (events : List Event) (final : Boot) (t : TrueState) (b : Boot)
    (rest : List (List Sample)) → Follows sender s t events b
    → [] ≡ map (sent_bytes sender) (datagrams_from (s.first + length b.sent) now rest)
    → after_all (datagrams_from (s.first + length b.sent) now rest) b ≡ final → Follows sender s t events final
end-with sender s now events final t b [] h bytes ends = subst (Follows sender s t events) ends h
end-with sender s now events final t b (x ∷ more) h bytes ends = absurd cc

pub sending-end : (sender : Sender) (s : Setup) (now : ℕ) (events : List Event) (final : Boot) (t : TrueState)
    → IsSending sender s now events final [] t → Follows sender s t events final
sending-end sender s now events final t h = end-with sender s now events final t h.b h.rest h.follows h.bytes h.ends

-- ---- the whole send

sent-all : (first now : ℕ) (xs : List (List Sample)) (b : Boot)
    → after_all (datagrams_from (first + length b.sent) now xs) b ≡ record b {
      staged = reverse (drop (sum_by length xs) (reverse b.staged));
      sent = with_sent first now xs b.sent;
    }
sent-all first now [] b = λ i. record b { staged = sym (reverse-reverse b.staged) i; sent = b.sent }
sent-all first now (x ∷ more) b =
    let d : Datagram = record { number = first + length b.sent; uptime = now; samples = x } in
    let then : Boot = after_one d b in
    let up : 1 + (first + length b.sent) ≡ first + length then.sent = omega arith in
    let staged : reverse (drop (sum_by length more) (reverse then.staged))
    ≡ reverse (drop (sum_by length (x ∷ more)) (reverse b.staged)) =
    ap (λ (l : List Sample). reverse (drop (sum_by length more) l)) (reverse-reverse (drop (length x) (reverse b.staged)))
    ∙ ap (λ (l : List Sample). reverse l) (drop-drop (sum_by length more) (length x) (reverse b.staged))
    ∙ ap (λ (n : ℕ). reverse (drop n (reverse b.staged))) (sym (sum_by-cons length x more)) in
    ap (λ (n : ℕ). after_all (datagrams_from n now more) then) up ∙ sent-all first now more then
    ∙ (λ i. record b { staged = staged i; sent = with_sent first now more (d ∷ b.sent) })

datagrams-length : (number now : ℕ) (xs : List (List Sample)) → length (datagrams_from number now xs) ≡ length xs
datagrams-length number now [] = refl
datagrams-length number now (x ∷ more) = ap suc (datagrams-length (1 + number) now more)

pub sent-is : (sender : Sender) (s : Setup) (now : ℕ) (events : List Event) (puts : List Put)
    → map bytes_of puts ≡ map (sent_bytes sender) (leaving s now (happened s events))
    → after_all (leaving s now (happened s events)) (happened s events) ≡ happened s (Send now (length puts) ∷ events)
sent-is sender s now events puts bytes =
    let b : Boot = happened s events in
    let number : ℕ = s.first + length b.sent in
    let many : length puts ≡ length (packed s b) =
    sym (map-length bytes_of puts) ∙ ap length bytes ∙ map-length (sent_bytes sender) (leaving s now b)
    ∙ datagrams-length number now (packed s b) in
    let all : packed s b ≡ take (length puts) (packed s b) = sym (take_all (length puts) (packed s b) (omega (arith, many))) in
    sent-all s.first now (packed s b) b
    ∙ (λ i. record b {
      staged = reverse (drop (sum_by length (all i)) (reverse b.staged));
      sent = with_sent s.first now (all i) b.sent;
    })

pub send-stands : (sender : Sender) (s : Setup) (t new : TrueState) (now : ℕ) (events : List Event) (earlier : List (List Event))
    (puts : List Put) → map bytes_of puts ≡ map (sent_bytes sender) (leaving s now (happened s events))
    → StandsFor sender s t events earlier → new.earlier ≡ t.earlier
    → IsSending sender s now events (after_all (leaving s now (happened s events)) (happened s events)) [] new
    → StandsFor sender s new (Send now (length puts) ∷ events) earlier
send-stands sender s t new now events earlier puts bytes st same h =
    let e : Event = Send now (length puts) in record {
      set_up = h.set_up;
      follows = follows-on sender s new e events (happened s (e ∷ events)) (λ source. turn-stays source e events refl)
          (subst (Follows sender s new events) (sent-is sender s now events puts bytes)
          (sending-end sender s now events (after_all (leaving s now (happened s events)) (happened s events)) new h));
      earlier_are = rw same st.earlier_are;
    }
