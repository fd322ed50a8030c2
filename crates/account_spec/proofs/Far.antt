-- What so many packets, each sampled and sent, come to.
use Rattle.std.proofs.Common.{◌≡◌, ℕ, zero, suc, ◌+◌, ◌%◌, ◌≤◌, inl, inr, Bool, true, cond, ◌||◌, List, [], ◌∷◌, length, arith, refl, sym, ap, subst, ◌∙◌}
use Rattle.std.specs.Prelude.{get_or}
use Rattle.std.specs.List.{count_by}
use Rattle.std.proofs.lemmas.Bool.{eq-eqb}
use Rattle.count_spec.proofs.Counts.{count_by-no}
use Rattle.agent_spec.specs.Sources.{Turn}
use Rattle.agent_spec.specs.Samples.{Sampled, Sample, Datagram, Setup}
use Rattle.agent_spec.specs.Events.{Observe, Send, is_reset_of, turn_after}
use Rattle.agent_spec.specs.Marks.{skip_number, sum_of_skips, is_sum_within, is_marked}
use Rattle.agent_spec.specs.Boots.{Boot, seen_in, issued_in, issue, flow_sample, with_seen, after_packet, after_send, packed, happened, IsAmong, MayHappen}
use Rattle.account_spec.specs.Histories.{IsHistory}
use Rattle.account_spec.specs.Deliveries.{AreSent}
use Rattle.account_spec.specs.Rows.{port, any_packet, plain, sub_agent, sample_sent, datagram_of}
use Rattle.account_spec.specs.FarRows.{rounds, many_sent, two_far_apart}

abbrev set_up : Setup
set_up = (sub_agent 0 1 plain []).setup

abbrev first_turn : Turn
first_turn = record { source = port; generation = 1 }

abbrev sample_at : ℕ → Sample
sample_at n = record { turn = first_turn; number = n; pool = n; drops = 0; rate = 1; content = Sampled any_packet }

-- what there is after so many
abbrev turns : ℕ → List Turn
turns zero = []
turns (suc n) = first_turn ∷ turns n

abbrev samples : ℕ → List Sample
samples zero = []
samples (suc n) = sample_at (suc n) ∷ samples n

abbrev datagrams : ℕ → List Datagram
datagrams zero = []
datagrams (suc n) = datagram_of (suc n) 500 1 (suc n) (suc n) 0 ∷ datagrams n

abbrev after : ℕ → Boot
after n = record { seen = turns n; issued = samples n; dropped = []; polled = []; staged = []; sent = datagrams n }

seen-count : (n : ℕ) → seen_in first_turn (after n) ≡ n
seen-count zero = refl
seen-count (suc n) = ap suc (seen-count n)

issued-count : (n : ℕ) → issued_in first_turn (after n) ≡ n
issued-count zero = refl
issued-count (suc n) = ap suc (issued-count n)

sent-count : (n : ℕ) → length (datagrams n) ≡ n
sent-count zero = refl
sent-count (suc n) = ap suc (sent-count n)

-- each packet is marked
one-each : (m : ℕ) → sum_of_skips (1 ∷ []) m ≡ m
one-each zero = refl
one-each (suc m) =
    let rest : m % 1 ≡ 0 = omega arith in
    let skip : skip_number (1 ∷ []) m ≡ 1 = ap (λ (k : ℕ). get_or (1 ∷ []) k 0) rest in
    let so_far = one-each m in
    omega (arith, skip, so_far)

marked : (n : ℕ) → is_marked (1 ∷ []) (suc n) ≡ true
marked n =
    ap (λ (b : Bool). b || is_sum_within (1 ∷ []) (suc n) n) (eq-eqb (sum_of_skips (1 ∷ []) (suc n)) (suc n) (one-each (suc n)))

rounds-step : (n : ℕ) → rounds (suc n) ≡ sample_sent plain 500 (rounds n)
unfolding rounds
rounds-step n = refl

rounds-none : rounds zero ≡ []
unfolding rounds
rounds-none = refl

no-resets : (n : ℕ) → count_by (is_reset_of port) (rounds n) ≡ 0
no-resets zero = ap (count_by (is_reset_of port)) rounds-none
no-resets (suc n) =
    ap (count_by (is_reset_of port)) (rounds-step n)
    ∙ count_by-no (is_reset_of port) (Send 500 1) (Observe plain any_packet ∷ rounds n) refl
    ∙ count_by-no (is_reset_of port) (Observe plain any_packet) (rounds n) refl
    ∙ no-resets n

turn-is : (n : ℕ) → turn_after port (rounds n) ≡ first_turn
turn-is n = ap (λ (k : ℕ). record { source = port; generation = 1 + k }) (no-resets n)

one-more : (k n : ℕ) → k ≡ n → 1 + k ≡ suc n
one-more k n e = omega arith

-- a packet, and a send
observed : (n : ℕ) → after_packet set_up plain first_turn any_packet (after n)
    ≡ with_seen first_turn (issue (sample_at (suc n)) (after n))
observed n =
    let seen = seen-count n in
    let mark : is_marked (1 ∷ []) (1 + seen_in first_turn (after n)) ≡ true =
    ap (is_marked (1 ∷ [])) (one-more (seen_in first_turn (after n)) n seen) ∙ marked n in
    let number : 1 + issued_in first_turn (after n) ≡ suc n = one-more (issued_in first_turn (after n)) n (issued-count n) in
    let pool : 0 + (1 + seen_in first_turn (after n)) ≡ suc n = omega (arith, seen) in
    ap (λ (b : Bool). with_seen first_turn (cond b (issue (flow_sample plain first_turn any_packet (after n)) (after n)) (after n))) mark
    ∙ (λ j. with_seen first_turn (issue (record {
      turn = first_turn;
      number = number j;
      pool = pool j;
      drops = 0;
      rate = 1;
      content = Sampled any_packet;
    }) (after n)))

step : (n : ℕ) → after_send set_up 500 1 (with_seen first_turn (issue (sample_at (suc n)) (after n))) ≡ after (suc n)
step n =
    let number : 1 + length (datagrams n) ≡ suc n = one-more (length (datagrams n)) n (sent-count n) in
    λ j. record {
      seen = turns (suc n);
      issued = samples (suc n);
      dropped = [];
      polled = [];
      staged = [];
      sent = record { number = number j; uptime = 500; samples = sample_at (suc n) ∷ [] } ∷ datagrams n;
    }

before-send : (n : ℕ) → happened set_up (rounds n) ≡ after n
    → happened set_up (Observe plain any_packet ∷ rounds n) ≡ with_seen first_turn (issue (sample_at (suc n)) (after n))
before-send n h =
    let t = turn-is n in
    (λ j. after_packet set_up plain (t j) any_packet (h j)) ∙ observed n

pub happened-are : (n : ℕ) → happened set_up (rounds n) ≡ after n
happened-are zero = ap (happened set_up) rounds-none
happened-are (suc n) =
    ap (happened set_up) (rounds-step n)
    ∙ ap (after_send set_up 500 1) (before-send n (happened-are n))
    ∙ step n

pub may-happen : (n : ℕ) → MayHappen set_up (rounds n)
may-happen zero = subst (MayHappen set_up) (sym rounds-none) tt
may-happen (suc n) =
    subst (MayHappen set_up) (sym (rounds-step n))
    (subst (λ (b : Boot). 1 ≤ length (packed set_up b)) (sym (before-send n (happened-are n))) (omega arith), (inl refl, may-happen n))

latest-there : (n : ℕ) → IsAmong (datagram_of (suc n) 500 1 (suc n) (suc n) 0) (datagrams (suc n))
latest-there n = inl refl

first-there : (n : ℕ) → IsAmong (datagram_of 1 500 1 1 1 0) (datagrams (suc n))
first-there zero = inl refl
first-there (suc n) = inr (first-there n)

pub latest-sent : (n : ℕ) → IsAmong (datagram_of (suc n) 500 1 (suc n) (suc n) 0) (happened set_up (rounds (suc n))).sent
latest-sent n =
    subst (λ (b : Boot). IsAmong (datagram_of (suc n) 500 1 (suc n) (suc n) 0) b.sent) (sym (happened-are (suc n))) (latest-there n)

pub first-sent : (n : ℕ) → IsAmong (datagram_of 1 500 1 1 1 0) (happened set_up (rounds (suc n))).sent
first-sent n = subst (λ (b : Boot). IsAmong (datagram_of 1 500 1 1 1 0) b.sent) (sym (happened-are (suc n))) (first-there n)

pub is-history : IsHistory many_sent
is-history = record {
  agents = (
    record {
      setup = record { flows = (refl, tt); counters = tt; flows_once = (refl, tt); counters_once = tt };
      boots = (may-happen 2147483649, tt);
    },
    tt,
  );
  once = (refl, tt);
}

pub are-sent : AreSent many_sent two_far_apart
are-sent = (latest-sent 2147483648, (first-sent 2147483648, tt))
