-- How a run goes on from arrival to arrival.
use Rattle.std.proofs.Common.{◌≡◌, ◌∙◌, ◌≢◌, ℕ, ◌+◌, ◌*◌, ◌%◌, ◌^◌, ◌<◌, ◌≤◌, List, [], ◌∷◌, Option, Some, None, refl, sym, ap, subst, arith}
use Rattle.std.proofs.Math.Nat.{mod-eq_of_lt}
use Rattle.std.proofs.lemmas.Nat.{mod_below}
use Rattle.std.proofs.lemmas.Bool.{ne_eqb}
use Rattle.agent_spec.specs.Samples.{Datagram}
use Rattle.account_spec.specs.Deliveries.{Delivery}
use Rattle.trial_spec.specs.Made.{Made, Sent, arrives, times_of, boot_number, next_state, drawn}
use Rattle.made_runs.specs.declared.arrivals.Arrival.{Arrival}
use Rattle.made_runs.specs.Runs.{RunState, Naming, StandsFor, IsShort, Goes, Adds, with_some, arrived_once, after_arrival, arrival_at}

-- no word of 64 bits wraps in a short run
arrival-is : (base packets late : ℕ) → packets ≤ 10000000 → base < 2 ^ 62 → late < 50
    → ((base + (packets * 10) % 2 ^ 32) % 2 ^ 64 + late) % 2 ^ 64 ≡ base + 10 * packets + late
arrival-is base packets late few early less =
    let a : (packets * 10) % 2 ^ 32 ≡ packets * 10 = mod-eq_of_lt (omega arith) in
    let b : (base + packets * 10) % 2 ^ 64 ≡ base + packets * 10 = mod-eq_of_lt (omega arith) in
    let d : (base + packets * 10 + late) % 2 ^ 64 ≡ base + packets * 10 + late = mod-eq_of_lt (omega arith) in
    ap (λ n. ((base + n) % 2 ^ 64 + late) % 2 ^ 64) a ∙ ap (λ n. (n + late) % 2 ^ 64) b ∙ d ∙ omega arith

module _ (names : Naming) where
  -- a datagram of the boot arrives
  pub one : (r r2 : RunState) (m : Made) (d : Datagram) (number : ℕ) (a : Arrival) → IsShort m
      → names (boot_number m) number ≡ Some d → StandsFor names r m → r2 ≡ after_arrival r → a ≡ arrival_at r number
      → Goes names (a ∷ []) r2 m (arrives (boot_number m, d) m)
  one r r2 m d number a short named st e at =
      let P : RunState → Type 0 = λ k. Goes names (a ∷ []) k m (arrives (boot_number m, d) m) in
      let Q : Arrival → Type 0 = λ k. Goes names (k ∷ []) (after_arrival r) m (arrives (boot_number m, d) m) in
      let less : drawn 50 (next_state r.state) < 50 = mod_below _ 50 (omega arith) in
      let base : r.base < 2 ^ 62 = omega (arith, st.base_is, short.base) in
      let packets : r.packets ≤ 10000000 = omega (arith, st.packets_are, short.packets) in
      let there = arrival-is r.base r.packets (drawn 50 (next_state r.state)) packets base less in
      let boot : boot_number m ≡ r.boot = sym st.boot_is in
      subst P (sym e) (subst Q (sym at) (record {
        stands = record {
          state_is = ap next_state st.state_is;
          base_is = st.base_is;
          packets_are = st.packets_are;
          boot_is = st.boot_is;
          held_is = st.held_is;
        };
        adds = (
          record {
            stream_is = refl;
            boot_is = boot;
            datagram_is = ap (λ b. names b number) st.boot_is ∙ named;
            arrival_is = sym (there ∙ ap (λ b. b + 10 * r.packets + drawn 50 (next_state r.state)) st.base_is
                ∙ ap (λ p. m.base + 10 * p + drawn 50 (next_state r.state)) st.packets_are
                ∙ ap (λ s. m.base + 10 * m.packets + drawn 50 (next_state s)) st.state_is);
          },
          refl,
        );
      }))

  adds-once : (a : Arrival) (before : List Arrival) (xs ys zs : List Delivery) → Adds names before xs ys
      → Adds names (a ∷ []) ys zs → Adds names (a ∷ before) xs zs
  adds-once a before xs ys [] p q = q
  adds-once a before xs ys (d ∷ more) p q = (q.0, subst (Adds names before xs) (sym q.1) p)

  adds-some : (h : Option Arrival) (before : List Arrival) (xs ys zs : List Delivery) → Adds names before xs ys
      → Adds names (arrived_once h) ys zs → Adds names (with_some h before) xs zs
  adds-some None before xs ys zs p q = subst (Adds names before xs) (sym q) p
  adds-some (Some a) before xs ys zs p q = adds-once a before xs ys zs p q

  -- it arrives once more
  pub twice : (r r2 r3 : RunState) (m : Made) (d : Datagram) (number : ℕ) (a b : Arrival) → IsShort m
      → names (boot_number m) number ≡ Some d → StandsFor names r m → r2 ≡ after_arrival r → a ≡ arrival_at r number
      → r3 ≡ after_arrival r2 → b ≡ arrival_at r2 number
      → Goes names (b ∷ a ∷ []) r3 m (arrives (boot_number m, d) (arrives (boot_number m, d) m))
  twice r r2 r3 m d number a b short named st e at e2 at2 =
      let n : Made = arrives (boot_number m, d) m in
      let first = one r r2 m d number a short named st e at in
      let again : IsShort n = record { packets = short.packets; base = short.base; boots = short.boots } in
      let second = one r2 r3 n d number b again named first.stands e2 at2 in
      record {
        stands = second.stands;
        adds = adds-once b (a ∷ []) m.deliveries n.deliveries (arrives (boot_number m, d) n).deliveries first.adds second.adds;
      }

  -- and then what is held
  pub and-held : (h : Option Arrival) (before : List Arrival) (r r2 : RunState) (m n k : Made) → Goes names before r m n
      → Goes names (arrived_once h) r2 n k → Goes names (with_some h before) r2 m k
  and-held h before r r2 m n k g q = record {
    stands = q.stands;
    adds = adds-some h before m.deliveries n.deliveries k.deliveries g.adds q.adds;
  }

pub short-on : (s : Sent) (m : Made) → IsShort m → IsShort (arrives s m)
short-on s m short = record { packets = short.packets; base = short.base; boots = short.boots }

-- any other draw than 0 and 1 is one delivery
pub times-once : (c : ℕ) → c ≢ 0 → c ≢ 1 → times_of c ≡ 1
times-once c a b = rw (ne_eqb _ _ a) (rw (ne_eqb _ _ b) refl)

pub twice-of : (c : ℕ) → c ≡ 1 → times_of c ≡ 2
twice-of c e = ap times_of e
