-- A line more tells what happens next in the run. Every list of lines, boots, events and deliveries has the LATEST FIRST.
use Rattle.std.proofs.Common.{◌≡◌, ◌∙◌, ℕ, zero, suc, ◌+◌, ◌-◌, ◌<◌, ◌≤◌, ◌^◌, Bool, true, false, List, [], ◌∷◌, length, map, reverse, Option, Some, None, refl, ap, sym, arith, slice_get, if◌then◌else◌, ◌++◌}
use Rattle.std.specs.Prelude.{find, is_some, nat_le, option_and_then}
use Rattle.std.specs.List.{cons_option, list_all, list_any}
use Rattle.std.proofs.lemmas.Bool.{and_from, le-leb, lt-ltb, ne_eqb}
use Rattle.std.proofs.lemmas.List.{length-map, length-reverse}
use Rattle.std.proofs.lemmas.Nat.{mod_below}
use Rattle.agent_spec.specs.Sources.{same_source}
use Rattle.agent_spec.specs.Samples.{Datagram}
use Rattle.agent_spec.specs.Events.{Event}
use Rattle.agent_spec.specs.Boots.{happened}
use Rattle.account_spec.specs.Deliveries.{Delivery}
use Rattle.script_spec.specs.Words.{is_between, is_byte}
use Rattle.script_spec.specs.Values.{skip_number}
use Rattle.script_spec.specs.Lines as script
use Rattle.script_spec.specs.Lines.{Line, SubLine, FlowLine, CounterLine, PacketLine, PollLine, SendLine, RestartLine, DeliverLine, SubAgent, flow_at}
use Rattle.script_spec.specs.Agents.{AgentBoot, Owned, boots_after, boots_of, delivered, delivered_of, is_of, numbered, send_at, setup_of, sub_of}
use Rattle.script_spec.specs.Rules.{may_follow, sets_up}
use Rattle.script_laws.specs.Written.{may_be_written}
use Rattle.script_laws.proofs.Happens.{same_setup}
use Rattle.script_histories.specs.Histories.{arrival_of, delivery_at}
use Rattle.script_histories.proofs.Lists.{turned}
use Rattle.script_histories.proofs.MoreLines.{other_deliveries}
use Rattle.script_histories.proofs.Places.{delivery_named}
use Rattle.script_histories.proofs.Reaching.{same_sender}
use Rattle.script_histories.proofs.Stays.{delivered_stays}
use Rattle.trial_spec.specs.Made.{Made, all_drawn, begun, drawn, made_counter, made_flow, made_packet, made_setup, boot_number, observed, polled, restarted, uptime, with_event, next_state, sent_so_far, Sent}
use Rattle.made_runs.specs.declared.arrivals.Arrival.{Arrival}
use Rattle.made_runs.specs.Runs.{RunState, StandsFor, IsHeld, IsDelivered, Adds}
use Rattle.made_runs.specs.Scripts.{Tells, all_said, events_in, flow_said, line_of, made_sub, named_by, port, sub_said}

-- ---- lines within their ranges

between : (least most n : ℕ) → least ≤ n → n ≤ most → is_between least most n ≡ true
between least most n a b =
    and_from (nat_le least n) (nat_le n most) (le-leb least n a) (le-leb n most b)

bytes_drawn : (count x : ℕ) → list_all is_byte (all_drawn count 256 x) ≡ true
bytes_drawn zero x = refl
bytes_drawn (suc count) x =
    and_from _ _ (lt-ltb (drawn 256 (next_state x)) 256 (mod_below _ 256 (omega arith))) (bytes_drawn count (next_state x))

skips_drawn : (count x : ℕ) → list_all skip_number.may (map (λ k. 1 + k) (all_drawn count 19 x)) ≡ true
skips_drawn zero x = refl
skips_drawn (suc count) x =
    let small : drawn 19 (next_state x) < 19 = mod_below _ 19 (omega arith) in
    and_from _ _ (between 1 4294967295 (1 + drawn 19 (next_state x)) (omega arith) (omega (arith, small)))
    (skips_drawn count (next_state x))

many_drawn : (count n x : ℕ) → length (all_drawn count n x) ≡ count
many_drawn zero n x = refl
many_drawn (suc count) n x = ap suc (many_drawn count n (next_state x))

pub sub_may : may_be_written (SubLine made_sub) ≡ true
sub_may = refl

pub flow_may : (seed : ℕ) → may_be_written (FlowLine 1 (made_flow seed)) ≡ true
flow_may seed =
    and_from _ _ (ap (is_between 1 1024) (length-map (all_drawn 64 19 seed) (λ k. 1 + k) ∙ many_drawn 64 19 seed))
    (skips_drawn 64 seed)

pub counter_may : may_be_written (CounterLine 1 made_counter) ≡ true
counter_may = refl

pub packet_may : (x : ℕ) → may_be_written (PacketLine port (made_packet x)) ≡ true
packet_may x =
    let small : drawn 1455 (next_state x) < 1455 = mod_below _ 1455 (omega arith) in
    and_from _ _ (between 0 4294967295 (64 + drawn 1455 (next_state x)) (omega arith) (omega (arith, small)))
    (bytes_drawn 32 (next_state x))

pub poll_may : (now : ℕ) → now < 2 ^ 32 → may_be_written (PollLine 1 now) ≡ true
poll_may now small = between 0 4294967295 now (omega arith) (omega (arith, small))

pub send_may : (now : ℕ) → now < 2 ^ 32 → may_be_written (SendLine 1 now) ≡ true
send_may now small = between 0 4294967295 now (omega arith) (omega (arith, small))

pub restart_may : (at : ℕ) → at < 2 ^ 63 → may_be_written (RestartLine 1 at) ≡ true
restart_may at small = between 0 9223372036854775807 at (omega arith) (omega (arith, small))

-- ---- lines that may follow

sub_found : (seed : ℕ) (lines : List Line) (m : Made) → Tells seed lines m → sub_of 1 lines ≡ Some made_sub
sub_found seed lines m h = ap (find (is_of 1)) h.subs_are

known : (seed : ℕ) (lines : List Line) (m : Made) → Tells seed lines m → is_some (sub_of 1 lines) ≡ true
known seed lines m h = ap is_some (sub_found seed lines m h)

pub sub_follows : may_follow [] (SubLine made_sub) ≡ true
unfolding may_follow
sub_follows = refl

pub flow_follows : (seed : ℕ) → may_follow sub_said (FlowLine 1 (made_flow seed)) ≡ true
unfolding may_follow
flow_follows seed = refl

pub counter_follows : (seed : ℕ) → may_follow (flow_said seed) (CounterLine 1 made_counter) ≡ true
unfolding may_follow
counter_follows seed = refl

pub packet_follows : (seed x : ℕ) (lines : List Line) (m : Made) → Tells seed lines m
    → may_follow lines (PacketLine port (made_packet x)) ≡ true
unfolding may_follow
packet_follows seed x lines m h = ap (list_any (λ (o : Owned). same_source (flow_at port) o.source)) h.sources_are

pub poll_follows : (seed now : ℕ) (lines : List Line) (m : Made) → Tells seed lines m → may_follow lines (PollLine 1 now) ≡ true
unfolding may_follow
poll_follows seed now lines m h = known seed lines m h

pub send_follows : (seed now : ℕ) (lines : List Line) (m : Made) → Tells seed lines m → may_follow lines (SendLine 1 now) ≡ true
unfolding may_follow
send_follows seed now lines m h = known seed lines m h

pub restart_follows : (seed at : ℕ) (lines : List Line) (m : Made) → Tells seed lines m
    → may_follow lines (RestartLine 1 at) ≡ true
unfolding may_follow
restart_follows seed at lines m h = known seed lines m h

pub deliver_follows : (lines : List Line) (d : script.Delivery) (x : Datagram) → delivered lines d ≡ Some x
    → may_follow lines (DeliverLine d) ≡ true
unfolding may_follow
deliver_follows lines d x there = ap is_some there

-- ---- what a line more tells

abbrev Boot : ℕ → Made → AgentBoot
Boot at m = record { at = at; events = m.events }

boots_on : (seed : ℕ) (lines : List Line) (line : Line) (m : Made) (h : Tells seed lines m)
    → boots_of (line ∷ lines) made_sub ≡ boots_after (made_setup seed) 1 line (Boot h.at m ∷ h.older)
unfolding boots_of
boots_on seed lines line m h = λ i. boots_after (h.setup_is i) 1 line (h.boots_are i)

setup_so : (seed : ℕ) → setup_of (all_said seed) made_sub ≡ made_setup seed
unfolding setup_of
setup_so seed = refl

boots_so : (seed : ℕ) → boots_of (all_said seed) made_sub ≡ Boot 1000000 (begun seed) ∷ []
unfolding boots_of
boots_so seed = refl

pub begins : (seed : ℕ) → Tells seed (all_said seed) (begun seed)
begins seed = record {
  lawful = (counter_may, counter_follows seed, (flow_may seed, flow_follows seed, (sub_may, sub_follows, tt)));
  subs_are = refl;
  sources_are = refl;
  setup_is = setup_so seed;
  sender_is = refl;
  at = 1000000;
  older = [];
  boots_are = boots_so seed;
  earlier_are = refl;
  deliveries_are = refl;
}

pub observes : (seed : ℕ) (lines : List Line) (m : Made) → Tells seed lines m
    → Tells seed (PacketLine port (made_packet m.state) ∷ lines) (observed seed m)
observes seed lines m h =
    let line : Line = PacketLine port (made_packet m.state) in record {
      lawful = (packet_may m.state, packet_follows seed m.state lines m h, h.lawful);
      subs_are = h.subs_are;
      sources_are = h.sources_are;
      setup_is = same_setup line lines made_sub refl ∙ h.setup_is;
      sender_is = same_sender line lines made_sub refl ∙ h.sender_is;
      at = h.at;
      older = h.older;
      boots_are = boots_on seed lines line m h;
      earlier_are = h.earlier_are;
      deliveries_are = other_deliveries line lines refl ∙ h.deliveries_are;
    }

pub polls : (seed : ℕ) (lines : List Line) (m : Made) → uptime m < 2 ^ 32 → Tells seed lines m
    → Tells seed (PollLine 1 (uptime m) ∷ lines) (polled seed m)
polls seed lines m small h =
    let line : Line = PollLine 1 (uptime m) in record {
      lawful = (poll_may (uptime m) small, poll_follows seed (uptime m) lines m h, h.lawful);
      subs_are = h.subs_are;
      sources_are = h.sources_are;
      setup_is = same_setup line lines made_sub refl ∙ h.setup_is;
      sender_is = same_sender line lines made_sub refl ∙ h.sender_is;
      at = h.at;
      older = h.older;
      boots_are = boots_on seed lines line m h;
      earlier_are = h.earlier_are;
      deliveries_are = other_deliveries line lines refl ∙ h.deliveries_are;
    }

pub sends : (seed : ℕ) (lines : List Line) (m : Made) → uptime m < 2 ^ 32 → Tells seed lines m
    → Tells seed (SendLine 1 (uptime m) ∷ lines) (with_event (send_at (made_setup seed) (uptime m) m.events) m)
sends seed lines m small h =
    let line : Line = SendLine 1 (uptime m) in record {
      lawful = (send_may (uptime m) small, send_follows seed (uptime m) lines m h, h.lawful);
      subs_are = h.subs_are;
      sources_are = h.sources_are;
      setup_is = same_setup line lines made_sub refl ∙ h.setup_is;
      sender_is = same_sender line lines made_sub refl ∙ h.sender_is;
      at = h.at;
      older = h.older;
      boots_are = boots_on seed lines line m h;
      earlier_are = h.earlier_are;
      deliveries_are = other_deliveries line lines refl ∙ h.deliveries_are;
    }

pub restarts : (seed at : ℕ) (lines : List Line) (m : Made) → at < 2 ^ 63 → Tells seed lines m
    → Tells seed (RestartLine 1 at ∷ lines) (restarted m)
restarts seed at lines m small h =
    let line : Line = RestartLine 1 at in record {
      lawful = (restart_may at small, restart_follows seed at lines m h, h.lawful);
      subs_are = h.subs_are;
      sources_are = h.sources_are;
      setup_is = same_setup line lines made_sub refl ∙ h.setup_is;
      sender_is = same_sender line lines made_sub refl ∙ h.sender_is;
      at = at;
      older = Boot h.at m ∷ h.older;
      boots_are = boots_on seed lines line m h;
      earlier_are = ap (λ (es : List (List Event)). m.events ∷ es) h.earlier_are;
      deliveries_are = other_deliveries line lines refl ∙ h.deliveries_are;
    }

pub named_at : (lines : List Line) (a : Arrival) → delivered lines (line_of a) ≡ named_by lines a.boot a.number
unfolding delivered
named_at lines a = refl

pub delivers : (seed : ℕ) (lines : List Line) (m : Made) (a : Arrival) (e : Delivery)
    → may_be_written (DeliverLine (line_of a)) ≡ true → IsDelivered (named_by lines) a e → Tells seed lines m
    → Tells seed (DeliverLine (line_of a) ∷ lines) (record m { deliveries = e ∷ m.deliveries })
delivers seed lines m a e written is h =
    let d : script.Delivery = line_of a in
    let line : Line = DeliverLine d in
    let there : delivered lines d ≡ Some e.datagram = named_at lines a ∙ is.datagram_is in
    let found : delivery_at lines d ≡ Some (arrival_of d made_sub e.datagram) =
    delivery_named lines 0 made_sub d e.datagram h.lawful
    (ap (λ (ss : List SubAgent). slice_get (reverse ss) 0) h.subs_are) refl there in
    let same : arrival_of d made_sub e.datagram ≡ e =
    λ i. record { stream = sym is.stream_is i; boot = sym is.boot_is i; datagram = e.datagram; arrival = sym is.arrival_is i } in
    record {
      lawful = (written, deliver_follows lines d e.datagram there, h.lawful);
      subs_are = h.subs_are;
      sources_are = h.sources_are;
      setup_is = same_setup line lines made_sub refl ∙ h.setup_is;
      sender_is = same_sender line lines made_sub refl ∙ h.sender_is;
      at = h.at;
      older = h.older;
      boots_are = boots_on seed lines line m h;
      earlier_are = h.earlier_are;
      deliveries_are = λ i. cons_option ((found ∙ ap Some same) i) (h.deliveries_are i);
    }

-- ---- what names what

pub named_stays : (line : Line) (lines : List Line) (boot number : ℕ) (x : Datagram) → sets_up line ≡ false
    → named_by lines boot number ≡ Some x → named_by (line ∷ lines) boot number ≡ Some x
named_stays line lines boot number x sets e =
    delivered_stays line lines (record { id = 1; boot = boot; number = number; at = 0 }) x sets e

delivered_still : (line : Line) (lines : List Line) (a : Arrival) (e : Delivery) → sets_up line ≡ false
    → IsDelivered (named_by lines) a e → IsDelivered (named_by (line ∷ lines)) a e
delivered_still line lines a e sets h = record {
  stream_is = h.stream_is;
  boot_is = h.boot_is;
  datagram_is = named_stays line lines a.boot a.number e.datagram sets h.datagram_is;
  arrival_is = h.arrival_is;
}

pub adds_still : (line : Line) (lines : List Line) (arrivals : List Arrival) (old new : List Delivery) → sets_up line ≡ false
    → Adds (named_by lines) arrivals old new → Adds (named_by (line ∷ lines)) arrivals old new
adds_still line lines [] old new sets h = h
adds_still line lines (a ∷ before) old [] sets h = absurd h
adds_still line lines (a ∷ before) old (e ∷ more) sets h =
    (delivered_still line lines a e sets h.0, adds_still line lines before old more sets h.1)

held_still : (line : Line) (lines : List Line) (boot : ℕ) (held : Option ℕ) (s : Option Sent) → sets_up line ≡ false
    → IsHeld (named_by lines) boot held s → IsHeld (named_by (line ∷ lines)) boot held s
held_still line lines boot None None sets h = tt
held_still line lines boot None (Some s) sets h = absurd h
held_still line lines boot (Some n) None sets h = absurd h
held_still line lines boot (Some n) (Some s) sets h = (h.0, named_stays line lines boot n s.1 sets h.1)

pub stands_still : (line : Line) (lines : List Line) (r : RunState) (m : Made) → sets_up line ≡ false
    → StandsFor (named_by lines) r m → StandsFor (named_by (line ∷ lines)) r m
stands_still line lines r m sets h = record {
  state_is = h.state_is;
  base_is = h.base_is;
  packets_are = h.packets_are;
  boot_is = h.boot_is;
  held_is = held_still line lines (boot_number m) r.held m.held sets h.held_is;
}

-- ---- the datagrams of the boot

last_there : {X : Type 0} (xs : List X) (x : X) → slice_get (xs ++ x ∷ []) (length xs) ≡ Some x
last_there [] x = refl
last_there (y ∷ ys) x = last_there ys x

numbered_suc : {X : Type 0} (xs : List X) (k : ℕ) → numbered xs (suc k) ≡ slice_get xs k
numbered_suc xs k =
    ap (λ (b : Bool). if b then None else slice_get xs (suc k - 1)) (ne_eqb (suc k) 0 (λ e. omega (arith, e)))
    ∙ ap (slice_get xs) (omega arith)

newest : (seed : ℕ) (lines : List Line) (m : Made) (h : Tells seed lines m)
    → numbered (reverse (Boot h.at m ∷ h.older)) (boot_number m) ≡ Some (Boot h.at m)
newest seed lines m h =
    let many : length (reverse h.older) ≡ length m.earlier =
    length-reverse h.older ∙ sym (length-map h.older events_in) ∙ ap length h.earlier_are in
    ap (λ (bs : List AgentBoot). numbered bs (boot_number m)) (turned (Boot h.at m) h.older)
    ∙ ap (numbered (reverse h.older ++ Boot h.at m ∷ [])) (omega arith)
    ∙ numbered_suc (reverse h.older ++ Boot h.at m ∷ []) (length m.earlier)
    ∙ ap (λ n. slice_get (reverse h.older ++ Boot h.at m ∷ []) n) (sym many)
    ∙ last_there (reverse h.older) (Boot h.at m)

-- the datagram that was sent behind so many
pub next_named : (seed : ℕ) (lines : List Line) (m : Made) (k : ℕ) (x : Datagram) → Tells seed lines m
    → slice_get (sent_so_far seed m) k ≡ Some x → named_by lines (boot_number m) (suc k) ≡ Some x
unfolding delivered
next_named seed lines m k x h there =
    let d : script.Delivery = record { id = 1; boot = boot_number m; number = suc k; at = 0 } in
    ap (option_and_then (λ (s : SubAgent). delivered_of lines s d)) (sub_found seed lines m h)
    ∙ (λ i. option_and_then (λ (b : AgentBoot). numbered (reverse (happened (h.setup_is i) b.events).sent) (suc k))
    (numbered (reverse (h.boots_are i)) (boot_number m)))
    ∙ ap (option_and_then (λ (b : AgentBoot). numbered (reverse (happened (made_setup seed) b.events).sent) (suc k)))
    (newest seed lines m h)
    ∙ numbered_suc (sent_so_far seed m) k
    ∙ there
