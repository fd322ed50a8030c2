-- The device of a script behind a send, and what was put.
use Rattle.std.proofs.Common.{◌≡◌, ◌∙◌, ◌+◌, ◌==◌, ◌++◌, inl, inr, cond, ℕ, zero, suc, Bool, true, false, List, [], ◌∷◌, length, map, reverse, take, drop, find, Option, Some, None, Ok, refl, ap, sym, subst, arith, slice_get, append_assoc, if◌then◌else◌}
use Rattle.std.specs.List.{AllByRecursion}
use Rattle.std.specs.Option.{option_map_or}
use Rattle.std.proofs.lemmas.Bool.{eq-eqb, eqb-true, true≢false}
use Rattle.std.proofs.lemmas.Option.{same_Some}
use Rattle.std.proofs.lemmas.List.{drop_at, length-reverse, reverse-reverse}
use Rattle.wire_spec.specs.Captures.{Entry}
use Rattle.agent_outlets.specs.Outlets.{PutView, Took}
use Rattle.agent_spec.specs.Samples.{Datagram, Sample, Setup}
use Rattle.agent_spec.specs.Spelled.{Sender, sent_bytes}
use Rattle.agent_spec.specs.Events.{Event, Send}
use Rattle.agent_spec.specs.Boots.{IsAmong, happened, packed, with_sent}
use Rattle.script_spec.specs.Lines.{Line, SendLine, SubAgent}
use Rattle.script_spec.specs.Agents.{AgentBoot, boots_of, datagrams_of, is_of, send_at, sender_of, setup_of, sub_of, subs_in, with_event, with_line}
use Rattle.script_spec.specs.Sent.{entries_from, entry_of, sent_by, sent_count}
use Rattle.script_laws.specs.Lawful.{AreLawful}
use Rattle.script_laws.proofs.Happens.{same_setup}
use Rattle.script_tables.specs.Tables.{HasSent, StandsAt, newest}
use Rattle.script_tables.proofs.ListTests.{turned}
use Rattle.script_tables.proofs.OfLines.{AreApart, subs_are}
use Rattle.script_meter.proofs.MeterReads.{HasNewest, has_newest}
use Rattle.script_meter.proofs.SourceHomes.{among_turned}
use Rattle.sub_agents.specs.Outlets.{puts_behind, puts_of}
use Rattle.sub_agents.specs.Sent.{Sends}
use Rattle.sub_agents.specs.SubAgents as subs
use Rattle.sub_agents.specs.SubAgents.{BootSoFar, StandsFor, SubAgentState, so_far}
use Rattle.sub_agents.specs.Devices.{DeviceState, StandForEach, with_sub}
use Rattle.sflow_tool.specs.ScriptBoots.{DeviceOf, boot_now, put_entry}
use Rattle.sflow_tool.proofs.ScriptBoots.{line_boots, send_boots}
use Rattle.true_samples.specs.Sends.{datagrams_from, leaving}
use Rattle.sflow_tool.specs.Steps.{HappensAt, bytes_put}
use Rattle.sflow_tool.proofs.DeviceLines.{At, set_stands, stands_at}
use Rattle.sflow_tool.proofs.Earlier.{earlier_stays}

-- ---- the datagrams of a send

take_whole : {X : Type 0} (xs : List X) → take (length xs) xs ≡ xs
take_whole [] = refl
take_whole (x ∷ more) = ap (λ l. x ∷ l) (take_whole more)

abbrev pub numbered_from : ℕ → ℕ → ℕ → List (List Sample) → List Datagram
numbered_from first now count [] = []
numbered_from first now count (d ∷ more) =
    record { number = first + count; uptime = now; samples = d } ∷ numbered_from first now (1 + count) more

one_more : (n : ℕ) → suc n ≡ 1 + n
one_more n = omega arith

sent_turned : (first now : ℕ) (ds : List (List Sample)) (sent : List Datagram)
    → reverse (with_sent first now ds sent) ≡ reverse sent ++ numbered_from first now (length sent) ds
sent_turned first now [] sent = nil (reverse sent)
  where
    nil : (l : List Datagram) → l ≡ l ++ []
    nil [] = refl
    nil (x ∷ more) = ap (λ (k : List Datagram). x ∷ k) (nil more)
sent_turned first now (d ∷ more) sent =
    let x : Datagram = record { number = first + length sent; uptime = now; samples = d } in
    sent_turned first now more (x ∷ sent)
    ∙ ap (λ (l : List Datagram). l ++ numbered_from first now (length (x ∷ sent)) more) (turned x sent)
    ∙ append_assoc (reverse sent) (x ∷ []) (numbered_from first now (length (x ∷ sent)) more)
    ∙ ap (λ (n : ℕ). reverse sent ++ x ∷ numbered_from first now n more) (one_more (length sent))

newly_sent : (first now : ℕ) (ds : List (List Sample)) (sent : List Datagram)
    → drop (length (reverse sent)) (reverse (with_sent first now ds sent)) ≡ numbered_from first now (length sent) ds
newly_sent first now ds sent =
    ap (drop (length (reverse sent))) (sent_turned first now ds sent)
    ∙ drop_at (reverse sent) (numbered_from first now (length sent) ds) (length (reverse sent)) refl

puts_are : (lines : List Line) (s : SubAgent) (b : BootSoFar) (id now at count : ℕ) (ds : List (List Sample))
    → b.sender ≡ sender_of lines s
    → map (put_entry (at + now)) (puts_behind b now count ds)
    ≡ map (entry_of (SendLine id now ∷ lines) s at) (numbered_from b.setup.first now count ds)
puts_are lines s b id now at count [] is = refl
puts_are lines s b id now at count (d ∷ more) is =
    let x : Datagram = record { number = b.setup.first + count; uptime = now; samples = d } in
    ap (λ (k : Sender). record { arrival = at + now; bytes = sent_bytes k x } ∷ map (put_entry (at + now)) (puts_behind b now (1 + count) more)) is
    ∙ ap (λ (l : List Entry). entry_of (SendLine id now ∷ lines) s at x ∷ l) (puts_are lines s b id now at (1 + count) more is)

-- ---- the sub-agent of an ID

among_at : {X : Type 0} (xs : List X) (k : ℕ) (x : X) → slice_get xs k ≡ Some x → IsAmong x xs
among_at [] k x e = absurd cc
among_at (y ∷ more) zero x e = inl (sym (same_Some _ _ e))
among_at (y ∷ more) (suc k) x e = inr (among_at more k x e)

pub among_subs : (lines : List Line) (k : ℕ) (s : SubAgent) → slice_get (reverse (subs_in lines)) k ≡ Some s → IsAmong s (subs_in lines)
among_subs lines k s at =
    subst (IsAmong s) (reverse-reverse (subs_in lines))
    (among_turned s (reverse (subs_in lines)) (among_at (reverse (subs_in lines)) k s at))

apart_from : (s t : SubAgent) (xs : List SubAgent) → AllByRecursion (λ (x : SubAgent). (s.id == x.id) ≡ false) xs → IsAmong t xs
    → s.id ≡ t.id → ⊥
apart_from s t [] h among e = among
apart_from s t (x ∷ more) h (inl is) e =
    true≢false (sym (eq-eqb s.id x.id (e ∙ ap (λ (y : SubAgent). y.id) is)) ∙ h.0)
apart_from s t (x ∷ more) h (inr later) e = apart_from s t more h.1 later e

apart_same : (s t : SubAgent) (xs : List SubAgent) → AreApart xs → IsAmong s xs → IsAmong t xs → s.id ≡ t.id → s ≡ t
apart_same s t [] h a b e = absurd a
apart_same s t (x ∷ more) h (inl a) (inl b) e = a ∙ sym b
apart_same s t (x ∷ more) h (inl a) (inr b) e =
    absurd (apart_from x t more h.0 b (ap (λ (y : SubAgent). y.id) (sym a) ∙ e))
apart_same s t (x ∷ more) h (inr a) (inl b) e =
    absurd (apart_from x s more h.0 a (ap (λ (y : SubAgent). y.id) (sym b) ∙ sym e))
apart_same s t (x ∷ more) h (inr a) (inr b) e = apart_same s t more h.1 a b e

pub one_sub : (lines : List Line) (s t : SubAgent) → AreLawful lines → IsAmong s (subs_in lines) → IsAmong t (subs_in lines)
    → s.id ≡ t.id → s ≡ t
one_sub lines s t lawful a b e =
    apart_same s t (reverse (subs_in lines)) (subs_are lines lawful).apart (among_turned s (subs_in lines) a)
    (among_turned t (subs_in lines) b) e

found_sub : (id : ℕ) (xs : List SubAgent) (s : SubAgent) → IsAmong s xs → s.id ≡ id
    → (t : SubAgent) × (find (is_of id) xs ≡ Some t) × IsAmong t xs × (t.id ≡ id)
found_sub id [] s h is = absurd h
found_sub id (x ∷ more) s h is = go (is_of id x) refl h (found_sub id more s)
  where
    go : (b : Bool) → is_of id x ≡ b → IsAmong s (x ∷ more)
        → (IsAmong s more → s.id ≡ id → (t : SubAgent) × (find (is_of id) more ≡ Some t) × IsAmong t more × (t.id ≡ id))
        → (t : SubAgent) × (cond b (Some x) (find (is_of id) more) ≡ Some t) × IsAmong t (x ∷ more) × (t.id ≡ id)
    go true e a others = (x, refl, inl refl, eqb-true x.id id e)
    go false e (inl a) others =
        absurd (true≢false (sym (eq-eqb x.id id (ap (λ (y : SubAgent). y.id) (sym a) ∙ is)) ∙ e))
    go false e (inr a) others = let f = others a is in (f.0, f.1, inr f.2, f.3)

pub sub_found : (lines : List Line) (id : ℕ) (s : SubAgent) → AreLawful lines → IsAmong s (subs_in lines) → s.id ≡ id
    → sub_of id lines ≡ Some s
sub_found lines id s lawful among is =
    let f = found_sub id (subs_in lines) s among is in
    f.1 ∙ ap (λ (x : SubAgent). Some x) (one_sub lines f.0 s lawful f.2 among (f.3 ∙ sym is))

-- ---- what a send line sends

newest_after : (setup : Setup) (lines : List Line) (s : SubAgent) (id now : ℕ) (b : AgentBoot) (earlier : List AgentBoot) → s.id ≡ id
    → setup ≡ setup_of lines s
    → entries_from (SendLine id now ∷ lines) s (sent_count lines s (b ∷ earlier)) (with_line setup s.id (SendLine id now) (b ∷ earlier))
    ≡ map (entry_of (SendLine id now ∷ lines) s b.at)
    (numbered_from setup.first now (length (happened setup b.events).sent) (packed setup (happened setup b.events)))
unfolding send_at
newest_after setup lines s id now b earlier own is =
    let count : ℕ = length (packed setup (happened setup b.events)) in
    ap (λ (x : Bool). entries_from (SendLine id now ∷ lines) s (sent_count lines s (b ∷ earlier))
    (with_event (if x then Some (send_at setup now b.events) else None) b ∷ earlier)) (eq-eqb id s.id (sym own))
    ∙ ap (λ (k : Setup). map (entry_of (SendLine id now ∷ lines) s b.at)
    (drop (length (datagrams_of lines s b)) (reverse (happened k (send_at setup now b.events ∷ b.events)).sent)))
    (same_setup (SendLine id now) lines s refl ∙ sym is)
    ∙ ap (λ (k : Setup). map (entry_of (SendLine id now ∷ lines) s b.at)
    (drop (length (reverse (happened k b.events).sent)) (reverse (happened setup (send_at setup now b.events ∷ b.events)).sent))) (sym is)
    ∙ ap (map (entry_of (SendLine id now ∷ lines) s b.at))
    (newly_sent setup.first now (take count (packed setup (happened setup b.events))) (happened setup b.events).sent)
    ∙ ap (λ (ds : List (List Sample)). map (entry_of (SendLine id now ∷ lines) s b.at)
    (numbered_from setup.first now (length (happened setup b.events).sent) ds))
    (take_whole (packed setup (happened setup b.events)))

line_sends : (lines : List Line) (s : SubAgent) (id now : ℕ) (boots : List AgentBoot) → s.id ≡ id → HasNewest boots
    → entries_from (SendLine id now ∷ lines) s (sent_count lines s boots) (with_line (setup_of lines s) s.id (SendLine id now) boots)
    ≡ map (entry_of (SendLine id now ∷ lines) s (newest boots).at)
    (numbered_from (setup_of lines s).first now (length (happened (setup_of lines s) (newest boots).events).sent)
    (packed (setup_of lines s) (happened (setup_of lines s) (newest boots).events)))
line_sends lines s id now [] own h = absurd (let bad : [] ≡ h.boot ∷ h.earlier = h.is in cc)
line_sends lines s id now (b ∷ earlier) own h = newest_after (setup_of lines s) lines s id now b earlier own refl

pub sent_by_line : (lines : List Line) (s : SubAgent) (id now : ℕ) → AreLawful lines → IsAmong s (subs_in lines) → s.id ≡ id
    → sent_by lines (SendLine id now)
    ≡ map (entry_of (SendLine id now ∷ lines) s (newest (boots_of lines s)).at)
    (numbered_from (setup_of lines s).first now (length (so_far (boot_now lines s)).sent) (packed (setup_of lines s) (so_far (boot_now lines s))))
sent_by_line lines s id now lawful among own =
    ap (λ (o : Option SubAgent). option_map_or (λ (t : SubAgent). entries_from (SendLine id now ∷ lines) t (sent_count lines t (boots_of lines t))
    (boots_of (SendLine id now ∷ lines) t)) o []) (sub_found lines id s lawful among own)
    ∙ ap (entries_from (SendLine id now ∷ lines) s (sent_count lines s (boots_of lines s))) (line_boots (SendLine id now) lines s refl)
    ∙ line_sends lines s id now (boots_of lines s) own (has_newest lines s)

-- ---- the call

is_send : (setup : Setup) (now n : ℕ) (events : List Event) → n ≡ length (packed setup (happened setup events))
    → Send now n ≡ send_at setup now events
unfolding send_at
is_send setup now n events e = ap (λ (m : ℕ). Send now m) e

took_all : (old new puts : List PutView) → old ≡ [] → Took (Some old) (Some new) puts → new ≡ puts
took_all old new puts none took =
    same_Some _ _ (took old refl) ∙ ap (λ (l : List PutView). l ++ puts) none

abbrev bytes_at : BootSoFar → ℕ → ℕ → List (List Sample) → List (List ℕ)
bytes_at b now number ds = map (sent_bytes b.sender) (datagrams_from number now ds)

puts_leave : (b : BootSoFar) (now count number : ℕ) (ds : List (List Sample)) → number ≡ b.setup.first + count
    → map bytes_put (puts_behind b now count ds) ≡ bytes_at b now number ds
puts_leave b now count number [] is = refl
puts_leave b now count number (d ∷ more) is =
    ap (λ (n : ℕ). sent_bytes b.sender (record { number = n; uptime = now; samples = d }) ∷ map bytes_put (puts_behind b now (1 + count) more))
    (sym is)
    ∙ ap (λ (l : List (List ℕ)). sent_bytes b.sender (record { number = number; uptime = now; samples = d }) ∷ l)
    (puts_leave b now (1 + count) (1 + number) more (omega (arith, is)))

puts_long : (b : BootSoFar) (now count : ℕ) (ds : List (List Sample)) → length (puts_behind b now count ds) ≡ length ds
puts_long b now count [] = refl
puts_long b now count (d ∷ more) = ap (λ (n : ℕ). suc n) (puts_long b now (1 + count) more)

pub sent : (old new : DeviceState) (lines : List Line) (id now k at n : ℕ) (taken taken' : List PutView) (s : StandsAt lines id k at)
    (x : At old lines id k) → AreLawful (SendLine id now ∷ lines) → DeviceOf old lines → x.sub ≡ s.sub → taken ≡ []
    → (state : SubAgentState) × (new ≡ with_sub k state old) × Sends state (boot_now lines x.sub) now (Some taken) (Some taken') (Ok n)
    → DeviceOf new (SendLine id now ∷ lines)
    × ((boot : BootSoFar) × HappensAt lines (SendLine id now) k boot (Send now (length taken'))
    × (map bytes_put taken' ≡ map (sent_bytes boot.sender) (leaving boot.setup now (so_far boot))))
    × (map (put_entry (at + now)) taken' ≡ sent_by lines (SendLine id now))
sent old new lines id now k at n taken taken' s x lawful h same none (state, is, done) =
    let b : BootSoFar = boot_now lines x.sub in
    let event : Send now n ≡ send_at b.setup now b.events = is_send b.setup now n b.events done.0 in
    let puts : taken' ≡ puts_of b now n = took_all taken taken' (puts_of b now n) none done.1 in
    let all : take n (packed b.setup (so_far b)) ≡ packed b.setup (so_far b) =
    ap (λ (m : ℕ). take m (packed b.setup (so_far b))) done.0 ∙ take_whole (packed b.setup (so_far b)) in
    let whole : taken' ≡ puts_behind b now (length (so_far b).sent) (packed b.setup (so_far b)) =
    puts ∙ ap (λ (ds : List (List Sample)). puts_behind b now (length (so_far b).sent) ds) all in
    let long : length taken' ≡ length (packed b.setup (so_far b)) =
    ap length whole ∙ puts_long b now (length (so_far b).sent) (packed b.setup (so_far b)) in
    let boots = send_boots lines id now k x.sub lawful.2 x.there x.own in
    let time : (newest (boots_of lines x.sub)).at ≡ at = ap (λ (t : SubAgent). (newest (boots_of lines t)).at) same ∙ s.at_is in (
      subst (StandForEach new.subs) boots
          (set_stands old new lines k state (subs.with_event (send_at b.setup now b.events) b) h is
          (subst (λ (e : Event). StandsFor state (subs.with_event e b)) event done.2)),
      (
        b,
        subst (HappensAt lines (SendLine id now) k b) (sym (is_send b.setup now (length taken') b.events long))
            (record { there = x.boot; boots = sym boots; earlier = earlier_stays (SendLine id now) lines refl; delivers_none = refl }),
        ap (map bytes_put) whole
            ∙ puts_leave b now (length (so_far b).sent) (b.setup.first + length (so_far b).sent) (packed b.setup (so_far b)) refl,
      ),
      ap (map (put_entry (at + now))) puts
          ∙ ap (λ (ds : List (List Sample)). map (put_entry (at + now)) (puts_behind b now (length (so_far b).sent) ds)) all
          ∙ puts_are lines x.sub b id now at (length (so_far b).sent) (packed b.setup (so_far b)) refl
          ∙ ap (λ (t : ℕ). map (entry_of (SendLine id now ∷ lines) x.sub t)
          (numbered_from b.setup.first now (length (so_far b).sent) (packed b.setup (so_far b)))) (sym time)
          ∙ sym (sent_by_line lines x.sub id now lawful.2 (among_subs lines k x.sub x.there) x.own),
    )

-- ---- how many were sent

sent_long : (lines : List Line) (s : SubAgent) (boots : List AgentBoot)
    → length (happened (setup_of lines s) (newest boots).events).sent ≡ sent_count lines s boots
sent_long lines s [] = refl
sent_long lines s (b ∷ earlier) = sym (length-reverse (happened (setup_of lines s) b.events).sent)

all_so : (P Q : SubAgent → Type 0) (xs all : List SubAgent) → ((t : SubAgent) → IsAmong t xs → IsAmong t all)
    → ((t : SubAgent) → IsAmong t all → Q t) → AllByRecursion Q xs
all_so P Q [] all sub h = tt
all_so P Q (x ∷ more) all sub h = (h x (sub x (inl refl)), all_so P Q more all (λ t a. sub t (inr a)) h)

pub has_sent : (d : DeviceState) (lines : List Line) (id now k at numbered : ℕ) → AreLawful (SendLine id now ∷ lines)
    → (s : StandsAt lines id k at) (x : At d (SendLine id now ∷ lines) id k) → numbered ≡ x.state.numbered
    → HasSent id numbered lines (SendLine id now)
has_sent d lines id now k at numbered lawful s x is =
    let L : List Line = SendLine id now ∷ lines in
    let count : numbered ≡ sent_count L x.sub (boots_of L x.sub) =
    is ∙ x.stands.counts.numbered ∙ sent_long L x.sub (boots_of L x.sub) in
    all_so (λ (t : SubAgent). IsAmong t (subs_in lines)) (λ (t : SubAgent). t.id ≡ id → numbered ≡ sent_count L t (boots_of L t))
    (subs_in lines) (subs_in lines) (λ t a. a)
    (λ t among own. count ∙ ap (λ (u : SubAgent). sent_count L u (boots_of L u))
    (one_sub lines x.sub t lawful.2 (among_subs lines k x.sub x.there) among (x.own ∙ sym own)))

-- the sub-agent stands there behind the line too
pub later_at : (d : DeviceState) (lines : List Line) (id now k at : ℕ) → DeviceOf d (SendLine id now ∷ lines) → StandsAt lines id k at
    → At d (SendLine id now ∷ lines) id k
later_at d lines id now k at h s =
    stands_at d (SendLine id now ∷ lines) id k (newest (boots_of (SendLine id now ∷ lines) s.sub)).at h
    (record { sub = s.sub; there = s.there; own = s.own; at_is = refl })
