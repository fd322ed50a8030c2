-- What a meter of lawful lines reads of a source that is polled.
use Rattle.std.proofs.Common.{◌≡◌, ◌∙◌, ◌==◌, ◌&&◌, ◌||◌, inl, inr, cond, ℕ, Bool, true, false, List, [], ◌∷◌, map, find, filter_map, Option, Some, None, refl, ap, sym, subst, if◌then◌else◌, option_map}
use Rattle.std.specs.List.{AllByRecursion, cons_option, list_all, list_any}
use Rattle.std.proofs.lemmas.Bool.{and_from, eq-eqb, or_right}
use Rattle.std.proofs.lemmas.Option.{same_Some}
use Rattle.data_format.specs.declared.source.SourceId.{SourceId}
use Rattle.agent_spec.specs.Sources.{Source, same_source, FlowSetup, CounterSetup}
use Rattle.agent_spec.specs.Samples.{Packet, Setup}
use Rattle.agent_spec.specs.Events.{Event, Observe, Reset}
use Rattle.agent_spec.specs.Boots.{IsAmong}
use Rattle.agent_spec.proofs.Keys.{source-eq}
use Rattle.script_spec.specs.Values.{Place}
use Rattle.script_spec.specs.Lines.{Line, MaxLine, SubLine, FlowLine, CounterLine, PacketLine, PollLine, SendLine, RestartLine, ResetLine, DeliverLine, SubAgent, flow_at, place_of}
use Rattle.script_spec.specs.Agents.{AgentBoot, Owned, begun_at, boots_after, boots_of, counter_in, counters_at, counters_of, event_of, flow_of, flows_of, has_source, length_seen, lengths_seen, poll_at, same_place, send_at, setup_of, sources_in, with_event, with_line}
use Rattle.script_spec.specs.Rules.{sets_up}
use Rattle.script_laws.specs.Lawful.{AreLawful}
use Rattle.script_laws.proofs.Happens.{in_order, none_yet}
use Rattle.script_tables.specs.Tables.{newest}
use Rattle.script_tables.proofs.ListTests.{all_turned, any_implies, same_at, same_at-eq, same_at-self}
use Rattle.script_tables.proofs.Owners.{one_owner, owns, rules_met}
use Rattle.script_tables.proofs.OneHome.{any_among, counter_owned, flow_owned}
use Rattle.script_meter.specs.declared.meter.CountedRow.{CountedRow}
use Rattle.script_meter.specs.declared.meter.Tally.{Tally}
use Rattle.script_meter.specs.Tallies.{Counted, Counts, counted, interface_at, lengths_in, polled_in, polled_of, row_counted, tally_in, tally_of}
use Rattle.script_meter.proofs.MeterLines.{no_lengths}
use Rattle.script_meter.proofs.SourceHomes.{any_back, home_of}

-- ---- some boot is the newest

pub record HasNewest (boots : List AgentBoot) : Type 0 where
  pub boot : AgentBoot
  pub earlier : List AgentBoot
  pub is : boots ≡ boot ∷ earlier

on_line : (setup : Setup) (id : ℕ) (line : Line) (boots : List AgentBoot) → HasNewest boots → HasNewest (with_line setup id line boots)
on_line setup id line boots h = record {
  boot = with_event (event_of setup id h.boot.events line) h.boot;
  earlier = h.earlier;
  is = ap (with_line setup id line) h.is;
}

on_restart : (own : Bool) (at : ℕ) (boots : List AgentBoot) → HasNewest boots → HasNewest (if own then begun_at at ∷ boots else boots)
on_restart true at boots h = record { boot = begun_at at; earlier = boots; is = refl }
on_restart false at boots h = h

on_any : (setup : Setup) (id : ℕ) (line : Line) (boots : List AgentBoot) → HasNewest boots → HasNewest (boots_after setup id line boots)
on_any setup id (RestartLine owner at) boots h = on_restart (owner == id) at boots h
on_any setup id (MaxLine m) boots h = on_line setup id (MaxLine m) boots h
on_any setup id (SubLine s) boots h = on_line setup id (SubLine s) boots h
on_any setup id (FlowLine o f) boots h = on_line setup id (FlowLine o f) boots h
on_any setup id (CounterLine o c) boots h = on_line setup id (CounterLine o c) boots h
on_any setup id (PacketLine p k) boots h = on_line setup id (PacketLine p k) boots h
on_any setup id (PollLine o now) boots h = on_line setup id (PollLine o now) boots h
on_any setup id (SendLine o now) boots h = on_line setup id (SendLine o now) boots h
on_any setup id (ResetLine s) boots h = on_line setup id (ResetLine s) boots h
on_any setup id (DeliverLine d) boots h = on_line setup id (DeliverLine d) boots h

pub has_newest : (lines : List Line) (s : SubAgent) → HasNewest (boots_of lines s)
unfolding boots_of
has_newest [] s = record { boot = begun_at s.at; earlier = []; is = refl }
has_newest (line ∷ before) s = on_any (setup_of before s) s.id line (boots_of before s) (has_newest before s)

-- ---- the packets that a boot has seen

abbrev SeenAs : Place → List AgentBoot → List ℕ → Type 0
SeenAs p boots ls = lengths_seen p (newest boots).events ≡ ls

unseen : (p : Place) (o : Option Event) (b : AgentBoot) → ((e : Event) → o ≡ Some e → length_seen p e ≡ None)
    → lengths_seen p (with_event o b).events ≡ lengths_seen p b.events
unseen p None b none = refl
unseen p (Some e) b none = ap (λ (o : Option ℕ). cons_option o (lengths_seen p b.events)) (none e refl)

unseen_line : (p : Place) (setup : Setup) (id : ℕ) (line : Line) (boots : List AgentBoot) (ls : List ℕ)
    → ((events : List Event) (e : Event) → event_of setup id events line ≡ Some e → length_seen p e ≡ None)
    → SeenAs p boots ls → SeenAs p (with_line setup id line boots) ls
unseen_line p setup id line [] ls none h = h
unseen_line p setup id line (b ∷ earlier) ls none h = unseen p (event_of setup id b.events line) b (none b.events) ∙ h

own_unseen : (p : Place) (own : Bool) (x e : Event) → length_seen p x ≡ None → (if own then Some x else None) ≡ Some e
    → length_seen p e ≡ None
own_unseen p true x e none is = subst (λ (y : Event). length_seen p y ≡ None) (same_Some _ _ is) none
own_unseen p false x e none is = absurd cc

poll_unseen : (p : Place) (setup : Setup) (now : ℕ) (events : List Event) → length_seen p (poll_at setup now events) ≡ None
unfolding poll_at
poll_unseen p setup now events = refl

send_unseen : (p : Place) (setup : Setup) (now : ℕ) (events : List Event) → length_seen p (send_at setup now events) ≡ None
unfolding send_at
send_unseen p setup now events = refl

-- ---- a packet

any_found : (q : FlowSetup → Bool) (xs : List FlowSetup) → list_any q xs ≡ true → find q xs ≡ None → ⊥
any_found q [] e none = absurd cc
any_found q (x ∷ more) e none = go (q x) (any_found q more) e none
  where
    go : (b : Bool) → (list_any q more ≡ true → find q more ≡ None → ⊥) → (b || list_any q more) ≡ true
        → cond b (Some x) (find q more) ≡ None → ⊥
    go true others h n = absurd cc
    go false others h n = others h n

find_same : (source : Source) (xs : List FlowSetup) (f : FlowSetup)
    → find (λ (g : FlowSetup). same_source source g.source) xs ≡ Some f → source ≡ f.source
find_same source [] f e = absurd cc
find_same source (x ∷ more) f e = go (same_source source x.source) refl (find_same source more f) e
  where
    go : (b : Bool) → same_source source x.source ≡ b
        → (find (λ (g : FlowSetup). same_source source g.source) more ≡ Some f → source ≡ f.source)
        → cond b (Some x) (find (λ (g : FlowSetup). same_source source g.source) more) ≡ Some f → source ≡ f.source
    go true is others h = source-eq source x.source is ∙ ap (λ (g : FlowSetup). g.source) (same_Some _ _ h)
    go false is others h = others h

flows_here : (lines : List Line) (s : SubAgent) → (setup_of lines s).flows ≡ flows_of s.id lines
unfolding setup_of
flows_here lines s = refl

packet_seen : (p q : Place) (k : Packet) (before : List Line) (s : SubAgent) (b : AgentBoot) (ls : List ℕ)
    → AreLawful (PacketLine q k ∷ before) → list_any (owns s.id p) (sources_in before) ≡ true
    → lengths_seen p b.events ≡ ls
    → lengths_seen p (with_event (option_map (λ f. Observe f k) (flow_of (setup_of before s) q)) b).events
    ≡ (if same_place p (flow_at q) then k.frame_length ∷ ls else ls)
packet_seen p q k before s b ls lawful own h =
    go (flow_of (setup_of before s) q) refl (same_place p (flow_at q)) refl
  where
    seen_is : (f : FlowSetup) → flow_of (setup_of before s) q ≡ Some f → same_place p f.source ≡ same_place p (flow_at q)
    seen_is f is = ap (same_place p) (sym (find_same (flow_at q) (setup_of before s).flows f is))

    must : same_place p (flow_at q) ≡ true → flow_of (setup_of before s) q ≡ None → ⊥
    must here none =
        let home = home_of (flow_at q) before lawful.2 (rules_met (PacketLine q k) before lawful.1) in
        let its = flow_owned home.sub.id (flow_at q) before lawful.2 home.has in
        let place : p ≡ q = same_at-eq p q here in
        let mine = subst (λ (x : Place). list_any (owns s.id x) (sources_in before) ≡ true) place own in
        let same : home.sub.id ≡ s.id = one_owner home.sub.id s.id q before lawful.2 its mine in
        let had = ap (λ (n : ℕ). list_any (λ (f : FlowSetup). same_source (flow_at q) f.source) (flows_of n before)) (sym same) ∙ home.has in
        any_found (λ (f : FlowSetup). same_source (flow_at q) f.source) (setup_of before s).flows
        (ap (list_any (λ (f : FlowSetup). same_source (flow_at q) f.source)) (flows_here before s) ∙ had) none

    go : (o : Option FlowSetup) → flow_of (setup_of before s) q ≡ o → (at : Bool) → same_place p (flow_at q) ≡ at
        → lengths_seen p (with_event (option_map (λ f. Observe f k) o) b).events ≡ (if at then k.frame_length ∷ ls else ls)
    go None is true here = absurd (must here is)
    go None is false here = h
    go (Some f) is true here =
        ap (λ (x : Bool). cons_option (if x then Some k.frame_length else None) (lengths_seen p b.events)) (seen_is f is ∙ here)
        ∙ ap (λ (l : List ℕ). k.frame_length ∷ l) h
    go (Some f) is false here =
        ap (λ (x : Bool). cons_option (if x then Some k.frame_length else None) (lengths_seen p b.events)) (seen_is f is ∙ here) ∙ h

on_packet : (p q : Place) (k : Packet) (before : List Line) (s : SubAgent) (ls : List ℕ)
    → AreLawful (PacketLine q k ∷ before) → list_any (owns s.id p) (sources_in before) ≡ true
    → (boots : List AgentBoot) → HasNewest boots → SeenAs p boots ls
    → SeenAs p (with_line (setup_of before s) s.id (PacketLine q k) boots) (if same_place p (flow_at q) then k.frame_length ∷ ls else ls)
on_packet p q k before s ls lawful own [] some h = absurd cc_of
  where
    cc_of : ⊥
    cc_of = let bad : [] ≡ some.boot ∷ some.earlier = some.is in absurd cc
on_packet p q k before s ls lawful own (b ∷ earlier) some h = packet_seen p q k before s b ls lawful own h

restart_seen : (p : Place) (own : Bool) (at : ℕ) (boots : List AgentBoot) (ls : List ℕ) → SeenAs p boots ls
    → SeenAs p (if own then begun_at at ∷ boots else boots) (if own then [] else ls)
restart_seen p true at boots ls h = refl
restart_seen p false at boots ls h = h

set_up_seen : (p : Place) (line : Line) (before : List Line) (s : SubAgent) → AreLawful (line ∷ before) → sets_up line ≡ true
    → SeenAs p (boots_of (line ∷ before) s) (lengths_in s.id p (line ∷ before))
set_up_seen p line before s lawful sets =
    let all : list_all sets_up (line ∷ before) ≡ true =
    ap (λ (x : Bool). x && list_all sets_up before) sets ∙ in_order line before lawful.1 sets in
    ap (λ (boots : List AgentBoot). lengths_seen p (newest boots).events) (none_yet (line ∷ before) s all)
    ∙ sym (no_lengths s.id p (line ∷ before) all)

-- the packets of the newest boot are those of the lines
pub seen_as : (lines : List Line) (s : SubAgent) (p : Place) → AreLawful lines → list_any (owns s.id p) (sources_in lines) ≡ true
    → SeenAs p (boots_of lines s) (lengths_in s.id p lines)
unfolding boots_of
seen_as [] s p l own = refl
seen_as (MaxLine n ∷ before) s p l own = set_up_seen p (MaxLine n) before s l refl
seen_as (SubLine t ∷ before) s p l own = set_up_seen p (SubLine t) before s l refl
seen_as (FlowLine id f ∷ before) s p l own = set_up_seen p (FlowLine id f) before s l refl
seen_as (CounterLine id c ∷ before) s p l own = set_up_seen p (CounterLine id c) before s l refl
seen_as (PacketLine q k ∷ before) s p l own =
    on_packet p q k before s (lengths_in s.id p before) l own (boots_of before s) (has_newest before s) (seen_as before s p l.2 own)
seen_as (PollLine id now ∷ before) s p l own =
    unseen_line p (setup_of before s) s.id (PollLine id now) (boots_of before s) (lengths_in s.id p before)
    (λ events e. own_unseen p (id == s.id) (poll_at (setup_of before s) now events) e (poll_unseen p (setup_of before s) now events))
    (seen_as before s p l.2 own)
seen_as (SendLine id now ∷ before) s p l own =
    unseen_line p (setup_of before s) s.id (SendLine id now) (boots_of before s) (lengths_in s.id p before)
    (λ events e. own_unseen p (id == s.id) (send_at (setup_of before s) now events) e (send_unseen p (setup_of before s) now events))
    (seen_as before s p l.2 own)
seen_as (ResetLine t ∷ before) s p l own =
    unseen_line p (setup_of before s) s.id (ResetLine t) (boots_of before s) (lengths_in s.id p before)
    (λ events e. own_unseen p (has_source (setup_of before s) t) (Reset t) e refl)
    (seen_as before s p l.2 own)
seen_as (DeliverLine d ∷ before) s p l own =
    unseen_line p (setup_of before s) s.id (DeliverLine d) (boots_of before s) (lengths_in s.id p before)
    (λ events e bad. absurd cc)
    (seen_as before s p l.2 own)
seen_as (RestartLine id at ∷ before) s p l own =
    restart_seen p (id == s.id) at (boots_of before s) (lengths_in s.id p before) (seen_as before s p l.2 own)

-- ---- the row of a source

abbrev counted_at : Place → List Counted → Tally
counted_at p [] = record { octets = 0; packets = 0 }
counted_at p (x ∷ more) = cond (same_at (place_of x.source) p) x.tally (counted_at p more)

rows_at : (id : SourceId) (rows : List CountedRow)
    → tally_in id rows ≡ counted_at (record { class = id.class; index = id.index }) (map row_counted rows)
rows_at id [] = refl
rows_at id (r ∷ more) =
    ap (λ (t : Tally). cond ((r.source.class == id.class) && (r.source.index == id.index)) r.tally t) (rows_at id more)

polled_there : (lines : List Line) → AllByRecursion (λ (o : Owned). IsAmong o (sources_in lines)) (filter_map polled_in lines)
polled_there lines = go lines lines (λ o h. h)
  where
    go : (all lines : List Line) → ((o : Owned) → IsAmong o (sources_in lines) → IsAmong o (sources_in all))
        → AllByRecursion (λ (o : Owned). IsAmong o (sources_in all)) (filter_map polled_in lines)
    go all [] sub = tt
    go all (CounterLine id c ∷ before) sub =
        (sub (record { owner = id; source = c.source }) (inl refl), go all before (λ o h. sub o (inr h)))
    go all (FlowLine id f ∷ before) sub = go all before (λ o h. sub o (inr h))
    go all (MaxLine n ∷ before) sub = go all before sub
    go all (SubLine s ∷ before) sub = go all before sub
    go all (PacketLine p k ∷ before) sub = go all before sub
    go all (PollLine id now ∷ before) sub = go all before sub
    go all (SendLine id now ∷ before) sub = go all before sub
    go all (RestartLine id at ∷ before) sub = go all before sub
    go all (ResetLine s ∷ before) sub = go all before sub
    go all (DeliverLine d ∷ before) sub = go all before sub

among_owns : (o : Owned) (p : Place) (xs : List Owned) → IsAmong o xs → same_at (place_of o.source) p ≡ true
    → list_any (owns o.owner p) xs ≡ true
among_owns o p [] h at = absurd h
among_owns o p (x ∷ more) (inl e) at =
    let place : same_place p x.source ≡ true =
    same_at-self p (place_of x.source) (sym (same_at-eq (place_of o.source) p at) ∙ ap (λ (y : Owned). place_of y.source) e) in
    let own : (x.owner == o.owner) ≡ true = eq-eqb x.owner o.owner (ap (λ (y : Owned). y.owner) (sym e)) in
    ap (λ (b : Bool). b || list_any (owns o.owner p) more) (and_from _ _ own place)
among_owns o p (x ∷ more) (inr h) at = or_right (owns o.owner p x) _ (among_owns o p more h at)

counted_one : (lines : List Line) (id : ℕ) (p : Place) (xs : List Owned)
    → AllByRecursion (λ (o : Owned). same_at (place_of o.source) p ≡ true → o.owner ≡ id) xs
    → list_any (λ (o : Owned). same_at (place_of o.source) p) xs ≡ true
    → counted_at p (map (counted lines) xs) ≡ tally_of (lengths_in id p lines)
counted_one lines id p [] each e = absurd cc
counted_one lines id p (o ∷ more) each e = go (same_at (place_of o.source) p) refl (counted_one lines id p more each.1) e
  where
    go : (b : Bool) → same_at (place_of o.source) p ≡ b
        → (list_any (λ (o : Owned). same_at (place_of o.source) p) more ≡ true
        → counted_at p (map (counted lines) more) ≡ tally_of (lengths_in id p lines))
        → (b || list_any (λ (o : Owned). same_at (place_of o.source) p) more) ≡ true
        → cond b (tally_of (lengths_in o.owner (place_of o.source) lines)) (counted_at p (map (counted lines) more))
        ≡ tally_of (lengths_in id p lines)
    go true is others h =
        ap (λ (n : ℕ). tally_of (lengths_in n (place_of o.source) lines)) (each.0 is)
        ∙ ap (λ (q : Place). tally_of (lengths_in id q lines)) (same_at-eq (place_of o.source) p is)
    go false is others h = others h

polled_any : (id : ℕ) (p : Place) (lines : List Line)
    → list_any (λ (c : CounterSetup). same_at (place_of c.source) p) (filter_map (counter_in id) lines) ≡ true
    → list_any (λ (o : Owned). same_at (place_of o.source) p) (filter_map polled_in lines) ≡ true
polled_any id p [] e = e
polled_any id p (CounterLine owner c ∷ before) e = go (owner == id) (polled_any id p before) e
  where
    go : (b : Bool)
        → (list_any (λ (c : CounterSetup). same_at (place_of c.source) p) (filter_map (counter_in id) before) ≡ true
        → list_any (λ (o : Owned). same_at (place_of o.source) p) (filter_map polled_in before) ≡ true)
        → list_any (λ (c : CounterSetup). same_at (place_of c.source) p)
        (cons_option (if b then Some c else None) (filter_map (counter_in id) before)) ≡ true
        → (same_at (place_of c.source) p || list_any (λ (o : Owned). same_at (place_of o.source) p) (filter_map polled_in before)) ≡ true
    go true others h = first (same_at (place_of c.source) p) others h
      where
        first : (x : Bool)
            → (list_any (λ (c : CounterSetup). same_at (place_of c.source) p) (filter_map (counter_in id) before) ≡ true
            → list_any (λ (o : Owned). same_at (place_of o.source) p) (filter_map polled_in before) ≡ true)
            → (x || list_any (λ (c : CounterSetup). same_at (place_of c.source) p) (filter_map (counter_in id) before)) ≡ true
            → (x || list_any (λ (o : Owned). same_at (place_of o.source) p) (filter_map polled_in before)) ≡ true
        first true others h = refl
        first false others h = others h
    go false others h = or_right (same_at (place_of c.source) p) _ (others h)
polled_any id p (MaxLine n ∷ before) e = polled_any id p before e
polled_any id p (SubLine s ∷ before) e = polled_any id p before e
polled_any id p (FlowLine o f ∷ before) e = polled_any id p before e
polled_any id p (PacketLine q k ∷ before) e = polled_any id p before e
polled_any id p (PollLine o now ∷ before) e = polled_any id p before e
polled_any id p (SendLine o now ∷ before) e = polled_any id p before e
polled_any id p (RestartLine o at ∷ before) e = polled_any id p before e
polled_any id p (ResetLine s ∷ before) e = polled_any id p before e
polled_any id p (DeliverLine d ∷ before) e = polled_any id p before e

-- the meter reads the counters that the boot gives
pub reads : (rows : List CountedRow) (lines : List Line) (s : SubAgent) (c : CounterSetup) (id : SourceId) → Counts rows lines
    → AreLawful lines → IsAmong c (counters_of s.id lines) → record { flow = false; class = id.class; index = id.index } ≡ c.source
    → interface_at id.index (tally_in id rows) ≡ counters_at (newest (boots_of lines s)).events c.source
reads rows lines s c id counts lawful among is =
    let p : Place = record { class = id.class; index = id.index } in
    let had = any_among (λ (c : CounterSetup). c.source) c.source c (counters_of s.id lines) among refl in
    let mine : list_any (owns s.id p) (sources_in lines) ≡ true =
    ap (λ (x : Source). list_any (owns s.id (place_of x)) (sources_in lines)) is ∙ counter_owned s.id c.source lines lawful had in
    let there : list_any (λ (o : Owned). same_at (place_of o.source) p) (polled_of lines) ≡ true =
    any_back (λ (o : Owned). same_at (place_of o.source) p) (filter_map polled_in lines)
    ∙ polled_any s.id p lines (sym (any_back (λ (c : CounterSetup). same_at (place_of c.source) p) (filter_map (counter_in s.id) lines))
    ∙ any_implies (λ (d : CounterSetup). same_source c.source d.source) (λ (d : CounterSetup). same_at (place_of d.source) p)
    (λ (d : CounterSetup) h. same_at-self (place_of d.source) p (ap place_of (sym (source-eq c.source d.source h) ∙ sym is)))
    (counters_of s.id lines) had) in
    let owners = all_turned (λ (o : Owned). same_at (place_of o.source) p ≡ true → o.owner ≡ s.id) (filter_map polled_in lines)
    (all_so (filter_map polled_in lines) (λ o o_there at. one_owner o.owner s.id p lines lawful (among_owns o p (sources_in lines) o_there at) mine)
    (polled_there lines)) in
    let tally : tally_in id rows ≡ tally_of (lengths_in s.id p lines) =
    rows_at id rows ∙ ap (counted_at p) counts ∙ counted_one lines s.id p (polled_of lines) owners there in
    let seen = seen_as lines s p lawful mine in
    ap (λ (t : Tally). interface_at id.index t) (tally ∙ ap tally_of (sym seen))
    ∙ ap (λ (x : Source). counters_at (newest (boots_of lines s)).events x) is
  where
    all_so : (xs : List Owned) → {P Q : Owned → Type 0} → ((o : Owned) → P o → Q o) → AllByRecursion P xs → AllByRecursion Q xs
    all_so [] f h = tt
    all_so (x ∷ more) f h = (f x h.0, all_so more f h.1)
