-- A meter of one line more.
use Rattle.std.proofs.Common.{◌≡◌, ◌∙◌, ◌+◌, ◌%◌, ◌^◌, ◌==◌, ◌&&◌, ◌++◌, ℕ, Bool, true, false, cond, List, [], ◌∷◌, length, map, filter_map, refl, ap, sym, arith, if◌then◌else◌}
use Rattle.std.specs.List.{list_all}
use Rattle.std.proofs.lemmas.Bool.{eq-eqb, eqb-true, true≢false}
use Rattle.std.proofs.lemmas.List.{map-append}
use Rattle.std.proofs.lemmas.List.Sums.{sum_by-cons}
use Rattle.data_format.specs.declared.source.SourceId.{SourceId}
use Rattle.agent_spec.specs.Sources.{Source, CounterSetup, FlowSetup}
use Rattle.agent_spec.specs.Samples.{Packet}
use Rattle.script_spec.specs.Values.{Place}
use Rattle.script_spec.specs.Lines.{Line, MaxLine, SubLine, FlowLine, CounterLine, PacketLine, PollLine, SendLine, RestartLine, ResetLine, DeliverLine, Delivery, SubAgent, flow_at, place_of}
use Rattle.script_spec.specs.Agents.{Owned, same_place, sum_of}
use Rattle.script_spec.specs.Rules.{sets_up}
use Rattle.script_tables.proofs.ListTests.{turned}
use Rattle.script_meter.specs.declared.meter.CountedRow.{CountedRow}
use Rattle.script_meter.specs.declared.meter.Tally.{Tally}
use Rattle.script_meter.specs.Tallies.{Counted, Counts, counted, lengths_in, polled_in, polled_of, row_counted, tally_of, with_length, with_packet, with_restart}

-- ---- lines that set up

pub no_lengths : (owner : ℕ) (p : Place) (lines : List Line) → list_all sets_up lines ≡ true → lengths_in owner p lines ≡ []
no_lengths owner p [] e = refl
no_lengths owner p (MaxLine n ∷ before) e = no_lengths owner p before e
no_lengths owner p (SubLine s ∷ before) e = no_lengths owner p before e
no_lengths owner p (FlowLine id f ∷ before) e = no_lengths owner p before e
no_lengths owner p (CounterLine id c ∷ before) e = no_lengths owner p before e
no_lengths owner p (PacketLine q k ∷ before) e = absurd cc
no_lengths owner p (PollLine id now ∷ before) e = absurd cc
no_lengths owner p (SendLine id now ∷ before) e = absurd cc
no_lengths owner p (RestartLine id at ∷ before) e = absurd cc
no_lengths owner p (ResetLine s ∷ before) e = absurd cc
no_lengths owner p (DeliverLine d ∷ before) e = absurd cc

map_same : {X Y : Type 0} (f g : X → Y) → ((x : X) → f x ≡ g x) → (xs : List X) → map f xs ≡ map g xs
map_same f g h [] = refl
map_same f g h (x ∷ more) = ap (λ y. y ∷ map f more) (h x) ∙ ap (λ ys. g x ∷ ys) (map_same f g h more)

map_twice : {X Y Z : Type 0} (f : Y → Z) (g : X → Y) (xs : List X) → map f (map g xs) ≡ map (λ (x : X). f (g x)) xs
map_twice f g [] = refl
map_twice f g (x ∷ more) = ap (λ ys. f (g x) ∷ ys) (map_twice f g more)

module _ (rows : List CountedRow) (lines : List Line) (counts : Counts rows lines) where
  pub max_counts : (n : ℕ) → Counts rows (MaxLine n ∷ lines)
  max_counts n = counts

  pub sub_counts : (s : SubAgent) → Counts rows (SubLine s ∷ lines)
  sub_counts s = counts

  pub flow_counts : (id : ℕ) (f : FlowSetup) → Counts rows (FlowLine id f ∷ lines)
  flow_counts id f = counts

  pub poll_counts : (id now : ℕ) → Counts rows (PollLine id now ∷ lines)
  poll_counts id now = counts

  pub send_counts : (id now : ℕ) → Counts rows (SendLine id now ∷ lines)
  send_counts id now = counts

  pub reset_counts : (s : Source) → Counts rows (ResetLine s ∷ lines)
  reset_counts s = counts

  pub deliver_counts : (d : Delivery) → Counts rows (DeliverLine d ∷ lines)
  deliver_counts d = counts

  pub counter_counts : (owner : ℕ) (id : SourceId) (c : CounterSetup) → list_all sets_up lines ≡ true
      → record { flow = false; class = id.class; index = id.index } ≡ c.source
      → Counts (rows ++ record { owner = owner; source = id; tally = record { octets = 0; packets = 0 } } ∷ []) (CounterLine owner c ∷ lines)
  counter_counts owner id c all is =
      let row : CountedRow = record { owner = owner; source = id; tally = record { octets = 0; packets = 0 } } in
      let none : row_counted row ≡ counted lines (record { owner = owner; source = c.source }) =
      ap (λ (s : Source). record { owner = owner; source = s; tally = tally_of [] }) is
      ∙ ap (λ (l : List ℕ). record { owner = owner; source = c.source; tally = tally_of l }) (sym (no_lengths owner (place_of c.source) lines all)) in
      map-append row_counted rows (row ∷ [])
      ∙ ap (λ (cs : List Counted). cs ++ row_counted row ∷ []) counts
      ∙ ap (λ (x : Counted). map (counted lines) (polled_of lines) ++ x ∷ []) none
      ∙ sym (map-append (counted lines) (polled_of lines) (record { owner = owner; source = c.source } ∷ []))
      ∙ ap (map (counted lines)) (sym (turned (record { owner = owner; source = c.source }) (filter_map polled_in lines)))

  -- ---- packets and restarts

  abbrev made : Owned → Tally → Counted
  made o t = record { owner = o.owner; source = o.source; tally = t }

  abbrev packet_in : Place → ℕ → Counted → Counted
  packet_in p n x = record x { tally = cond (same_place (place_of x.source) (flow_at p)) (with_length n x.tally) x.tally }

  more_in : (n : ℕ) (l : List ℕ) → with_length n (tally_of l) ≡ tally_of (n ∷ l)
  more_in n l =
      let sum = sum_by-cons (λ (m : ℕ). m) n l in
      let octets : (sum_of l % 2 ^ 64 + n) % 2 ^ 64 ≡ sum_of (n ∷ l) % 2 ^ 64 = omega (arith, sum) in
      let packets : (length l % 2 ^ 32 + 1) % 2 ^ 32 ≡ length (n ∷ l) % 2 ^ 32 = omega arith in
      λ i. record { octets = octets i; packets = packets i }

  counted_more : (p : Place) (k : Packet) (o : Owned)
      → packet_in p k.frame_length (counted lines o) ≡ counted (PacketLine p k ∷ lines) o
  counted_more p k o = go (same_place (place_of o.source) (flow_at p))
    where
      go : (b : Bool)
          → made o (cond b (with_length k.frame_length (tally_of (lengths_in o.owner (place_of o.source) lines)))
          (tally_of (lengths_in o.owner (place_of o.source) lines)))
          ≡ made o (tally_of (if b then k.frame_length ∷ lengths_in o.owner (place_of o.source) lines
          else lengths_in o.owner (place_of o.source) lines))
      go true = ap (made o)
          (more_in k.frame_length (lengths_in o.owner (place_of o.source) lines))
      go false = refl

  row_more : (id : SourceId) (n : ℕ) (r : CountedRow)
      → row_counted (with_packet id n r) ≡ packet_in (record { class = id.class; index = id.index }) n (row_counted r)
  row_more id n r = go ((r.source.class == id.class) && (r.source.index == id.index))
    where
      go : (b : Bool) → row_counted (cond b (record r { tally = with_length n r.tally }) r)
          ≡ record (row_counted r) { tally = cond b (with_length n r.tally) r.tally }
      go true = refl
      go false = refl

  pub packet_counts : (id : SourceId) (k : Packet)
      → Counts (map (with_packet id k.frame_length) rows) (PacketLine (record { class = id.class; index = id.index }) k ∷ lines)
  packet_counts id k =
      let p : Place = record { class = id.class; index = id.index } in
      map_twice row_counted (with_packet id k.frame_length) rows
      ∙ map_same (λ (r : CountedRow). row_counted (with_packet id k.frame_length r)) (λ (r : CountedRow). packet_in p k.frame_length (row_counted r)) (row_more id k.frame_length) rows
      ∙ sym (map_twice (packet_in p k.frame_length) row_counted rows)
      ∙ ap (map (packet_in p k.frame_length)) counts
      ∙ map_twice (packet_in p k.frame_length) (counted lines) (polled_of lines)
      ∙ map_same (λ (o : Owned). packet_in p k.frame_length (counted lines o)) (counted (PacketLine p k ∷ lines)) (counted_more p k) (polled_of lines)

  abbrev restart_in : ℕ → Counted → Counted
  restart_in owner x = record x { tally = cond (x.owner == owner) (record { octets = 0; packets = 0 }) x.tally }

  counted_anew : (id at : ℕ) (o : Owned) → restart_in id (counted lines o) ≡ counted (RestartLine id at ∷ lines) o
  counted_anew id at o = go (o.owner == id) (id == o.owner) (turn o.owner id)
    where
      turn : (a b : ℕ) → (a == b) ≡ (b == a)
      turn a b = same (a == b) (b == a) refl refl
        where
          same : (x y : Bool) → (a == b) ≡ x → (b == a) ≡ y → x ≡ y
          same true true d e = refl
          same false false d e = refl
          same true false d e = absurd (true≢false (sym (eq-eqb b a (sym (eqb-true a b d))) ∙ e))
          same false true d e = absurd (true≢false (sym (eq-eqb a b (sym (eqb-true b a e))) ∙ d))

      go : (b c : Bool) → b ≡ c
          → made o (cond b (record { octets = 0; packets = 0 }) (tally_of (lengths_in o.owner (place_of o.source) lines)))
          ≡ made o (tally_of (if c then [] else lengths_in o.owner (place_of o.source) lines))
      go true true e = refl
      go false false e = refl
      go true false e = absurd cc
      go false true e = absurd cc

  row_anew : (id : ℕ) (r : CountedRow) → row_counted (with_restart id r) ≡ restart_in id (row_counted r)
  row_anew id r = go (r.owner == id)
    where
      go : (b : Bool) → row_counted (cond b (record r { tally = record { octets = 0; packets = 0 } }) r)
          ≡ record (row_counted r) { tally = cond b (record { octets = 0; packets = 0 }) r.tally }
      go true = refl
      go false = refl

  pub restart_counts : (id at : ℕ) → Counts (map (with_restart id) rows) (RestartLine id at ∷ lines)
  restart_counts id at =
      map_twice row_counted (with_restart id) rows
      ∙ map_same (λ (r : CountedRow). row_counted (with_restart id r)) (λ (r : CountedRow). restart_in id (row_counted r)) (row_anew id) rows
      ∙ sym (map_twice (restart_in id) row_counted rows)
      ∙ ap (map (restart_in id)) counts
      ∙ map_twice (restart_in id) (counted lines) (polled_of lines)
      ∙ map_same (λ (o : Owned). restart_in id (counted lines o)) (counted (RestartLine id at ∷ lines)) (counted_anew id at) (polled_of lines)
