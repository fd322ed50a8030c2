use Rattle.std.proofs.Common.{◌≡◌, ◌∙◌, ◌≤◌, ℕ, Bool, true, false, ◌∷◌, map, pos, refl, sym, ap, subst, arith, rules}
use Rattle.std.specs.Prelude.{nat_lt}
use Rattle.count_spec.specs.TrueStretches.{newest_index}
use Rattle.books_spec.specs.Items.{SourceId}
use Rattle.books_spec.specs.Books.{onto}
use Rattle.account_spec.specs.Deliveries.{boot_of, numbers_of}
use Rattle.account_spec.specs.Arrivals.{arrived_from, arrived, arrived_of}
use Rattle.trial_premises.specs.Streams.{StreamState, SourcesStand, samples_of}
use Rattle.trial_premises.proofs.StreamSteps.{newest-is, stream-past, Prepared, prepared, answer_to, stream-more}
use Rattle.trial_premises.proofs.streams.StreamWatch.deliver.Goals as goal

pub returns-then-datagram-newest : goal.returns-then-datagram-newest
returns-then-datagram-newest c = rw (← c.self.view_is) (λ ids d before apart h are st.
    let was : StreamState = record {
      boots = c.self.inside.boots;
      window = c.self.inside.window;
      sources = c.self.inside.sources.items;
    } in
    let now : StreamState = record was { boots = c.enter.new.self } in
    let newest : c.newest_boot-newest.result ≡ newest_index boot_of before =
    c.newest_boot-newest.ensures ∙ newest-is c.self.inside.boots.newest before st.boots_stand.newest_is in
    stream-past c.args.limits.now ids was now c.args.datagram d before h (omega (arith, newest, h.boot))
    (c.enter.ensures.stands d before h (c.in_ok-reserve.ensures.same c.args.limits.now.boot_slack before st.boots_stand))
    refl refl st)

pub returns-then-not-enter_in_boot : goal.returns-then-not-enter_in_boot
returns-then-not-enter_in_boot c = rw (← c.self.view_is) (λ ids d before apart h are st.
    let l = c.args.limits.now in
    let was : StreamState = record {
      boots = c.self.inside.boots;
      window = c.self.inside.window;
      sources = c.self.inside.sources.items;
    } in
    let now : StreamState = record was { boots = c.enter.new.self; window = c.enter_in_boot.new.self } in
    let newest : c.newest_boot-newest.result ≡ newest_index boot_of before =
    c.newest_boot-newest.ensures ∙ newest-is c.self.inside.boots.newest before st.boots_stand.newest_is in
    let begins : Bool = nat_lt c.newest_boot-newest.result c.args.datagram.boot in
    let not_past : newest_index boot_of before ≤ boot_of d = omega (arith, newest, h.boot) in
    let p : Prepared l ids was d before begins = prepared l ids was c.args.datagram d before begins h
    (λ j. nat_lt (sym newest j) (h.boot j)) not_past st in
    let out : c.enter_in_boot.result ≡ false = search rules in
    let answer : false ≡ answer_to l.datagram_width (numbers_of p.current) c.args.datagram.number =
    sym out ∙ c.enter_in_boot.ensures.answer (numbers_of p.current) p.empty p.counted
    ∙ ap (λ (w : ℕ). answer_to w (numbers_of p.current) c.args.datagram.number) st.width_is in
    stream-more l ids was now c.args.datagram d before begins h p not_past
    (c.enter.ensures.stands d before h (c.in_ok-reserve.ensures.same l.boot_slack before st.boots_stand))
    (c.enter_in_boot.ensures.width ∙ st.width_is)
    (c.enter_in_boot.ensures.stands (numbers_of p.current) p.empty p.counted) st false answer p.sources_stand)

pub returns : goal.returns
returns c = rw (← c.self.view_is) (λ ids d before apart h are st.
    let l = c.args.limits.now in
    let t = c.args.datagram in
    let was : StreamState = record {
      boots = c.self.inside.boots;
      window = c.self.inside.window;
      sources = c.self.inside.sources.items;
    } in
    let now : StreamState = record {
      boots = c.enter.new.self;
      window = c.enter_in_boot.new.self;
      sources = c.enter_samples.new.sources.items;
    } in
    let newest : c.newest_boot-newest.result ≡ newest_index boot_of before =
    c.newest_boot-newest.ensures ∙ newest-is c.self.inside.boots.newest before st.boots_stand.newest_is in
    let begins : Bool = nat_lt c.newest_boot-newest.result t.boot in
    let not_past : newest_index boot_of before ≤ boot_of d = omega (arith, newest, h.boot) in
    let p : Prepared l ids was d before begins = prepared l ids was t d before begins h
    (λ j. nat_lt (sym newest j) (h.boot j)) not_past st in
    let in_now : c.enter_in_boot.result ≡ true = search rules in
    let answer : true ≡ answer_to l.datagram_width (numbers_of p.current) t.number =
    sym in_now ∙ c.enter_in_boot.ensures.answer (numbers_of p.current) p.empty p.counted
    ∙ ap (λ (w : ℕ). answer_to w (numbers_of p.current) t.number) st.width_is in
    let Over : ℕ → ℕ → Type 0 = λ b n. SourcesStand l.sample_width b (λ (id : SourceId).
    samples_of id (onto (arrived_from b (pos n) 0 d.datagram.samples) (arrived l.datagram_width p.current))
    ∷ map (arrived_of l.datagram_width id) p.closed) ids now.sources in
    let Old : ℕ → Type 0 = λ b. SourcesStand l.sample_width b (λ (id : SourceId).
    samples_of id (arrived l.datagram_width p.current) ∷ map (arrived_of l.datagram_width id) p.closed) ids was.sources in
    let entered : Over t.boot t.number = c.in_ok-enter_samples.ensures ids d.datagram.samples
    (arrived l.datagram_width p.current) (λ (id : SourceId). map (arrived_of l.datagram_width id) p.closed) apart h.counted are
    (subst Old h.boot p.sources_stand) in
    stream-more l ids was now t d before begins h p not_past
    (c.enter.ensures.stands d before h (c.in_ok-reserve.ensures.same l.boot_slack before st.boots_stand))
    (c.enter_in_boot.ensures.width ∙ st.width_is)
    (c.enter_in_boot.ensures.stands (numbers_of p.current) p.empty p.counted) st true answer
    (subst (λ b. Over b d.datagram.number) (sym h.boot) (subst (λ n. Over t.boot n) (sym h.number) entered)))
