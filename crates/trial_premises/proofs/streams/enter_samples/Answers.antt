use Rattle.std.proofs.Common.{◌≡◌, ◌∙◌, ◌+◌, ℕ, suc, List, [], ◌∷◌, drop, pos, refl, sym, ap, subst, arith}
use Rattle.agent_spec.specs.Samples.{Sample}
use Rattle.books_spec.specs.Books.{onto}
use Rattle.account_spec.specs.Arrivals.{Arrived, arrived_from}
use Rattle.trial_premises.specs.Streams.{SourcesStand, samples_of}
use Rattle.trial_premises.proofs.Lists.{drop-past, samples-length, sample-at}
use Rattle.trial_premises.proofs.streams.enter_samples.Goals as goal

pub loop-index-init : goal.loop-index-init
loop-index-init c = λ ids given before closed apart some are st. (before, st, refl)

pub loop-index-preserved : goal.loop-index-preserved
loop-index-preserved c = λ ids given before closed apart some are st.
    let d = c.loop-index.invariant ids given before closed apart some are st in
    let at = sample-at ids c.args.samples.now given c.loop-index.index
    (record { source = 0; generation = 0; number = 0; pool = 0; drops = 0 }) are (omega arith) in
    let a : Arrived = record {
      boot = c.args.boot;
      place = record { datagram = pos c.args.number; index = c.loop-index.index };
      sample = at.sample;
    } in
    let next : c.loop-index.index + 1 ≡ suc c.loop-index.index = omega arith in (
      a ∷ d.0,
      c.in_ok-enter_sample.ensures ids a d.0 closed apart some (record {
        generation = at.is.generation;
        counted = at.is.counted;
        number = at.is.number;
        pool = at.is.pool;
        drops = at.is.drops;
        place = refl;
      }) at.is.source d.1,
      ap (λ (k : ℕ). onto (arrived_from c.args.boot (pos c.args.number) k (drop (c.loop-index.index + 1) given)) (a ∷ d.0)) next
          ∙ sym (ap (λ (ss : List Sample). onto (arrived_from c.args.boot (pos c.args.number) c.loop-index.index ss) d.0) at.from)
          ∙ d.2,
    )

pub returns : goal.returns
returns c = λ ids given before closed apart some are st.
    let d = c.loop-index.invariant ids given before closed apart some are st in
    let all : drop c.loop-index.index given ≡ [] =
    drop-past given c.loop-index.index (omega (arith, samples-length ids c.args.samples.now given are)) in
    let is : d.0 ≡ onto (arrived_from c.args.boot (pos c.args.number) 0 given) before =
    sym (ap (λ (ss : List Sample). onto (arrived_from c.args.boot (pos c.args.number) c.loop-index.index ss) d.0) all) ∙ d.2 in
    let P : List Arrived → Type 0 =
    λ xs. SourcesStand c.args.width c.args.boot (λ id. samples_of id xs ∷ closed id) ids c.loop-index.sources.items in
    subst P is d.1
