use Rattle.std.proofs.Common.{◌≡◌, ◌∙◌, ◌+◌, Bool, true, false, sym, ap}
use Rattle.agent_spec.specs.Marks.{is_marked}
use Rattle.agent_sampler.specs.Sampling.{marks_after}
use Rattle.agent_sampler.specs.declared.sampler.Marks.{Marks}
use Rattle.sub_agents.specs.declared.sources.Taken.TheVariants.{Issued}
use Rattle.sub_agents.specs.Counts.{taken_of}
use Rattle.sub_agents.proofs.Taking.{isnt-marked, is-marked}
use Rattle.sub_agents.proofs.sources.FlowSource.take.Goals as goal

pub returns-in-Passed-clause-taken : goal.returns-in-Passed-clause-taken
returns-in-Passed-clause-taken c = λ k h.
    let s = c.args.self.now.sampler in
    let m = isnt-marked (is_marked s.skips (1 + k.packets)) c.observe.result
    (c.observe.ensures.verdict k.packets k.issued k.dropped h) c.in-Passed.is in
    sym (ap (λ (x : Bool). taken_of s.begin x c.args.has_place k) m)

pub returns-then-not-has_place-clause-taken : goal.returns-then-not-has_place-clause-taken
returns-then-not-has_place-clause-taken c = λ k h.
    let s = c.args.self.now.sampler in
    let m = is-marked (is_marked s.skips (1 + k.packets)) c.observe.result
    (c.observe.ensures.verdict k.packets k.issued k.dropped h) c.in-Marked.is in
    let none : c.args.has_place ≡ false = c.if-not-has_place.true in
    sym (λ i. taken_of s.begin (m i) (none i) k)

pub returns-else-not-has_place-clause-taken : goal.returns-else-not-has_place-clause-taken
returns-else-not-has_place-clause-taken c = λ k h.
    let s = c.args.self.now.sampler in
    let m = is-marked (is_marked s.skips (1 + k.packets)) c.observe.result
    (c.observe.ensures.verdict k.packets k.issued k.dropped h) c.in-Marked.is in
    let some : c.args.has_place ≡ true = c.if-not-has_place.false in
    let marks : c.marks-marks.result ≡ marks_after s.begin (1 + k.packets) k.issued k.dropped =
    c.marks-marks.ensures (1 + k.packets) k.issued k.dropped (c.observe.ensures.stands k.packets k.issued k.dropped h)
    ∙ ap (λ (b : Marks). marks_after b (1 + k.packets) k.issued k.dropped) c.observe.ensures.begin in
    ap (λ (x : Marks). Issued x) marks ∙ sym (λ i. taken_of s.begin (m i) (some i) k)
