use Rattle.std.proofs.Common.{length, ap, ◌∙◌}
use Rattle.text_lines.proofs.PageLaws.{prints_same}
use Rattle.show_lines.proofs.Places.{front-flow, front-flowx, front-counters, front-countersx, front-other}
use Rattle.show_lines.proofs.sample.put_sample_front.Goals as goal

pub returns-in-Flow : goal.returns-in-Flow
returns-in-Flow g c = λ f is.
    let count = c.len.ensures ∙ ap length c.frames.ensures in
    prints_same _ _ _ _ _ _ _ (front-flow _ _ _ _ c.in-Flow.is c.head.ensures.head count c.head.ensures.form)
    c.put_flow.ensures

pub returns-in-Counters : goal.returns-in-Counters
returns-in-Counters g c = λ f is.
    let count = c.len-in-Counters.ensures ∙ ap length c.frames-in-Counters.ensures in
    let head = c.head-in-Counters.ensures in
    prints_same _ _ _ _ _ _ _ (front-counters _ _ _ _ c.in-Counters.is head.head count head.form)
    c.put_counters.ensures

pub returns-in-FlowX : goal.returns-in-FlowX
returns-in-FlowX g c = λ f is.
    let count = c.len-in-FlowX.ensures ∙ ap length c.frames-in-FlowX.ensures in
    prints_same _ _ _ _ _ _ _ (front-flowx _ _ _ _ c.in-FlowX.is c.head-in-FlowX.ensures.head count)
    c.put_flow-in-FlowX.ensures

pub returns-in-CountersX : goal.returns-in-CountersX
returns-in-CountersX g c = λ f is.
    let count = c.len-in-CountersX.ensures ∙ ap length c.frames-in-CountersX.ensures in
    prints_same _ _ _ _ _ _ _ (front-countersx _ _ _ _ c.in-CountersX.is c.head-in-CountersX.ensures.head count)
    c.put_counters-in-CountersX.ensures

pub returns-in-Other : goal.returns-in-Other
returns-in-Other g c = λ f is.
    prints_same _ _ _ _ _ _ _ (front-other _ f _ c.in-Other.is is) c.put_frame.ensures
