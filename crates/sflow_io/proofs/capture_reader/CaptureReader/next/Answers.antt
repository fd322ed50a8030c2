use Rattle.std.proofs.Common.{◌≡◌, ℕ, List, None, Result, Err, sym, ap, ◌∙◌}
use Rattle.std.specs.Io.KnownBytes.{prepend_known}
use Rattle.capture_spec.specs.declared.capture_version.CaptureVersion.{CaptureVersion}
use Rattle.sflow_io.specs.declared.capture.ReadRefusal.{ReadRefusal}
use Rattle.sflow_io.specs.declared.capture.ReadRefusal.TheVariants.{ReadFault}
use Rattle.sflow_io.specs.declared.capture.Stage.TheVariants.{Start}
use Rattle.sflow_io.specs.CaptureAnswers.{ReaderState}
use Rattle.sflow_io.proofs.Begins.{starts_with_entry, starts_with_refusal}
use Rattle.sflow_io.proofs.CaptureSteps.{begins_behind, refused_at_start}
use Rattle.sflow_io.proofs.capture_reader.CaptureReader.next.Goals as goal

pub returns-in-Ok-clause-told : goal.returns-in-Ok-clause-told
returns-in-Ok-clause-told g c = λ bytes told.
    let stage : c.args.self.now.stage ≡ Start =
    ap (λ (r : ReaderState). r.stage) (sym c.self.view_is) ∙ c.in-Start.is in
    let held : c.self.inside.ahead ≡ c.args.self.now.held = ap (λ (r : ReaderState). r.held) c.self.view_is in
    let header =
    c.in-Ok.ensures.told bytes
    (ap (λ (l : List ℕ). prepend_known l (g.S.Source.seen c.args.source.now).told) held ∙ told) in
    rw (stage, c.go_on.ensures.stage)
    (starts_with_entry c.in-Ok.version bytes header.0 _ _ _ header.1 (c.go_on.ensures.told header.0 header.2))

pub returns-in-Err-clause-told : goal.returns-in-Err-clause-told
returns-in-Err-clause-told g c = λ bytes told.
    let stage : c.args.self.now.stage ≡ Start =
    ap (λ (r : ReaderState). r.stage) (sym c.self.view_is) ∙ c.in-Start.is in
    let held : c.self.inside.ahead ≡ c.args.self.now.held = ap (λ (r : ReaderState). r.held) c.self.view_is in
    let header =
    c.in-Err.ensures.told bytes
    (ap (λ (l : List ℕ). prepend_known l (g.S.Source.seen c.args.source.now).told) held ∙ told) in
    rw stage (starts_with_refusal bytes _ None _ c.in-Err.refusal header)

pub returns-in-Ok-clause-given : goal.returns-in-Ok-clause-given
returns-in-Ok-clause-given g c = λ bytes entries are given.
    let stage : c.args.self.now.stage ≡ Start =
    ap (λ (r : ReaderState). r.stage) (sym c.self.view_is) ∙ c.in-Start.is in
    let held : c.self.inside.ahead ≡ c.args.self.now.held = ap (λ (r : ReaderState). r.held) c.self.view_is in
    let start = rw stage at given in
    let told = ap (λ (l : List ℕ). prepend_known l (g.S.Source.seen c.args.source.now).told) held ∙ start.1 in
    c.go_on.ensures.given bytes entries are
    (begins_behind c.in-Ok.version bytes entries _ _ start.0 told c.in-Ok.ensures.told)

pub returns-in-Err-clause-given : goal.returns-in-Err-clause-given
returns-in-Err-clause-given g c = λ bytes entries are given.
    let stage : c.args.self.now.stage ≡ Start =
    ap (λ (r : ReaderState). r.stage) (sym c.self.view_is) ∙ c.in-Start.is in
    let held : c.self.inside.ahead ≡ c.args.self.now.held = ap (λ (r : ReaderState). r.held) c.self.view_is in
    let start = rw stage at given in
    let told = ap (λ (l : List ℕ). prepend_known l (g.S.Source.seen c.args.source.now).told) held ∙ start.1 in
    refused_at_start bytes entries _ None _ _ start.0 told c.in-Err.ensures.told (λ is.
    let failed : ◌≡◌ {A = Result CaptureVersion ReadRefusal} (Err c.in-Err.refusal) (Err ReadFault) = ap (λ r. Err r) is in
    c.in-Err.ensures.stops failed)
