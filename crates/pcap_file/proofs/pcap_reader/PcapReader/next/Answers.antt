use Rattle.std.proofs.Common.{◌≡◌, ℕ, List, drop, None, Result, Err, sym, ap, ◌∙◌}
use Rattle.capture_spec.specs.declared.byte_order.ByteOrder.{ByteOrder}
use Rattle.sflow_io.specs.declared.capture.ReadRefusal.{ReadRefusal}
use Rattle.sflow_io.specs.declared.capture.ReadRefusal.TheVariants.{ReadFault}
use Rattle.std.specs.Io.KnownBytes.{prepend_known}
use Rattle.pcap_file.specs.declared.reading.PcapStage.TheVariants.{Start}
use Rattle.pcap_file.specs.PcapAnswers.{ReaderState}
use Rattle.pcap_file.proofs.Begins.{starts_with_packet}
use Rattle.pcap_file.proofs.PcapSteps.{begins_behind, refused_at_start}
use Rattle.pcap_file.proofs.pcap_reader.PcapReader.next.Goals as goal

pub returns-in-Ok-clause-told : goal.returns-in-Ok-clause-told
returns-in-Ok-clause-told g c = λ bytes told.
    let stage : c.args.self.now.stage ≡ Start =
    ap (λ (r : ReaderState). r.stage) (sym c.self.view_is) ∙ c.in-Start.is in
    let held : c.self.inside.ahead ≡ c.args.self.now.held = ap (λ (r : ReaderState). r.held) c.self.view_is in
    let header =
    c.in-Ok.ensures.told bytes
    (ap (λ (l : List ℕ). prepend_known l (g.S.Source.seen c.args.source.now).told) held ∙ told) in
    rw (stage, c.go_on.ensures.stage)
    (starts_with_packet c.in-Ok.order bytes _ _ _ header.0 (c.go_on.ensures.told (drop 24 bytes) header.1))

pub returns-in-Ok-clause-given : goal.returns-in-Ok-clause-given
returns-in-Ok-clause-given g c = λ bytes packets given.
    let stage : c.args.self.now.stage ≡ Start =
    ap (λ (r : ReaderState). r.stage) (sym c.self.view_is) ∙ c.in-Start.is in
    let held : c.self.inside.ahead ≡ c.args.self.now.held = ap (λ (r : ReaderState). r.held) c.self.view_is in
    let start = rw stage at given in
    let told = ap (λ (l : List ℕ). prepend_known l (g.S.Source.seen c.args.source.now).told) held ∙ start.1 in
    c.go_on.ensures.given bytes packets
    (begins_behind c.in-Ok.order bytes packets _ _ start.0 told c.in-Ok.ensures.told)

pub returns-in-Err-clause-given : goal.returns-in-Err-clause-given
returns-in-Err-clause-given g c = λ bytes packets given.
    let stage : c.args.self.now.stage ≡ Start =
    ap (λ (r : ReaderState). r.stage) (sym c.self.view_is) ∙ c.in-Start.is in
    let held : c.self.inside.ahead ≡ c.args.self.now.held = ap (λ (r : ReaderState). r.held) c.self.view_is in
    let start = rw stage at given in
    let told = ap (λ (l : List ℕ). prepend_known l (g.S.Source.seen c.args.source.now).told) held ∙ start.1 in
    refused_at_start bytes packets _ None _ _ start.0 told c.in-Err.ensures.told (λ is.
    let failed : ◌≡◌ {A = Result ByteOrder ReadRefusal} (Err c.in-Err.refusal) (Err ReadFault) = ap (λ r. Err r) is in
    c.in-Err.ensures.stops failed)
