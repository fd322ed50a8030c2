use Rattle.std.proofs.Common.{ℕ, List, ◌++◌, ap}
use Rattle.capture_spec.specs.declared.capture_version.CaptureVersion.{CaptureVersion}
use Rattle.capture_spec.specs.VersionedCaptures.{received_bytes}
use Rattle.sflow_io.specs.Senders.{sender_in}
use Rattle.text_lines.proofs.PageLaws.{prints_first, prints_same, prints_second}
use Rattle.sflow_tool.specs.Canons.{canonical, header_before, version_with}
use Rattle.sflow_tool.proofs.canon.put_whole.Goals as goal

pub returns-in_err-put_header_before :
    goal.returns-in_err-put_header_before
returns-in_err-put_header_before g c =
    let text : CaptureVersion → List ℕ = λ v. header_before c.args.number v
    ++ received_bytes (version_with (sender_in c.args.from)) (record { arrival = c.args.at; sender = sender_in c.args.from; bytes = canonical c.args.bytes.now }) in
    prints_same _ _ _ _ _ _ _ (ap text c.version_with.ensures)
    (prints_first _ _ _ _ _ _ _ _ c.from_residual.ensures.1 c.in_err-put_header_before.ensures)

pub returns : goal.returns
returns g c =
    let text : CaptureVersion → List ℕ = λ v. header_before c.args.number v
    ++ received_bytes (version_with (sender_in c.args.from)) (record { arrival = c.args.at; sender = sender_in c.args.from; bytes = canonical c.args.bytes.now }) in
    prints_same _ _ _ _ _ _ _ (ap text c.version_with.ensures)
    (prints_second _ _ _ _ _ _ _ _ _ c.in_ok-put_header_before.ensures c.put_canonical.ensures)
