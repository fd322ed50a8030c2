-- What is written of entries with zero padding, one after the other.
use Rattle.std.proofs.Common.{◌≡◌, ◌∙◌, ◌≤◌, ◌+◌, ℕ, ◌==◌, false, if◌then◌else◌, List, [], ◌∷◌, ◌++◌, length, refl, sym, ap, ap₂, append_assoc, arith}
use Rattle.std.proofs.lemmas.Bool.Decides.{nat_tests}
use Rattle.std.proofs.lemmas.List.{length-map}
use Rattle.std.proofs.lemmas.List.Elements.{All-head, All-tail}
use Rattle.capture_spec.specs.declared.capture_version.CaptureVersion.{CaptureVersion}
use Rattle.capture_spec.specs.declared.capture_version.CaptureVersion.TheVariants as versions
use Rattle.capture_spec.specs.Items.{Received}
use Rattle.capture_spec.specs.VersionedCaptures.{IsReceived, all_received, ending_bytes, opened_bytes, received_bytes, whole_bytes}
use Rattle.capture_spec.proofs.VersionedWalks.{none_opened}
use Rattle.command_words.specs.declared.command.CanonVersion.{CanonVersion}
use Rattle.command_words.specs.declared.command.CanonVersion.TheVariants.{Same, Two}
use Rattle.command_runs.specs.Lines.{lines_of}
use Rattle.command_runs.specs.Tasks.{AreOf}
use Rattle.sflow_tool.specs.Canons.{begun_capture, canonical_entries, canonical_entry, canon_line, end_put, version_header, version_with, written_version}

-- ---- versions

version_read : (v : CaptureVersion) (e : Received) → IsReceived v e → version_with e.sender ≡ v
version_read versions.One e h = ap version_with h.0
version_read versions.Two e h = ap version_with h.sender_is

-- an entry of this version is written in that one
version_put : (to : CanonVersion) (v : CaptureVersion) (e : Received) → IsReceived v e
    → version_with (canonical_entry to e).sender ≡ written_version to v
version_put Same v e h = version_read v e h
version_put Two v e h = refl

-- ---- lines

no_header : (number : ℕ) → 2 ≤ number → (number == 1) ≡ false
no_header number more = grind (arith, nat_tests)

lines_later : (to : CanonVersion) (v : CaptureVersion) (number : ℕ) (entries : List Received) → AreOf v entries
    → 2 ≤ number
    → lines_of (canon_line to) number entries ≡ all_received (written_version to v) (canonical_entries to entries)
lines_later to v number [] are more = refl
lines_later to v number (e ∷ entries) are more =
    let w : Received = canonical_entry to e in
    let u : CaptureVersion = version_with w.sender in
    let others : List ℕ = all_received (written_version to v) (canonical_entries to entries) in
    ap₂ (λ b l. ((if b then version_header u else []) ++ received_bytes u w) ++ l) (no_header number more)
    (lines_later to v (number + 1) entries (All-tail (IsReceived v) e entries are) (omega (arith, more)))
    ∙ ap (λ (x : CaptureVersion). received_bytes x w ++ others)
    (version_put to v e (All-head (IsReceived v) e entries are))

-- the lines are a capture, if there are any
pub canon_lines : (to : CanonVersion) (v : CaptureVersion) (entries : List Received) → AreOf v entries
    → lines_of (canon_line to) 1 entries ≡ begun_capture (canonical_entries to entries)
unfolding opened_bytes
canon_lines to v [] are = refl
canon_lines to v (e ∷ entries) are =
    let w : Received = canonical_entry to e in
    let u : CaptureVersion = version_with w.sender in
    let later =
    lines_later to v 2 entries (All-tail (IsReceived v) e entries are) (omega arith)
    ∙ ap (λ (x : CaptureVersion). all_received x (canonical_entries to entries))
    (sym (version_put to v e (All-head (IsReceived v) e entries are))) in
    append_assoc (version_header u) (received_bytes u w) (lines_of (canon_line to) 2 entries)
    ∙ ap (λ l. version_header u ++ (received_bytes u w ++ l)) later

-- and with what stands behind them, and the header where there were none, they always are
pub canon_whole : (to : CanonVersion) (v : CaptureVersion) (entries : List Received) → AreOf v entries
    → lines_of (canon_line to) 1 entries ++ end_put (length entries) (written_version to v)
    ≡ whole_bytes (written_version to v) (canonical_entries to entries)
canon_whole to v [] are =
    ap (λ l. l ++ ending_bytes (written_version to v) 0) (sym (none_opened (written_version to v)))
canon_whole to v (e ∷ entries) are =
    let x : CaptureVersion = written_version to v in
    let written : List Received = canonical_entries to (e ∷ entries) in
    let some : (length (e ∷ entries) == 0) ≡ false = grind arith in
    ap (λ b. lines_of (canon_line to) 1 (e ∷ entries) ++ ((if b then version_header x else []) ++ ending_bytes x (length (e ∷ entries)))) some
    ∙ ap (λ l. l ++ ending_bytes x (length (e ∷ entries)))
    (canon_lines to v (e ∷ entries) are
    ∙ ap (λ (y : CaptureVersion). opened_bytes y written) (version_put to v e (All-head (IsReceived v) e entries are)))
    ∙ ap (λ n. opened_bytes x written ++ ending_bytes x n) (sym (length-map (e ∷ entries) (canonical_entry to)))
