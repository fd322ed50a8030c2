-- The forms of input that commands read, and how the reading of an input may end.
use Rattle.std.specs.Prelude.{ℕ, List, Option}
use Rattle.wire_spec.specs.declared.input_kind.InputKind.{InputKind}
use Rattle.capture_spec.specs.declared.capture_version.CaptureVersion.{CaptureVersion}
use Rattle.capture_spec.specs.Items.{Received}
use Rattle.sflow_io.specs.CaptureSteps.{BeginsWithEntries, FaultBehind, GoesOn, IsAllOf}
use Rattle.sflow_io.specs.ReadFaults.{StopsBehind}
use Rattle.capture_spec.specs.PcapFiles.{Packet}
use Rattle.script_spec.specs.Lines.{Line}
use Rattle.script_laws.specs.SoFar.{BeginsWithLines, IsScriptOf}
use Rattle.pcap_file.specs.PcapFaults as pcap_faults
use Rattle.pcap_file.specs.PcapSteps as pcap
use Rattle.command_runs.specs.ScriptSteps.{NeverGoesOn, ScriptFaultBehind, StopsInScript}

-- a form of input, of which reading gives an X
pub record Grammar (X : Type 0) : Type 1 where
  -- the input begins with these
  pub begins : X → List ℕ → Type 0
  -- these are all of the input
  pub all : X → List ℕ → Type 0
  -- behind these stands the fault of the input, at this offset and of this kind
  pub fault : X → List ℕ → ℕ → InputKind → Type 0
  -- behind these, as many as are read at most, the input goes on
  pub goes_on : X → List ℕ → Type 0
  -- a read has failed: these are all that left the source whole, which has so much left
  pub stops : X → List ℕ → Option (List ℕ) → Type 0

-- the version of a capture, and its entries
pub record Capture : Type 0 where
  pub version : CaptureVersion
  pub entries : List Received

-- Captures of either version, entry by entry. Where there are entries they tell the version; so it matters only where the
-- capture is read to its end.
abbrev pub captures : Grammar Capture
captures = record {
  begins = λ c input. BeginsWithEntries input c.entries;
  all = λ c. IsAllOf c.version c.entries;
  fault = λ c. FaultBehind c.entries;
  goes_on = λ c. GoesOn c.entries;
  stops = λ c. StopsBehind c.entries;
}

-- classic pcap files, packet by packet
abbrev pub pcap_files : Grammar (List Packet)
pcap_files = record {
  begins = pcap.BeginsWithPackets;
  all = pcap.IsAllOf;
  fault = pcap.FaultBehind;
  goes_on = pcap.GoesOn;
  stops = pcap_faults.StopsBehind;
}

-- scripts, line by line; a list of lines has the latest first
abbrev pub scripts : Grammar (List Line)
scripts = record {
  begins = BeginsWithLines;
  all = IsScriptOf;
  fault = ScriptFaultBehind;
  goes_on = NeverGoesOn;
  stops = StopsInScript;
}
