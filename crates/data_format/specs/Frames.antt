-- Frames that are read one after the other.
use Rattle.std.specs.Prelude.{ℕ, List, [], length, Result, Ok, Err, IsOk}
use Rattle.wire_spec.specs.declared.pad.Pad.{Pad}
use Rattle.wire_spec.specs.declared.pad.Pad.TheVariants as pads
use Rattle.wire_spec.specs.declared.fault.Fault.{Fault}
use Rattle.wire_spec.specs.Fails.{Remaining}
use Rattle.wire_spec.specs.Reading.{◌>>=◌, word_at, body_end_at}
use Rattle.wire_spec.specs.Bodies.{counted_body_at, items_at}
use Rattle.data_format.specs.Views.{FrameView}

-- the fault that is found in a frame's body, or none
abbrev pub Test : Type 0
Test = FrameView → Result (Unit {0}) Fault

abbrev pub frame_of : ℕ → Remaining → FrameView
frame_of format body = record { format = format; body = body.bytes; at = body.at }

-- behind the body: its test, and then its padding
abbrev pub tested_at : Pad → Test → ℕ → Remaining × Remaining → Result (FrameView × Remaining) Fault
tested_at p test k x = test (frame_of k x.0) >>= λ _. body_end_at p (length x.0.bytes) x.1 >>= λ e. Ok (frame_of k x.0, e.1)

-- a format word, a body behind its length word, its test and its padding
abbrev pub checked_at : Pad → Test → Remaining → Result (FrameView × Remaining) Fault
checked_at p test b = word_at b >>= λ k. counted_body_at k.1 >>= tested_at p test k.0

-- a count word, and that many frames
abbrev pub frames_at : Pad → Test → Remaining → Result (List FrameView × Remaining) Fault
frames_at p test b = word_at b >>= λ n. items_at (checked_at p test) n.0 n.1

-- ---- frames that were read once

-- any frame
abbrev pub frame_at : Remaining → Result (FrameView × Remaining) Fault
frame_at b = checked_at pads.Any (λ _. Ok tt) b

abbrev pub list_of : {A : Type 0} → Result (List A × Remaining) Fault → List A
list_of (Ok x) = x.0
list_of (Err f) = []

-- the n frames that stand there
unfoldable pub frames_in : ℕ → Remaining → List FrameView
frames_in n b = list_of (items_at frame_at n b)

-- n frames stand there
unfoldable pub AreFrames : ℕ → Remaining → Type 0
AreFrames n b = IsOk (items_at frame_at n b)
