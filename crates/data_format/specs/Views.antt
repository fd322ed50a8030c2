-- Formats and frames as contracts see them.
use Rattle.std.specs.Prelude.{ℕ, ◌+◌, ◌*◌, ◌<◌, ◌^◌, List}
use Rattle.wire_spec.specs.Fails.{Remaining}
use Rattle.data_format.specs.declared.format.Format.{Format}
use Rattle.data_format.specs.declared.format.Frame.{Frame}

-- the word of a format: the enterprise in the upper 20 bits, the number in the lower 12
abbrev pub format_word : Format → ℕ
format_word f = f.enterprise * 4096 + f.number

-- the format is that of a word
abbrev pub IsFormat : Format → Type 0
IsFormat f = (f.enterprise < 2 ^ 20) × (f.number < 2 ^ 12)

-- a frame without where it lies in memory: the format word, the body, and the place of the body
pub record FrameView : Type 0 where
  pub format : ℕ
  pub body : List ℕ
  pub at : ℕ

abbrev pub frame_view : Frame → FrameView
frame_view f = record { format = format_word f.format; body = f.body.now; at = f.at }

-- the body at its place
abbrev pub body_of : FrameView → Remaining
body_of f = record { at = f.at; bytes = f.body }
