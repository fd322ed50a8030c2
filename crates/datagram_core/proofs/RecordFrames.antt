-- The record that was read from a frame is that of the frame.
use Rattle.std.proofs.Common.{◌≡◌, ◌+◌, ◌<◌, ◌^◌, length, Ok, sym, ap, subst}
use Rattle.wire_spec.specs.declared.pad.Pad.TheVariants as pads
use Rattle.wire_spec.specs.Shapes.{other}
use Rattle.wire_spec.specs.Reading.{inside_at}
use Rattle.data_format.specs.declared.format.Format.{Format}
use Rattle.data_format.specs.declared.format.Frame.{Frame}
use Rattle.data_format.specs.Trees.{tree_or}
use Rattle.data_format.specs.Views.{IsFormat, frame_view, body_of, format_word}
use Rattle.datagram_core.specs.declared.records.Record.{Record}
use Rattle.datagram_core.specs.declared.records.RecordKind.{RecordKind}
use Rattle.datagram_core.specs.Descriptions.{Description, Read, Kept, described}
use Rattle.datagram_core.specs.Records.{record_tree, table_of, IsFrameIn, IsRecordOf, IsThisIn, IsRecordFrom}

itself : (frame : Frame) (d : Description) → IsFormat frame.format → frame.at + length frame.body.now < 2 ^ 32
    → IsThisIn frame d → IsFrameIn (frame_view frame) d
itself frame (Read kind k x) fits place this = tt
itself frame (Kept g) fits place this =
    let P : Format → Type 0 = IsFormat in (this.1, subst P (sym this.0) fits, place)

pub record_of_frame : (kind : RecordKind) (frame : Frame) (r : Record) → IsFormat frame.format
    → frame.at + length frame.body.now < 2 ^ 32
    → inside_at pads.Any (table_of kind) (format_word frame.format) (body_of (frame_view frame)) ≡ Ok (record_tree r)
    → IsRecordFrom frame r → IsRecordOf kind (frame_view frame) r
record_of_frame kind frame r fits place read from = record {
  value = sym (ap (tree_or (other (format_word frame.format) frame.body.now)) read);
  itself = itself frame (described r) fits place from.itself;
  slices = from.slices;
}
