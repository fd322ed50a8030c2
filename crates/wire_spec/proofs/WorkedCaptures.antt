-- The worked captures, as they are read.
use Rattle.std.proofs.Common.{◌≡◌, [], ◌∷◌, Ok, Err, refl}
use Rattle.wire_spec.specs.declared.input_kind.InputKind.TheVariants.{Magic, Version, Cut, Long, Padding}
use Rattle.wire_spec.specs.CaptureReading.{front_of_padding, front_of_body, front_of_entry, front_of, entries_reading, capture_reading}
use Rattle.wire_spec.specs.CaptureRows.{other_magic, other_version, cut_version, empty_capture, cut_capture, cut_length, cut_padding, cut_bad_padding, long_capture, badly_padded_capture, padded_capture, whole_capture, datagram, cut_datagram, entry_of}

pub reads_other_magic : capture_reading other_magic ≡ Err (0, Magic)
unfolding capture_reading
reads_other_magic = refl

pub reads_other_version : capture_reading other_version ≡ Err (4, Version)
unfolding capture_reading
reads_other_version = refl

pub reads_cut_version : capture_reading cut_version ≡ Err (4, Version)
unfolding capture_reading
reads_cut_version = refl

pub reads_nothing : capture_reading [] ≡ Err (0, Magic)
unfolding capture_reading
reads_nothing = refl

pub reads_cut : capture_reading cut_capture ≡ Err (8, Cut)
unfolding capture_reading entries_reading front_of front_of_entry
reads_cut = refl

pub reads_cut_length : capture_reading cut_length ≡ Err (8, Cut)
unfolding capture_reading entries_reading front_of front_of_entry
reads_cut_length = refl

pub reads_cut_padding : capture_reading cut_padding ≡ Err (8, Cut)
unfolding capture_reading entries_reading front_of front_of_entry front_of_body front_of_padding
reads_cut_padding = refl

pub reads_cut_bad_padding : capture_reading cut_bad_padding ≡ Err (22, Padding)
unfolding capture_reading entries_reading front_of front_of_entry front_of_body front_of_padding
reads_cut_bad_padding = refl

pub reads_long : capture_reading long_capture ≡ Err (16, Long)
unfolding capture_reading entries_reading front_of front_of_entry
reads_long = refl

pub reads_badly_padded : capture_reading badly_padded_capture ≡ Err (47, Padding)
unfolding capture_reading entries_reading front_of front_of_entry front_of_body front_of_padding
reads_badly_padded = refl

pub reads_empty : capture_reading empty_capture ≡ Ok []
unfolding capture_reading entries_reading front_of
reads_empty = refl

pub reads_whole : capture_reading whole_capture ≡ Ok (entry_of datagram ∷ [])
unfolding capture_reading entries_reading front_of front_of_entry front_of_body front_of_padding
reads_whole = refl

pub reads_padded : capture_reading padded_capture ≡ Ok (entry_of cut_datagram ∷ [])
unfolding capture_reading entries_reading front_of front_of_entry front_of_body front_of_padding
reads_padded = refl
