use Rattle.std.proofs.Common.{[], ◌∷◌, Ok, Err, refl}
use Rattle.wire_spec.specs.declared.input_kind.InputKind.TheVariants.{Magic, Version, Cut, Long, Padding}
use Rattle.wire_spec.specs.CaptureRows.{other_magic, other_version, cut_version, empty_capture, cut_capture, cut_length, cut_padding, cut_bad_padding, long_capture, badly_padded_capture, padded_capture, whole_capture, datagram, cut_datagram, entry_of}
use Rattle.wire_spec.proofs.ByteLists.{tested_bytes}
use Rattle.wire_spec.proofs.CaptureOutcomes.{shows_so}
use Rattle.wire_spec.proofs.WorkedCaptures.{reads_other_magic, reads_other_version, reads_cut_version, reads_nothing, reads_cut, reads_cut_length, reads_cut_padding, reads_cut_bad_padding, reads_long, reads_badly_padded, reads_empty, reads_whole, reads_padded}
use Rattle.wire_spec.proofs.captures.capture_rows.Goals as goal

pub returns-clause-wrong_magic : goal.returns-clause-wrong_magic
returns-clause-wrong_magic c =
    shows_so other_magic (Err (0, Magic)) (tested_bytes other_magic refl) reads_other_magic

pub returns-clause-wrong_version : goal.returns-clause-wrong_version
returns-clause-wrong_version c =
    shows_so other_version (Err (4, Version)) (tested_bytes other_version refl) reads_other_version

pub returns-clause-no_bytes : goal.returns-clause-no_bytes
returns-clause-no_bytes c = shows_so [] (Err (0, Magic)) (tested_bytes [] refl) reads_nothing

pub returns-clause-cut_arrival : goal.returns-clause-cut_arrival
returns-clause-cut_arrival c = shows_so cut_capture (Err (8, Cut)) (tested_bytes cut_capture refl) reads_cut

pub returns-clause-long_length : goal.returns-clause-long_length
returns-clause-long_length c =
    shows_so long_capture (Err (16, Long)) (tested_bytes long_capture refl) reads_long

pub returns-clause-stray_padding : goal.returns-clause-stray_padding
returns-clause-stray_padding c =
    shows_so badly_padded_capture (Err (
      47,
      Padding,
    )) (tested_bytes badly_padded_capture refl) reads_badly_padded

pub returns-clause-no_entries : goal.returns-clause-no_entries
returns-clause-no_entries c = shows_so empty_capture (Ok []) (tested_bytes empty_capture refl) reads_empty

pub returns-clause-one_entry : goal.returns-clause-one_entry
returns-clause-one_entry c =
    shows_so whole_capture (Ok (entry_of datagram ∷ [])) (tested_bytes whole_capture refl) reads_whole

pub returns-clause-padded_entry : goal.returns-clause-padded_entry
returns-clause-padded_entry c =
    shows_so padded_capture (Ok (entry_of cut_datagram ∷ [])) (tested_bytes padded_capture refl) reads_padded

pub returns-clause-half_version : goal.returns-clause-half_version
returns-clause-half_version c =
    shows_so cut_version (Err (4, Version)) (tested_bytes cut_version refl) reads_cut_version

pub returns-clause-half_length : goal.returns-clause-half_length
returns-clause-half_length c =
    shows_so cut_length (Err (8, Cut)) (tested_bytes cut_length refl) reads_cut_length

pub returns-clause-half_padding : goal.returns-clause-half_padding
returns-clause-half_padding c =
    shows_so cut_padding (Err (8, Cut)) (tested_bytes cut_padding refl) reads_cut_padding

pub returns-clause-stray_before_end : goal.returns-clause-stray_before_end
returns-clause-stray_before_end c =
    shows_so cut_bad_padding (Err (22, Padding)) (tested_bytes cut_bad_padding refl) reads_cut_bad_padding
