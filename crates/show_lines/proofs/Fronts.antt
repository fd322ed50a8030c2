-- The line of a record is that of its value: each kind of samples has lines for its own formats.
use Rattle.std.proofs.Common.{◌≡◌, ℕ, List, codes, sym, ap, ◌∙◌}
use Rattle.datagram_core.specs.Descriptions.{Description, Read, Kept, described}
use Rattle.datagram_core.specs.Kinds.{IsOfKind, HasKind}
use Rattle.datagram_core.specs.Records.{tree_in, record_tree}
use Rattle.datagram_core.specs.declared.records.Record.{Record}
use Rattle.datagram_core.specs.declared.records.RecordKind.{RecordKind}
use Rattle.data_format.specs.Values.{members_of}
use Rattle.data_format.proofs.Values.{format_of-word}
use Rattle.show_lines.specs.Lines.{frame_front}
use Rattle.show_lines.specs.Shown.{known_record, record_front}

-- the line of a record by what it is
abbrev pub front_in : Description → List ℕ
front_in (Read kind k x) = known_record kind k (members_of x.0)
front_in (Kept frame) = frame_front (codes "  record ") frame.format frame.body.now

abbrev pub front_of : Record → List ℕ
front_of r = front_in (described r)

of_kind : (kind : RecordKind) (d : Description) → IsOfKind kind d → front_in d ≡ record_front kind (tree_in d)
of_kind kind (Read own k x) same = ap (λ (y : RecordKind). known_record y k (members_of x.0)) same
of_kind kind (Kept frame) fits =
    ap (λ w. frame_front (codes "  record ") w frame.body.now) (sym (format_of-word frame.format fits.0))

-- the same of a record that is known to be this one
pub front-is : (kind : RecordKind) (r x : Record) → x ≡ r → HasKind kind x → front_of r ≡ record_front kind (record_tree x)
front-is kind r x is has = ap front_of (sym is) ∙ of_kind kind (described x) has
