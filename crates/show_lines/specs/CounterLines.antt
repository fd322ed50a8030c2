-- The lines of counter records, up to the tail: their members in the order of the wire (sFlow Version 5, section 5).
use Rattle.std.specs.Prelude.{ℕ, List, ◌++◌, codes}
use Rattle.wire_spec.specs.Shapes.{Trees}
use Rattle.show_lines.specs.Joined.{spaced_text}

unfoldable pub interface_front : Trees → List ℕ
interface_front members = codes "  if" ++ spaced_text members

unfoldable pub dot3_front : Trees → List ℕ
dot3_front members = codes "  dot3" ++ spaced_text members

unfoldable pub vlan_front : Trees → List ℕ
vlan_front members = codes "  vlan" ++ spaced_text members

unfoldable pub processor_front : Trees → List ℕ
processor_front members = codes "  processor" ++ spaced_text members
