-- The body of a record: its fields, and behind them a tail of any length (sFlow Version 5, section 5).
use Rattle.std.specs.Prelude.{◌≡◌, ◌++◌, List, Result, Ok, ℕ}
use Rattle.wire_spec.specs.declared.pad.Pad.{Pad}
use Rattle.wire_spec.specs.declared.fault.Fault.{Fault}
use Rattle.wire_spec.specs.Shapes.{Shape, Tree}
use Rattle.wire_spec.specs.Fails.{Remaining}
use Rattle.wire_spec.specs.Reading.{◌>>=◌, reading}
use Rattle.wire_spec.specs.Spelling.{spell, spell_all, IsLawful}
use Rattle.xdr_words.specs.declared.item.Item.{Item}
use Rattle.xdr_words.specs.ItemTrees.{item_trees, AllFit}

-- the value of the fields, and the tail
abbrev pub Content : Type 0
Content = Tree × List ℕ

-- a value of the shape, and all that is left behind it
abbrev pub record_reading : Pad → Shape → Remaining → Result Content Fault
record_reading p s b = reading p s b >>= λ x. Ok (x.0, x.1.bytes)

-- the body, with zero padding
abbrev pub record_bytes : Content → List ℕ
record_bytes x = spell x.0 ++ x.1

-- wherever a body stands, and however padding is read, this is read from it
abbrev pub IsReadFrom : Shape → List ℕ → Content → Type 0
IsReadFrom s body x = (p : Pad) (at : ℕ) → record_reading p s (record { at = at; bytes = body }) ≡ Ok x

-- these items spell the fields, which are lawful, and each can be written
abbrev pub AreFieldsOf : Shape → Content → List Item → Type 0
AreFieldsOf s x items = (spell_all (item_trees items) ≡ spell x.0) × AllFit items × IsLawful s x.0
