-- A datagram that was read, and its spelling with zero padding.
use Rattle.std.proofs.Common.{◌≡◌, ◌≤◌, ℕ, List, length, Result, Ok, Err, sym, ap, subst, arith, ◌∙◌}
use Rattle.std.specs.Prelude.{IfOk}
use Rattle.std.proofs.lemmas.List.{length-append}
use Rattle.wire_spec.specs.declared.pad.Pad.{Pad}
use Rattle.wire_spec.specs.declared.pad.Pad.TheVariants as pads
use Rattle.wire_spec.specs.declared.fault.Fault.{Fault}
use Rattle.wire_spec.specs.Bytes.{AreBytes}
use Rattle.wire_spec.specs.Shapes.{Table, Tree}
use Rattle.wire_spec.specs.Spells.{Spells}
use Rattle.wire_spec.specs.Fails.{Remaining, Fails}
use Rattle.wire_spec.specs.Reading.{◌>>=◌, reading}
use Rattle.wire_spec.specs.Spelling.{spell}
use Rattle.wire_spec.specs.Whole.{SpellsWhole, whole_reading}
use Rattle.wire_spec.proofs.Grammar.{agrees}
use Rattle.wire_spec.proofs.OneReading.{whole_taken}
use Rattle.wire_spec.proofs.Spellings.{lawful_spelled, spelled_lawful, spelled_length, one_spelling}
use Rattle.wire_spec.proofs.Steps.{IsSo}
use Rattle.data_format.specs.Parts.{Parts}
use Rattle.datagram_core.specs.Heads.{DatagramView}
use Rattle.datagram_core.specs.Parts.{behind_version_at}
use Rattle.datagram_core.specs.Tables.{datagram_over, datagram_read}
use Rattle.datagram_core.specs.Trees.{tree_of}
use Rattle.datagram_core.proofs.Whole.{as_datagram, as_tree, parts_as_tree}

-- the spelling of what was read isn't longer than the bytes
pub short_tree : (p : Pad) (T : Table) (b : Remaining) (y : Parts × Remaining) → AreBytes b.bytes → length b.bytes ≤ 65535
    → behind_version_at p T b ≡ Ok y → length (spell (as_datagram T y.0)) ≤ 65535
short_tree p T b y fits most e =
    let s = datagram_over T in
    let t = as_datagram T y.0 in
    let step : Result (Parts × Remaining) Fault → Result (Tree × Remaining) Fault = λ r. r >>= as_tree T in
    let read : reading p s b ≡ Ok (t, y.1) = parts_as_tree p T b ∙ ap step e in
    let P : Result (Tree × Remaining) Fault → Type 0 = IsSo b (Spells p s) (Fails p s) in
    let so : P (Ok (t, y.1)) = subst P read ((agrees p s).so b fits) in
    omega (arith, most, ap length so.2, length-append so.0 y.1.bytes, spelled_length p s t so.0 so.1)

module _ (p : Pad) (bytes : List ℕ) where
  abbrev Given : Result DatagramView Fault → Type 0
  Given r = IfOk r (λ d. SpellsWhole p datagram_read bytes (tree_of d))

  pub given_length : (r : Result DatagramView Fault) → Given r
      → IfOk r (λ d. length (spell (tree_of d)) ≡ length bytes)
  given_length (Ok d) h = sym (spelled_length p datagram_read (tree_of d) bytes h.1)
  given_length (Err f) h = tt

  pub given_again : (r : Result DatagramView Fault) → Given r
      → IfOk r (λ d. (q : Pad) → whole_reading q datagram_read (spell (tree_of d)) ≡ Ok (tree_of d))
  given_again (Ok d) h = λ q.
      let t = tree_of d in
      let few : length (spell t) ≤ 65535 = omega (arith, h.0, spelled_length p datagram_read t bytes h.1) in
      whole_taken q datagram_read (spell t) t
      (few, lawful_spelled q datagram_read t (spelled_lawful p datagram_read t bytes h.1))
  given_again (Err f) h = tt

  pub given_zero : (r : Result DatagramView Fault) → Given r
      → IfOk r (λ d. p ≡ pads.Zero → spell (tree_of d) ≡ bytes)
  given_zero (Ok d) h = λ zero.
      let P : Pad → Type 0 = λ q. Spells q datagram_read (tree_of d) bytes in
      sym (one_spelling datagram_read (tree_of d) bytes (subst P zero h.1))
  given_zero (Err f) h = tt
