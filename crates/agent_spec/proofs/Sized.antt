-- How many bytes a datagram has doesn't depend on its number and its uptime.
use Rattle.std.proofs.Common.{◌≡◌, ℕ, ◌+◌, ◌%◌, List, [], ◌++◌, length, sym, ap, ◌∙◌, arith}
use Rattle.std.specs.Prelude.{nat_le}
use Rattle.std.specs.Int.{w32, to_be_bytes}
use Rattle.std.proofs.lemmas.List.{length-append}
use Rattle.wire_spec.specs.Heads.{Head, address_tree, datagram_tree}
use Rattle.wire_spec.specs.Shapes.{Trees, count_of}
use Rattle.wire_spec.specs.Spelling.{spell, spell_all}
use Rattle.agent_spec.specs.Samples.{Datagram}
use Rattle.agent_spec.specs.Spelled.{Sender, sample_trees, sent_bytes, fits_in}

-- the bytes of a datagram: its head, and its samples
pub datagram-size : (h : Head) (ts : Trees)
    → length (spell (datagram_tree h ts)) ≡ 20 + length (spell (address_tree h.agent)) + length (spell_all ts)
datagram-size h ts =
    let be : ℕ → List ℕ = λ n. to_be_bytes w32 n in
    let samples : List ℕ = be (count_of ts) ++ spell_all ts in
    omega (
      arith,
      length-append (spell (address_tree h.agent)) (be h.sub_agent ++ (be h.sequence ++ (be h.uptime ++ (samples ++ [])))),
      length-append samples [],
      length-append (be (count_of ts)) (spell_all ts),
    )

pub fits-whatever : (sender : Sender) (d : Datagram)
    → fits_in sender d.samples ≡ nat_le (length (sent_bytes sender d)) sender.max_datagram
fits-whatever sender d =
    let head : ℕ → ℕ → Head =
    λ n u. record { agent = sender.agent; sub_agent = sender.sub_agent; sequence = n; uptime = u } in
    let ts : Trees = sample_trees sender.form d.samples in
    ap (λ (n : ℕ). nat_le n sender.max_datagram)
    (datagram-size (head 0 0) ts ∙ sym (datagram-size (head (d.number % 4294967296) d.uptime) ts))
